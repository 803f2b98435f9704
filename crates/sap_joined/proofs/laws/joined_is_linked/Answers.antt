use Rattle.sap_joined.proofs.Linked.{joined_is_linked}
use Rattle.sap_joined.proofs.laws.joined_is_linked.Goals as goal

pub returns : goal.returns
returns c = joined_is_linked c.inputs_in_order.ensures c.all_names_differ.ensures
