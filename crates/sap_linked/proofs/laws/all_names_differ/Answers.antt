use Rattle.sap_linked.proofs.Differing.{all_names_differ}
use Rattle.sap_linked.proofs.laws.all_names_differ.Goals as goal

pub returns : goal.returns
returns c = all_names_differ c.inputs_in_order.ensures
