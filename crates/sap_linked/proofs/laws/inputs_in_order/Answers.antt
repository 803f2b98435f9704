use Rattle.sap_linked.proofs.Order.{inputs_in_order}
use Rattle.sap_linked.proofs.laws.inputs_in_order.Goals as goal

pub returns : goal.returns
returns c = inputs_in_order
