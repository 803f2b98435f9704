use Rattle.sap_taint.proofs.Worked.{tags, hands_on, stores, netlists}
use Rattle.sap_taint.proofs.examples.worked_taint.Goals as goal

pub returns : goal.returns
returns c = record { tags = tags; hands_on = hands_on; stores = stores; netlists = netlists }
