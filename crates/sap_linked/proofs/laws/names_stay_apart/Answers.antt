use Rattle.sap_linked.proofs.Apart.{stay_apart}
use Rattle.sap_linked.proofs.Keeping.{parts_keep_apart}
use Rattle.sap_linked.proofs.laws.names_stay_apart.Goals as goal

pub returns : goal.returns
returns c = record { all = stay_apart; part = parts_keep_apart }
