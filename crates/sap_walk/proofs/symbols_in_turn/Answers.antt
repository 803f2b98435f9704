use Rattle.sap_walk.proofs.Laws.{in_turn}
use Rattle.sap_walk.proofs.symbols_in_turn.Goals as goal

pub returns : goal.returns
returns g c = in_turn _ _ _ _ _
