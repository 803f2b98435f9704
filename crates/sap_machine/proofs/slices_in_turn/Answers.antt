use Rattle.sap_machine.proofs.InTurn.{slices_in_turn}
use Rattle.sap_machine.proofs.slices_in_turn.Goals as goal

pub returns : goal.returns
returns c = slices_in_turn
