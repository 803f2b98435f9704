use Rattle.sap_wave.proofs.Adding.{blocks_add_up}
use Rattle.sap_wave.proofs.blocks_add_up.Goals as goal

pub returns : goal.returns
returns c = blocks_add_up
