use Rattle.sap_lattice.specs.Diamond.{diamond}
use Rattle.sap_gen.proofs.Diamonds.{diamond_is, diamond_names}
use Rattle.sap_gen.proofs.Sound.{design_is_whole, well_formed}
use Rattle.sap_gen.proofs.laws.generated_is_sound.Goals as goal

pub returns : goal.returns
returns c = record { lattice = diamond_is; whole = design_is_whole; well_formed = well_formed diamond diamond_names }
