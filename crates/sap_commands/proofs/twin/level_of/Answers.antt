use Rattle.std.proofs.Common.{refl}
use Rattle.sap_commands.proofs.LevelNames.{level_found, level_missing}
use Rattle.sap_commands.proofs.twin.level_of.Goals as goal

pub returns-in-Some : goal.returns-in-Some
returns-in-Some c = level_found c.args.lattice.now.names c.args.word.now c.in-Some.level c.lawful.ensures.names c.in-Some.ensures

pub returns-in-None : goal.returns-in-None
returns-in-None c = (level_missing c.args.lattice.now.names c.args.word.now c.in-None.ensures, refl)
