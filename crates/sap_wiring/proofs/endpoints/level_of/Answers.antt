use Rattle.std.proofs.Common.{ap, ◌∙◌}
use Rattle.sap_lattice.specs.Levels.{level_named}
use Rattle.sap_wiring.specs.Wiring.{seen}
use Rattle.sap_wiring.proofs.Naming.{none_is}
use Rattle.sap_wiring.proofs.Judging.{unknown_level}
use Rattle.sap_wiring.proofs.endpoints.level_of.Goals as goal

pub returns-in_err-level-in-Some : goal.returns-in_err-level-in-Some
returns-in_err-level-in-Some c = none_is _ _ _ c.from_residual.ensures (
    unknown_level (seen c.args.around.now) c.args.text.now c.in-Some.name c.in-Some.is (c.in_err-level-in-Some.ensures
    ∙ ap (level_named c.args.around.now.lattice.now.names) c.as_bytes.ensures)
    )
