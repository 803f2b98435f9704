use Rattle.std.proofs.Common.{refl, sym}
use Rattle.sap_wave.specs.Steps.{open_of}
use Rattle.sap_wave.proofs.Reached.{lacks}
use Rattle.sap_wave.proofs.reading.ended_block.Goals as goal

pub returns-then-not-is_full-clause-fault : goal.returns-then-not-is_full-clause-fault
returns-then-not-is_full-clause-fault c =
    (refl, lacks c.args.variables.items (open_of c.args.block) (sym c.if-not-is_full.ensures))

pub ended_in-requires : goal.ended_in-requires
ended_in-requires c = sym c.if-not-is_full.ensures
