use Rattle.std.proofs.Common.{arith}
use Rattle.sap_program.specs.Views.{term_of}
use Rattle.sap_tags_terms.specs.Code.{world_in}
use Rattle.sap_tags_terms.proofs.Words.{part_within}
use Rattle.sap_tags_terms.proofs.calcs.+width_of.Goals as goal

pub overflow_add-result-in-Part : goal.overflow_add-result-in-Part
overflow_add-result-in-Part t c =
    let h = part_within (world_in c.args.setting.now) (term_of c.in-Part.of.value) c.in-Part.hi c.in-Part.lo (rw c.in-Part.is at c.requires) in
    omega (arith, h.0, h.1)

pub overflow_cast-result-in-Part : goal.overflow_cast-result-in-Part
overflow_cast-result-in-Part t c =
    let h = part_within (world_in c.args.setting.now) (term_of c.in-Part.of.value) c.in-Part.hi c.in-Part.lo (rw c.in-Part.is at c.requires) in
    omega (arith, h.0, h.1)
