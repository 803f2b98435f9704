use Rattle.std.proofs.Common.{arith}
use Rattle.sap_program.specs.Views.{term_of}
use Rattle.sap_tags_terms.specs.Code.{world_in}
use Rattle.sap_tags_terms.proofs.Words.{part_within}
use Rattle.sap_tags_terms.proofs.calcs.+expr.Goals as goal

pub overflow_cast-hi : goal.overflow_cast-hi
overflow_cast-hi t c =
    let h = part_within (world_in c.args.setting.now) (term_of c.in-Part.of.value) c.in-Part.hi c.in-Part.lo (rw c.in-Part.is at c.requires) in
    omega (arith, h.0, h.1)

pub overflow_cast-lo : goal.overflow_cast-lo
overflow_cast-lo t c =
    let h = part_within (world_in c.args.setting.now) (term_of c.in-Part.of.value) c.in-Part.hi c.in-Part.lo (rw c.in-Part.is at c.requires) in
    omega (arith, h.0, h.1)
