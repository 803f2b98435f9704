use Rattle.std.proofs.Common.{◌∙◌, sym, arith}
use Rattle.sap_vjudge.specs.Tables.{known_of}
use Rattle.sap_vjudge.proofs.Parts.{part_none, part_some, part_end}
use Rattle.sap_vjudge.proofs.width.parts_width.Goals as goal

pub returns-in-None : goal.returns-in-None
returns-in-None c =
    part_none (known_of c.args.table.now) c.args.parts.now c.loop-part.part-index c.loop-part.sum _ c.loop-part.invariant.0 c.part-item.result (omega arith) c.part-item.is
    (sym c.in-None.is ∙ c.operand_width.ensures.width)

pub loop-part-preserved : goal.loop-part-preserved
loop-part-preserved c = (
  part_some (known_of c.args.table.now) c.args.parts.now c.loop-part.part-index c.loop-part.sum _ c.loop-part.invariant.0 c.part-item.result
      c.in-Some.width (omega arith) c.part-item.is
      (sym c.in-Some.is ∙ c.operand_width.ensures.width),
  (let bound = c.in-Some.ensures.bounded in let sum = c.loop-part.invariant.1 in omega arith),
)

pub returns : goal.returns
returns c = part_end (known_of c.args.table.now) c.args.parts.now c.loop-part.part-index c.loop-part.sum _ c.loop-part.invariant.0 (omega arith)
