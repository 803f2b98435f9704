use Rattle.std.proofs.Common.{ℕ, List, sym, subst, arith}
use Rattle.sap_check.specs.Checked.{tree_in}
use Rattle.sap_explain.specs.Comments.{AreCommentLines}
use Rattle.sap_explain.specs.Explanation.{design_comments}
use Rattle.sap_explain.proofs.CommentLines.{InLine}
use Rattle.sap_explain.proofs.PartLines.{comments_end, comments_step, name_at_part}
use Rattle.sap_explain.proofs.laws.parts_are_comments.Goals as goal

pub design_is_comments-requires : goal.design_is_comments-requires
design_is_comments-requires c =
    subst InLine (sym c.as_bytes.ensures)
    (name_at_part c.args.parts.now c.requires c.loop-part.part-index c.part-item.result (omega arith) c.part-item.is)

pub loop-part-preserved : goal.loop-part-preserved
loop-part-preserved c =
    let p = c.part-item.result in
    let one = subst (λ (name : List ℕ). AreCommentLines (design_comments name (tree_in p.checked.now))) c.as_bytes.ensures c.design_is_comments.ensures in
    comments_step c.args.parts.now c.loop-part.part-index p (omega arith) c.part-item.is one c.loop-part.invariant

pub returns : goal.returns
returns c = comments_end c.args.parts.now c.loop-part.part-index (omega arith) c.loop-part.invariant
