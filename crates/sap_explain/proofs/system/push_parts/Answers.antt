use Rattle.std.proofs.Common.{ℕ, List, ◌++◌, arith, ap, ◌∙◌}
use Rattle.sap_check.specs.Checked.{tree_in}
use Rattle.sap_explain.specs.Explanation.{design_comments}
use Rattle.sap_explain.proofs.PartLines.{parts_end, parts_step}
use Rattle.sap_explain.proofs.system.push_parts.Goals as goal

pub loop-part-preserved : goal.loop-part-preserved
loop-part-preserved c =
    let p = c.part-item.result in
    let one = ap (λ (name : List ℕ). c.loop-part.out.items ++ design_comments name (tree_in p.checked.now)) c.as_bytes.ensures in
    parts_step c.args.parts.now c.loop-part.part-index p _ _ _ (omega arith) c.part-item.is (c.in_ok-push_design.ensures ∙ one) c.loop-part.invariant

pub returns : goal.returns
returns c = parts_end c.args.parts.now c.loop-part.part-index _ _ (omega arith) c.loop-part.invariant
