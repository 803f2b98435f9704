use Rattle.std.proofs.Common.{◌≡◌, ◌∙◌}
use Rattle.sap_taint_pass.specs.Helped.{begun}
use Rattle.sap_taint_pass.proofs.Made.{all_driven}
use Rattle.sap_taint_pass.proofs.taint.drive.Goals as goal

pub returns : goal.returns
returns c =
    let n = c.args.netlist.now in
    let w = c.args.width in
    let start : c.in_ok-writer.writer ≡ begun w n = c.in_ok-writer.ensures {u = tt} ∙ c.in_ok-parts.ensures {u = tt} in
    c.into_parts.ensures
    ∙ all_driven w n c.in_ok-writer.writer c.add_tag_wires.new.writer c.add_memories.new.writer c.wires.result.now c.memories.result.now start c.wires.ensures c.memories.ensures
    (λ k h. c.in_ok-add_tag_wires.ensures {u = tt} n k h) (λ k h. c.in_ok-add_memories.ensures {u = tt} n k h)
