use Rattle.std.proofs.Common.{◌≡◌, ℕ, [], drop}
use Rattle.sap_net.specs.Net.{Net}
use Rattle.sap_build.specs.Writing.{grown}
use Rattle.sap_taint_pass.specs.Tainted.{tag_wires, help_for_wires}
use Rattle.sap_taint_pass.specs.Helping.{helping_name}
use Rattle.sap_taint_pass.specs.Helped.{help_from, Helped}
use Rattle.sap_taint_pass.proofs.wires.add_tag_wires.Given as goal

abbrev pub invariant-loop-wire : goal.invariant-loop-wire
invariant-loop-wire l =
    (n : Net) (k : ℕ) → Helped n k l.fn.writer
    → (j : ℕ) × Helped n j l.writer
    × (grown (help_from n j (help_for_wires (drop l.wire-index l.wires))) (tag_wires (helping_name n) l.width j (drop l.wire-index l.wires)) [] l.writer
    ≡ grown (help_from n k (help_for_wires l.wires)) (tag_wires (helping_name n) l.width k l.wires) [] l.fn.writer)
