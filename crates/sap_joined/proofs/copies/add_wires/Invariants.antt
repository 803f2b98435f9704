use Rattle.std.proofs.Common.{◌≡◌, ◌++◌, drop, map}
use Rattle.sap_build.specs.Copies as copies
use Rattle.sap_joined.specs.Joined as spec
use Rattle.sap_joined.specs.Seen as seen
use Rattle.sap_joined.proofs.copies.add_wires.Given as goal

abbrev pub invariant-loop-part : goal.invariant-loop-part
invariant-loop-part l = l.made.items ++ spec.copies_of (λ n. n.wires) copies.copy_wire (map seen.named_net (drop l.part-index l.parts))
    ≡ l.fn.made.items ++ spec.copies_of (λ n. n.wires) copies.copy_wire (map seen.named_net l.parts)
