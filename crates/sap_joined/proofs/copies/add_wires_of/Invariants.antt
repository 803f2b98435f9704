use Rattle.std.proofs.Common.{◌≡◌, ◌++◌, drop, map}
use Rattle.sap_build.specs.Copies as copies
use Rattle.sap_linked.specs.Parts as parts
use Rattle.sap_joined.proofs.copies.add_wires_of.Given as goal

abbrev pub invariant-loop-wire : goal.invariant-loop-wire
invariant-loop-wire l = l.made.items ++ map (copies.copy_wire (parts.in_part l.part)) (drop l.wire-index l.wires) ≡ l.fn.made.items
    ++ map (copies.copy_wire (parts.in_part l.part)) l.wires
