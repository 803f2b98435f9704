use Rattle.std.proofs.Common.{◌≡◌, take}
use Rattle.sap_build.proofs.copies.copy_wires.Given as goal

abbrev pub invariant-loop-wire : goal.invariant-loop-wire
invariant-loop-wire l = l.copies.items ≡ take l.wire-index l.wires
