use Rattle.std.proofs.Common.{◌≡◌, ◌++◌, drop}
use Rattle.sap_trim.proofs.build.add_wires.Given as goal
use Rattle.sap_net.specs.IsNetlist.{names_of}

abbrev pub invariant-loop-wire : goal.invariant-loop-wire
invariant-loop-wire l = l.made.items ++ names_of (drop l.wire-index l.wires) ≡ l.fn.made.items ++ names_of l.wires
