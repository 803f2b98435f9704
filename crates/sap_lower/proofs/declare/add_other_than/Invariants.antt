use Rattle.std.proofs.Common.{◌≡◌, ◌++◌, drop}
use Rattle.sap_net.specs.IsNetlist.{names_of}
use Rattle.sap_lower.specs.Lowered.{unported}
use Rattle.sap_lower.proofs.declare.add_other_than.Given as goal

abbrev pub invariant-loop-wire : goal.invariant-loop-wire
invariant-loop-wire l = l.made.items ++ unported l.ports (names_of (drop l.wire-index l.wires)) ≡ l.fn.made.items ++ unported l.ports (names_of l.wires)
