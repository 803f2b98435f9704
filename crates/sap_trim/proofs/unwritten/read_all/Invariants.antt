use Rattle.std.proofs.Common.{◌≡◌, ◌++◌, map}
use Rattle.sap_trim.specs.Unwritten.{read_wire}
use Rattle.sap_trim.proofs.unwritten.read_all.Given as goal

abbrev pub invariant-loop-wire : goal.invariant-loop-wire
invariant-loop-wire l = l.made.items ++ map (read_wire l.memories) l.wire-iterator.rest.items ≡ map (read_wire l.memories) l.fn.wires.items
