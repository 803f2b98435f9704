use Rattle.std.proofs.Common.{◌≡◌, ◌++◌, take, map}
use Rattle.sap_cycle.specs.Known.{part_found}
use Rattle.sap_cycle.proofs.known.push_parts.Given as goal

abbrev pub invariant-loop-operand : goal.invariant-loop-operand
invariant-loop-operand l = l.parts.items ≡ l.fn.parts.items ++ map (part_found l.known) (take l.operand-index l.operands)
