use Rattle.std.proofs.Common.{◌≡◌, ◌++◌, drop}
use Rattle.sap_share.specs.Keys.{operands_bytes}
use Rattle.sap_share.proofs.keys.add_operands.Given as goal

abbrev pub invariant-loop-operand : goal.invariant-loop-operand
invariant-loop-operand l = l.key.items ++ operands_bytes (drop l.operand-index l.operands) ≡ l.fn.key.items ++ operands_bytes l.operands
