use Rattle.std.proofs.Common.{◌≡◌, ◌++◌, drop}
use Rattle.sap_taint_pass.specs.Tainted.{tags_of}
use Rattle.sap_taint_pass.proofs.joins.add_tags.Given as goal

abbrev pub invariant-loop-operand : goal.invariant-loop-operand
invariant-loop-operand l = l.tags.items ++ tags_of (drop l.operand-index l.operands) ≡ l.fn.tags.items ++ tags_of l.operands
