use Rattle.std.proofs.Common.{◌≡◌, ◌++◌, drop, map}
use Rattle.sap_trim.specs.Replaced.{standing_operand}
use Rattle.sap_trim.proofs.replace.stand_all.Given as goal
use Rattle.sap_maps.specs.Scope.{find}

abbrev pub invariant-loop-operand : goal.invariant-loop-operand
invariant-loop-operand l = l.made.items ++ map (standing_operand (find l.stands)) (drop l.operand-index l.operands) ≡ map (standing_operand (find l.stands)) l.operands
