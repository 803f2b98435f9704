use Rattle.std.proofs.Common.{◌≡◌, map, take}
use Rattle.sap_vtext.specs.Modules as text
use Rattle.sap_vread.specs.Build.Narrow.{narrow_operand}
use Rattle.sap_vparse.specs.Views.{operand_of}
use Rattle.sap_vread.proofs.build.operands.operands.Given as goal

abbrev pub invariant-loop-x : goal.invariant-loop-x
invariant-loop-x l = l.operands.items ≡ map (λ o. text.net_operand (narrow_operand (operand_of o))) (take l.x-index l.list)
