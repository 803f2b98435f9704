use Rattle.std.proofs.Common.{◌≡◌, ◌++◌, drop}
use Rattle.sap_taint_pass.specs.Tainted as spec
use Rattle.sap_taint_pass.proofs.registers.tagged_registers.Given as goal

abbrev pub invariant-loop-register : goal.invariant-loop-register
invariant-loop-register l = l.made.items ++ spec.tagged_registers l.width (drop l.register-index l.registers) ≡ spec.tagged_registers l.width l.registers
