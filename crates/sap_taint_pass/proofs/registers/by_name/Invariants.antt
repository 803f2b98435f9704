use Rattle.std.proofs.Common.{◌≡◌, ◌++◌, map, drop}
use Rattle.sap_taint_pass.proofs.registers.by_name.Given as goal

abbrev pub invariant-loop-register : goal.invariant-loop-register
invariant-loop-register l = l.entries.items ++ map (λ r. (r.name, r)) (drop l.register-index l.registers) ≡ map (λ r. (r.name, r)) l.registers
