use Rattle.std.proofs.Common.{◌≡◌, ◌++◌, drop, map}
use Rattle.sap_joined.proofs.whole.add_register_names.Given as goal

abbrev pub invariant-loop-register : goal.invariant-loop-register
invariant-loop-register l = l.made.items ++ map (λ r. r.name) (drop l.register-index l.registers) ≡ l.fn.made.items ++ map (λ r. r.name) (l.registers)
