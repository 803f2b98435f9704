use Rattle.std.proofs.Common.{◌≡◌, ◌++◌, map, drop}
use Rattle.sap_trim.specs.Walked.{itself}
use Rattle.sap_trim.proofs.walk.add_registers.Given as goal

abbrev pub invariant-loop-register : goal.invariant-loop-register
invariant-loop-register l =
    l.entries.items ++ map itself (map (λ y. y.name) (drop l.register-index l.registers)) ≡ l.fn.entries.items ++ map itself (map (λ y. y.name) l.registers)
