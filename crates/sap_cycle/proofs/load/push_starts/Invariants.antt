use Rattle.std.proofs.Common.{◌≡◌, ◌++◌, map, take}
use Rattle.sap_cycle.proofs.load.push_starts.Given as goal

abbrev pub invariant-loop-register : goal.invariant-loop-register
invariant-loop-register l = l.numbers.items ≡ l.fn.numbers.items ++ map (λ r. r.start) (take l.register-index l.registers)
