use Rattle.sap_lemmas.proofs.Common.{◌≡◌, ℕ, List, ◌++◌, take, map, AllByRecursion}
use Rattle.sap_maps.specs.Maps.{Name}
use Rattle.sap_net.specs.declared.parts.Memory.{Memory}
use Rattle.sap_cycle.specs.Known.{Knows}
use Rattle.sap_cycle.proofs.known.learn_registers.Given as goal

abbrev pub invariant-loop-register : goal.invariant-loop-register
invariant-loop-register l =
    (f : Name → ℕ) (ms : List Memory) (names : List Name) → Knows f ms names l.fn.known → AllByRecursion (λ r. f r.name ≡ r.width) l.registers
    → Knows f ms (names ++ map (λ r. r.name) (take l.register-index l.registers)) l.known
