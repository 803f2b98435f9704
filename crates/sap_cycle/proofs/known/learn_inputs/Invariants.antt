use Rattle.sap_lemmas.proofs.Common.{◌≡◌, ℕ, List, ◌++◌, take, map, AllByRecursion}
use Rattle.sap_maps.specs.Maps.{Name}
use Rattle.sap_net.specs.declared.parts.Memory.{Memory}
use Rattle.sap_cycle.specs.Known.{Knows}
use Rattle.sap_cycle.proofs.known.learn_inputs.Given as goal

abbrev pub invariant-loop-input : goal.invariant-loop-input
invariant-loop-input l =
    (f : Name → ℕ) (ms : List Memory) (names : List Name) → Knows f ms names l.fn.known → AllByRecursion (λ i. f i.name ≡ i.width) l.inputs
    → Knows f ms (names ++ map (λ i. i.name) (take l.input-index l.inputs)) l.known
