use Rattle.std.proofs.Common.{◌≡◌, ◌++◌, drop, filter, map}
use Rattle.sap_share.specs.Sets.{holds}
use Rattle.sap_joined.specs.Joined as spec
use Rattle.sap_joined.proofs.whole.add_memory_names.Given as goal

abbrev pub invariant-loop-memory : goal.invariant-loop-memory
invariant-loop-memory l = l.made.items ++ filter (spec.is_hidden (holds l.shown)) (map (λ m. m.name) (drop l.memory-index l.memories))
    ≡ l.fn.made.items ++ filter (spec.is_hidden (holds l.shown)) (map (λ m. m.name) (l.memories))
