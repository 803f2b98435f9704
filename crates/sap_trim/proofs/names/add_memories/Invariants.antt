use Rattle.std.proofs.Common.{◌≡◌, ◌||◌, drop, map}
use Rattle.sap_maps.specs.Maps.{Name}
use Rattle.sap_net.specs.Names.{is_among}
use Rattle.sap_share.specs.Sets.{holds}
use Rattle.sap_trim.proofs.names.add_memories.Given as goal

abbrev pub invariant-loop-memory : goal.invariant-loop-memory
invariant-loop-memory l =
    (n : Name) → (is_among n (map (λ x. x.name) (drop l.memory-index l.memories)) || holds l.names n) ≡ (is_among n (map (λ x. x.name) l.memories) || holds l.fn.names n)
