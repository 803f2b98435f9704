use Rattle.std.proofs.Common.{◌≡◌, ◌++◌, flat_map, take}
use Rattle.sap_vread.specs.Build.Built as spec
use Rattle.sap_vread.specs.Build.Firsts.{number_of}
use Rattle.sap_vparse.specs.Views.{item_of}
use Rattle.sap_vread.proofs.build.edges.push_memories.Given as goal

abbrev pub invariant-loop-item : goal.invariant-loop-item
invariant-loop-item l = l.memories.items ≡ l.initial.memories.items
    ++ flat_map (λ x. spec.item_memories (number_of l.tables.starts) (number_of l.tables.writes) l.items (item_of x)) (take l.item-index l.items)
