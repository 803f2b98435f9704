use Rattle.std.proofs.Common.{◌≡◌, ◌++◌, flat_map, take}
use Rattle.sap_vread.specs.Build.Built as spec
use Rattle.sap_vread.specs.Build.Firsts.{number_of}
use Rattle.sap_vparse.specs.Views.{item_of}
use Rattle.sap_vread.proofs.build.edges.push_registers.Given as goal

abbrev pub invariant-loop-item : goal.invariant-loop-item
invariant-loop-item l = l.registers.items ≡ l.initial.registers.items
    ++ flat_map (λ x. spec.item_registers (number_of l.tables.starts) (number_of l.tables.nexts) l.items (item_of x)) (take l.item-index l.items)
