use Rattle.std.proofs.Common.{◌≡◌, ◌++◌, flat_map, take}
use Rattle.sap_vread.specs.Build.Built as spec
use Rattle.sap_vread.specs.Build.Firsts.{number_of}
use Rattle.sap_vparse.specs.Views.{item_of}
use Rattle.sap_vread.proofs.build.wires.push_wires.Given as goal

abbrev pub invariant-loop-item : goal.invariant-loop-item
invariant-loop-item l = l.wires.items ≡ l.initial.wires.items ++ flat_map (λ x. spec.built_wires (number_of l.ranges) (item_of x)) (take l.item-index l.items)
