use Rattle.std.proofs.Common.{◌≡◌, ◌++◌, map, flat_map, take}
use Rattle.sap_vtext.specs.Names.{item_declarations}
use Rattle.sap_vparse.specs.Views.{item_of}
use Rattle.sap_vread.proofs.build.names.push_item_names.Given as goal

abbrev pub invariant-loop-item : goal.invariant-loop-item
invariant-loop-item l = l.names.items ≡ l.initial.names.items ++ flat_map (λ x. map (λ d. d.name.name) (item_declarations (item_of x))) (take l.item-index l.items)
