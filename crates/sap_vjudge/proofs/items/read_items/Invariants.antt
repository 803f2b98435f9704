use Rattle.std.proofs.Common.{◌≡◌, drop}
use Rattle.sap_vjudge.specs.Best.{best_of}
use Rattle.sap_vjudge.specs.Known.{after_items}
use Rattle.sap_vjudge.specs.Listed.{items_faults}
use Rattle.sap_vjudge.specs.Tables.{known_of}
use Rattle.sap_vparse.specs.Views.{items_of}
use Rattle.sap_vjudge.proofs.items.read_items.Given as goal

-- what is left gives the first of all, and what is known in the end
abbrev pub invariant-loop-item : goal.invariant-loop-item
invariant-loop-item l =
    (best_of l.best (items_faults (known_of l.table) (items_of (drop l.item-index l.items))) ≡ best_of l.initial.best (items_faults (known_of l.initial.table) (items_of l.items)))
    × (after_items (known_of l.table) (items_of (drop l.item-index l.items)) ≡ after_items (known_of l.initial.table) (items_of l.items))
