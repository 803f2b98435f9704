use Rattle.std.proofs.Common.{◌≡◌, drop}
use Rattle.sap_vjudge.specs.Best.{best_of}
use Rattle.sap_vjudge.specs.Listed.{items_unset}
use Rattle.sap_vjudge.specs.Tables.{known_of}
use Rattle.sap_vparse.specs.Views.{items_of}
use Rattle.sap_vjudge.proofs.unset.note_unset_items.Given as goal

-- what is left gives the first of all
abbrev pub invariant-loop-item : goal.invariant-loop-item
invariant-loop-item l =
    best_of l.best (items_unset (known_of l.table) (items_of (drop l.item-index l.items))) ≡ best_of l.initial.best (items_unset (known_of l.table) (items_of l.items))
