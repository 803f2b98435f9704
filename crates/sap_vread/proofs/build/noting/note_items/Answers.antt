use Rattle.std.proofs.Common.{ℕ, List, arith}
use Rattle.sap_vparse.specs.declared.items.Item.{Item}
use Rattle.sap_vparse.specs.Views.{item_of, items_of}
use Rattle.sap_vread.specs.Build.Noted.{noted, all_noted}
use Rattle.sap_vread.proofs.build.NotedLists.{all_noted-none, all_noted-cons}
use Rattle.sap_vread.proofs.build.Tabled.{noted_step, noted_end}
use Rattle.sap_vread.proofs.build.noting.note_items.Goals as goal

pub loop-place-preserved : goal.loop-place-preserved
loop-place-preserved c = λ n.
    noted_step (λ (k : ℕ) (xs : List Item). all_noted c.args.noting n k (items_of xs)) (λ k x. noted c.args.noting n k (item_of x))
    (λ k x xs. all_noted-cons c.args.noting n k (item_of x) (items_of xs))
    c.args.items.now c.loop-place.place c.loop-place.place _ _ _ _ (omega arith) c.index-items-place.is (c.in_ok-note_item.ensures n) (c.loop-place.invariant n)

pub returns : goal.returns
returns c = λ n.
    noted_end (λ (xs : List Item). all_noted c.args.noting n c.loop-place.place (items_of xs))
    (all_noted-none c.args.noting n c.loop-place.place) c.args.items.now c.loop-place.place _ _
    (omega arith) (c.loop-place.invariant n)
