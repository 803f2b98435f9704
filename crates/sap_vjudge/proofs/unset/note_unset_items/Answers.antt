use Rattle.std.proofs.Common.{◌∙◌, List, refl, arith}
use Rattle.sap_vtext.specs.Names.{item_declarations, Known}
use Rattle.sap_vparse.specs.declared.items.Item.{Item}
use Rattle.sap_vparse.specs.Views.{item_of, items_of}
use Rattle.sap_vjudge.specs.Listed.{unsets_faults, items_unset}
use Rattle.sap_vjudge.specs.Tables.{known_of}
use Rattle.sap_vjudge.proofs.Lists.{items_unset-none, items_unset-cons}
use Rattle.sap_vjudge.proofs.Loops.{loop_step, loop_end}
use Rattle.sap_vjudge.proofs.unset.note_unset_items.Goals as goal

pub loop-item-preserved : goal.loop-item-preserved
loop-item-preserved c =
    loop_step (λ (k : Known) (xs : List Item). items_unset k (items_of xs)) (λ k x. unsets_faults k (item_declarations (item_of x))) (λ k x. k) (λ k. items_unset-none k)
    (λ k x xs. items_unset-cons k (item_of x) (items_of xs)) c.args.items.now c.loop-item.item-index _ (known_of c.args.table.now)
    (known_of c.args.table.now) _ _ (omega arith) c.item-item.is c.note_unset_item.ensures refl
    ∙ c.loop-item.invariant

pub returns : goal.returns
returns c =
    loop_end (λ (k : Known) (xs : List Item). items_unset k (items_of xs)) (λ k x. unsets_faults k (item_declarations (item_of x))) (λ k x. k) (λ k. items_unset-none k)
    (λ k x xs. items_unset-cons k (item_of x) (items_of xs)) c.args.items.now c.loop-item.item-index (known_of c.args.table.now) _ _ (omega arith) c.loop-item.invariant
