use Rattle.std.proofs.Common.{◌∙◌, List, arith}
use Rattle.sap_vtext.specs.Names.{Known}
use Rattle.sap_vparse.specs.declared.items.Item.{Item}
use Rattle.sap_vparse.specs.Views.{item_of, items_of}
use Rattle.sap_vjudge.specs.Known.{after_item, after_items}
use Rattle.sap_vjudge.specs.Listed.{item_faults, items_faults}
use Rattle.sap_vjudge.proofs.Lists.{items_faults-none, items_faults-cons, after_items-none, after_items-cons}
use Rattle.sap_vjudge.proofs.Loops.{loop_step, loop_end, after_step, after_end}
use Rattle.sap_vjudge.proofs.items.read_items.Goals as goal

pub loop-item-preserved : goal.loop-item-preserved
loop-item-preserved c = (
  loop_step (λ (k : Known) (xs : List Item). items_faults k (items_of xs)) (λ k x. item_faults k (item_of x)) (λ k x. after_item k (item_of x)) (λ k. items_faults-none k)
      (λ k x xs. items_faults-cons k (item_of x) (items_of xs)) c.args.items.now c.loop-item.item-index _ _ _ _ _ (omega arith)
      c.item-item.is c.note_item.ensures c.in_ok-add_item.ensures
      ∙ c.loop-item.invariant.0,
  after_step (λ (k : Known) (xs : List Item). after_items k (items_of xs)) (λ k x. after_item k (item_of x)) (λ k. after_items-none k)
      (λ k x xs. after_items-cons k (item_of x) (items_of xs)) c.args.items.now c.loop-item.item-index _ _ _ (omega arith) c.item-item.is c.in_ok-add_item.ensures
      ∙ c.loop-item.invariant.1,
)

pub returns-clause-best : goal.returns-clause-best
returns-clause-best c =
    loop_end (λ (k : Known) (xs : List Item). items_faults k (items_of xs)) (λ k x. item_faults k (item_of x)) (λ k x. after_item k (item_of x)) (λ k. items_faults-none k)
    (λ k x xs. items_faults-cons k (item_of x) (items_of xs)) c.args.items.now c.loop-item.item-index _ _ _ (omega arith) c.loop-item.invariant.0

pub returns-clause-known : goal.returns-clause-known
returns-clause-known c =
    after_end (λ (k : Known) (xs : List Item). after_items k (items_of xs)) (λ k x. after_item k (item_of x)) (λ k. after_items-none k)
    (λ k x xs. after_items-cons k (item_of x) (items_of xs)) c.args.items.now c.loop-item.item-index _ _ (omega arith) c.loop-item.invariant.1
