use Rattle.sap_lemmas.proofs.Common.{◌∙◌, ◌∷◌, [], List, refl, sym, subst, append-nil}
use Rattle.sap_vtext.specs.Grammar as g
use Rattle.sap_vtext.specs.Grammar.{AreItems}
use Rattle.sap_vtext.specs.Items as item
use Rattle.sap_vparse.specs.Views.{item_of, items_of}
use Rattle.sap_vparse.proofs.ItemLaws.{items_more}
use Rattle.sap_vparse.proofs.Lists.{pushed}
use Rattle.sap_walk.proofs.Walking.{bind_ok, bind_pure}
use Rattle.sap_vparse.proofs.file.items.Goals as goal

pub items-preserved : goal.items-preserved
items-preserved c = record {
  goes = c.items.invariant.goes ∙ items_more c.items.tokens (c.items-test.ensures.no refl) ∙ bind_ok _ _ _ c.in_ok-next.ensures.goes ∙ bind_pure _;
  tree = λ xs m rest.
      subst (λ (ys : List item.Item). AreItems c.args.tokens.now ys m) (pushed item_of c.items.list.items c.in_ok-next.next c.push.new.self.items xs c.in_ok-push.ensures.items)
      (c.items.invariant.tree (item_of c.in_ok-next.next ∷ xs) m (g.next_item c.in_ok-next.ensures.tree rest));
}

pub returns-clause-tree : goal.returns-clause-tree
returns-clause-tree c = record {
  last = c.items.tokens;
  items = subst (λ (xs : List item.Item). AreItems c.args.tokens.now xs c.items.tokens) (append-nil (items_of c.items.list.items))
      (c.items.invariant.tree [] c.items.tokens g.no_item);
  close = subst (λ (q : List _). g.IsWord c.items.tokens _ q) (sym c.end.ensures.stays) c.in_ok-word.ensures.tree;
}
