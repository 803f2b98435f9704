use Rattle.sap_lemmas.proofs.Common.{◌∙◌, ◌++◌, ◌∷◌, [], refl, sym, ap, arith, append-nil}
use Rattle.sap_vtext.specs.Grammar as g
use Rattle.sap_vtext.specs.Tokens as t
use Rattle.sap_vparse.specs.Table as s
use Rattle.sap_vparse.specs.Views.{operand_of, operands_of}
use Rattle.sap_vparse.specs.declared.items.Operand.{Operand}
use Rattle.sap_vparse.proofs.Faults.{ends_with, if_ok}
use Rattle.sap_vparse.proofs.Laws.{parts_end, parts_more}
use Rattle.sap_vparse.proofs.Lists.{pushed}
use Rattle.sap_walk.proofs.Walking.{bind_ok, bind_pure}
use Rattle.sap_vparse.proofs.right.parts.Goals as goal

pub parts-preserved : goal.parts-preserved
parts-preserved c = record {
  goes = c.parts.invariant.goes ∙ parts_more c.parts.tokens (c.parts-test.ensures.yes refl) ∙ bind_ok _ _ _ c.in_ok-sign.ensures.goes
      ∙ bind_ok _ _ _ c.in_ok-next.ensures.goes ∙ bind_pure _;
  tree = λ xs m rest.
      let h = c.parts.invariant.tree (operand_of c.in_ok-next.next.value ∷ xs) m (g.next_part c.in_ok-sign.ensures.tree c.in_ok-next.ensures.tree rest) in (
        h.0,
        sym (pushed operand_of c.parts.list.items c.into_inner.result c.push.new.self.items xs c.in_ok-push.ensures.items)
            ∙ ap (λ (z : Operand). operands_of c.parts.list.items ++ (operand_of z ∷ xs)) c.into_inner.ensures ∙ h.1,
        h.2,
      );
  no_longer = omega (arith, c.parts.invariant.no_longer, c.in_ok-sign.ensures.shorter, c.in_ok-next.ensures.shorter);
}

pub returns-clause-goes : goal.returns-clause-goes
returns-clause-goes c =
    ends_with s.parts (s.sign t.close_brace) c.args.tokens.now c.parts.tokens c.sign-2.new.self c.sign-2.result (c.parts.invariant.goes
    ∙ parts_end c.parts.tokens (c.parts-test.ensures.no refl)) c.sign-2.ensures.goes

pub returns-clause-tree : goal.returns-clause-tree
returns-clause-tree c =
    let h = c.parts.invariant.tree [] c.parts.tokens g.no_part in
    if_ok c.sign-2.result (λ _ close. record {
      last = c.parts.tokens;
      added = h.0;
      all = sym (append-nil (operands_of c.parts.list.items))
          ∙ h.1;
      parts = h.2;
      close = close;
    }) c.sign-2.ensures.tree
