use Rattle.sap_lemmas.proofs.Common.{◌∙◌, ◌++◌, ◌∷◌, [], List, append_assoc, sym, ap, subst, refl, rules, arith, append-nil}
use Rattle.sap_parse.specs.Grammar as g
use Rattle.sap_parse.specs.Reading.{steps_by, strictly}
use Rattle.sap_parse.specs.Table as s
use Rattle.sap_tree.specs.declared.syntax.Decl.{Decl}
use Rattle.sap_parse.proofs.DesignLaws.{declarations_there}
use Rattle.sap_parse.proofs.Faults.{fault_goes}
use Rattle.sap_walk.proofs.Walking.{bind_ok, bind_pure}
use Rattle.sap_parse.proofs.declaration.declarations.Goals as goal

pub returns-in_err-next-clause-goes : goal.returns-in_err-next-clause-goes
returns-in_err-next-clause-goes c =
    fault_goes s.declarations s.declaration c.args.tokens.now c.declarations.tokens c.declaration.new.tokens
    (steps_by strictly (s.declarations ∷ [])) c.in_err-next.field-0.0 c.from_residual.result (search rules)
    (c.declarations.invariant.goes ∙ declarations_there strictly c.declarations.tokens (c.declarations-test.ensures.yes refl)) c.in_err-next.ensures.goes

pub declarations-preserved : goal.declarations-preserved
declarations-preserved c = record {
  goes = c.declarations.invariant.goes ∙ declarations_there strictly c.declarations.tokens (c.declarations-test.ensures.yes refl)
      ∙ bind_ok _ _ _ c.in_ok-next.ensures.goes ∙ bind_pure _;
  tree = λ ys q rest.
      subst (λ (xs : List Decl). g.Declarations c.args.tokens.now xs q)
      (sym (ap (λ (items : List Decl). items ++ ys) c.in_ok-push.ensures.items ∙ append_assoc c.declarations.list.items (c.in_ok-next.next ∷ []) ys))
      (c.declarations.invariant.tree (c.in_ok-next.next ∷ ys) q (g.declaration c.in_ok-next.ensures.tree rest));
  no_longer = omega (arith, c.in_ok-next.ensures.shorter);
}

pub returns-clause-tree : goal.returns-clause-tree
returns-clause-tree c =
    subst (λ (xs : List Decl). g.Declarations c.args.tokens.now xs c.declarations.tokens) (append-nil c.declarations.list.items)
    (c.declarations.invariant.tree [] c.declarations.tokens g.no_declaration)
