use Rattle.std.proofs.Common.{◌∙◌, ◌++◌, ◌∷◌, [], sym, ap, subst, List}
use Rattle.sap_vtext.specs.Items as item
use Rattle.sap_vparse.specs.Parts.{RightEnds}
use Rattle.sap_vparse.specs.Views.{operands_of}
use Rattle.sap_vparse.specs.declared.items.Operand.{Operand}
use Rattle.sap_vparse.proofs.Makes.{concat_tree}
use Rattle.sap_vparse.proofs.Turns.{concat_turns}
use Rattle.sap_walk.proofs.Walking.{bind_ok}
use Rattle.sap_vparse.proofs.right.concat.Goals as goal

pub returns-clause-tree : goal.returns-clause-tree
returns-clause-tree c =
    subst (λ (zs : List Operand). RightEnds c.args.tokens.now (item.concat (operands_of zs)) c.sign-2.new.self) (sym c.new.ensures)
    (concat_tree c.in_ok-sign.ensures.tree c.in_ok-first.ensures.tree c.in_ok-second.ensures.tree c.in_ok-parts.ensures.tree
    c.in_ok-sign-2.ensures.tree c.into_inner.ensures c.into_inner-2.ensures
    (c.in_ok-push.ensures.items ∙ ap (λ (zs : List Operand). zs ++ c.into_inner.result ∷ []) c.new-list.ensures.items) c.in_ok-push-2.ensures.items)

pub returns-clause-goes : goal.returns-clause-goes
returns-clause-goes c = concat_turns c.args.tokens.now c.requires ∙ bind_ok _ _ _ c.in_ok-sign.ensures.goes
    ∙ bind_ok _ _ _ c.in_ok-first.ensures.goes ∙ bind_ok _ _ _ c.in_ok-second.ensures.goes ∙ bind_ok _ _ _ c.in_ok-parts.ensures.goes ∙ bind_ok _ _ _ c.in_ok-sign-2.ensures.goes
