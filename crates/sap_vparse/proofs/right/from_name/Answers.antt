use Rattle.std.proofs.Common.{◌∙◌, refl, sym, subst}
use Rattle.sap_vtext.specs.Grammar as g
use Rattle.sap_vparse.specs.Parts.{RightEnds}
use Rattle.sap_vparse.specs.Table as s
use Rattle.sap_vparse.proofs.Faults.{ends_with, if_ok}
use Rattle.sap_vparse.proofs.Laws.{name_bracket, right_name}
use Rattle.sap_vparse.proofs.Makes.{behind_tree}
use Rattle.sap_walk.proofs.Walking.{bind_ok, bind_pure}
use Rattle.sap_vparse.proofs.right.from_name.Goals as goal

pub returns-then-at_sign-clause-goes : goal.returns-then-at_sign-clause-goes
returns-then-at_sign-clause-goes c =
    ends_with s.right s.after_bracket c.args.tokens.now c.sign.new.self c.indexed.new.tokens c.indexed.result
    (right_name c.args.tokens.now c.requires ∙ bind_ok _ _ _ c.in_ok-name.ensures.goes ∙ bind_pure _
    ∙ name_bracket c.name.new.self (c.if-at_sign.ensures.yes refl) ∙ bind_ok _ _ _ c.in_ok-sign.ensures.goes ∙ bind_pure _)
    c.indexed.ensures.goes

pub returns-then-at_sign-clause-tree : goal.returns-then-at_sign-clause-tree
returns-then-at_sign-clause-tree c = if_ok c.indexed.result (λ _ h. h c.args.tokens.now c.name.new.self c.in_ok-name.ensures.tree c.in_ok-sign.ensures.tree) c.indexed.ensures.tree

pub returns-clause-tree : goal.returns-clause-tree
returns-clause-tree c = subst (λ x. RightEnds c.args.tokens.now x c.after_operand.new.tokens) (sym c.joined.ensures)
    (behind_tree (g.name c.in_ok-name.ensures.tree) c.in_ok-behind.ensures.tree)
