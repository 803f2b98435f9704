use Rattle.std.proofs.Common.{◌∙◌, ◌++◌, ◌∷◌, [], List, ap}
use Rattle.sap_tree.specs.declared.syntax.Expr.{Expr}
use Rattle.sap_parse.proofs.CommandMakes.{arm_head_tree}
use Rattle.sap_parse.proofs.RowLaws.{row_steps}
use Rattle.sap_walk.proofs.Walking.{bind_ok, bind_pure}
use Rattle.sap_parse.proofs.command.constants.Goals as goal

pub returns-clause-tree : goal.returns-clause-tree
returns-clause-tree c = arm_head_tree _ c.in_ok-first.ensures.tree (c.in_ok-push.ensures.items
    ∙ ap (λ (v : List Expr). v ++ c.in_ok-first.first ∷ []) c.new-list.ensures.items) c.in_ok-more_constants.ensures.tree c.in_ok-sign.ensures.tree

pub returns-clause-goes : goal.returns-clause-goes
returns-clause-goes c =
    row_steps _ _ ∙ bind_ok _ _ _ c.in_ok-first.ensures.goes ∙ bind_ok _ _ _ c.in_ok-more_constants.ensures.goes ∙ bind_pure _ ∙ c.in_ok-sign.ensures.goes
