use Rattle.std.proofs.Common.{◌∙◌, subst, sym}
use Rattle.sap_parse.specs.Grammar as g
use Rattle.sap_parse.proofs.CommandMakes.{assign_tree}
use Rattle.sap_parse.proofs.CommandRowLaws.{assign_rows}
use Rattle.sap_walk.proofs.Walking.{bind_ok}
use Rattle.sap_parse.proofs.command.assign.Goals as goal

pub returns-clause-tree : goal.returns-clause-tree
returns-clause-tree c =
    subst (λ x. g.Simple c.args.depth c.args.tokens.now x c.new_value.new.tokens) (sym c.assigned.ensures)
    (assign_tree c.in_ok-value.value c.in_ok-name.ensures.tree c.in_ok-index.ensures.tree c.in_ok-value.ensures.tree c.in_ok-name.ensures.place)

pub returns-clause-goes : goal.returns-clause-goes
returns-clause-goes c =
    assign_rows c.args.depth c.args.tokens.now c.requires ∙ bind_ok _ _ _ c.in_ok-name.ensures.goes ∙ bind_ok _ _ _ c.in_ok-index.ensures.goes ∙ c.in_ok-value.ensures.goes
