use Rattle.std.proofs.Common.{◌∙◌, subst, sym}
use Rattle.sap_parse.specs.Grammar as g
use Rattle.sap_parse.proofs.CommandMakes.{set_tag_tree}
use Rattle.sap_parse.proofs.CommandRowLaws.{set_tag_rows}
use Rattle.sap_walk.proofs.Walking.{bind_ok}
use Rattle.sap_parse.proofs.command.set_tag.Goals as goal

pub returns-clause-tree : goal.returns-clause-tree
returns-clause-tree c =
    subst (λ x. g.Simple c.args.depth c.args.tokens.now x c.new_tag.new.tokens) (sym c.tag_set.ensures)
    (set_tag_tree c.in_ok-tag.tag c.in_ok-place.ensures.tree c.in_ok-index.ensures.tree c.in_ok-tag.ensures.tree)

pub returns-clause-goes : goal.returns-clause-goes
returns-clause-goes c =
    set_tag_rows c.args.depth c.args.tokens.now ∙ bind_ok _ _ _ c.in_ok-place.ensures.goes ∙ bind_ok _ _ _ c.in_ok-index.ensures.goes ∙ c.in_ok-tag.ensures.goes
