use Rattle.std.proofs.Common.{◌∙◌}
use Rattle.sap_vparse.proofs.Makes.{write_tree}
use Rattle.sap_vparse.proofs.Turns.{write_turns}
use Rattle.sap_walk.proofs.Walking.{bind_ok}
use Rattle.sap_vparse.proofs.item.write.Goals as goal

pub returns-clause-tree : goal.returns-clause-tree
returns-clause-tree c = λ ts w. write_tree w c.in_ok-row.ensures.tree c.in_ok-condition.ensures.tree c.in_ok-name.ensures.tree
    c.in_ok-index.ensures.tree c.in_ok-value.ensures.tree c.into_inner.ensures c.into_inner-2.ensures c.into_inner-3.ensures

pub returns-clause-goes : goal.returns-clause-goes
returns-clause-goes c = write_turns c.args.tokens.now c.requires ∙ bind_ok _ _ _ c.in_ok-row.ensures.goes
    ∙ bind_ok _ _ _ c.in_ok-condition.ensures.goes ∙ bind_ok _ _ _ c.in_ok-name.ensures.goes ∙ bind_ok _ _ _ c.in_ok-index.ensures.goes ∙ bind_ok _ _ _ c.in_ok-value.ensures.goes
