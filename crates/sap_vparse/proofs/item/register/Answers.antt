use Rattle.std.proofs.Common.{◌∙◌, sym, subst}
use Rattle.sap_vtext.specs.Grammar as g
use Rattle.sap_vparse.proofs.ItemLaws.{item_register}
use Rattle.sap_vparse.proofs.Makes.{register_tree}
use Rattle.sap_walk.proofs.Walking.{bind_ok}
use Rattle.sap_vparse.proofs.item.register.Goals as goal

pub returns-clause-tree : goal.returns-clause-tree
returns-clause-tree c =
    subst (λ x. g.IsItem c.args.tokens.now x c.last_cell.new.tokens) (sym c.declared.ensures)
    (register_tree c.in_ok-word.ensures.tree c.in_ok-range.ensures.tree c.in_ok-name.ensures.tree c.in_ok-last.ensures.tree)

pub returns-clause-goes : goal.returns-clause-goes
returns-clause-goes c = item_register c.args.tokens.now c.requires ∙ bind_ok _ _ _ c.in_ok-word.ensures.goes
    ∙ bind_ok _ _ _ c.in_ok-range.ensures.goes ∙ bind_ok _ _ _ c.in_ok-name.ensures.goes ∙ bind_ok _ _ _ c.in_ok-last.ensures.goes
