use Rattle.std.proofs.Common.{◌∙◌, sym, subst}
use Rattle.sap_parse.specs.CommandRows.{NewTag, new_tag}
use Rattle.sap_tree.specs.Trees.{tag_of}
use Rattle.sap_tree.specs.declared.syntax.TagExpr.{TagExpr}
use Rattle.sap_parse.proofs.RowLaws.{row_steps}
use Rattle.sap_walk.proofs.Walking.{bind_ok, bind_pure}
use Rattle.sap_parse.proofs.command.new_tag.Goals as goal

pub returns-clause-tree : goal.returns-clause-tree
returns-clause-tree c =
    subst (λ (x : TagExpr). NewTag c.args.tokens.now (tag_of x) c.sign-2.new.self) (sym (c.into_inner.ensures ∙ c.in_ok-tag.ensures.ok))
    (new_tag c.in_ok-sign.ensures.tree c.in_ok-read.ensures.tree c.in_ok-sign-2.ensures.tree)

pub returns-clause-goes : goal.returns-clause-goes
returns-clause-goes c =
    row_steps _ _ ∙ bind_ok _ _ _ c.in_ok-sign.ensures.goes ∙ bind_ok _ _ _ c.in_ok-read.ensures.goes ∙ bind_pure _ ∙ c.in_ok-sign-2.ensures.goes
