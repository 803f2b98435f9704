use Rattle.sap_lemmas.proofs.Common.{◌≡◌, ◌++◌, subst, rules}
use Rattle.sap_lattice.specs.Levels.{Levels}
use Rattle.sap_check.specs.Checked.{levels_in, tree_in}
use Rattle.sap_explain.specs.Comments.{AreCommentLines}
use Rattle.sap_explain.specs.Explanation.{explanation, level_comments}
use Rattle.sap_explain.proofs.CommentLines.{both_lines}
use Rattle.sap_explain.proofs.ExplainedTexts.{explained_by}
use Rattle.sap_explain.proofs.explain.explained.Goals as goal

pub returns-clause-module : goal.returns-clause-module
returns-clause-module c =
    let ls = levels_in c.args.checked.now in
    let lines = explanation ls (tree_in c.args.checked.now) in
    let levels : AreCommentLines (level_comments ls 0 ls.names) =
    subst (λ (l : Levels). AreCommentLines (level_comments l 0 l.names)) c.lattice.ensures c.levels_are_comments.ensures in
    let parts : c.new.result ≡ lines ++ c.args.plain.now = search rules in
    explained_by lines c.args.plain.now c.new.result c.comments_change_nothing.ensures (both_lines levels c.design_is_comments.ensures) parts
