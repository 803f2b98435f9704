use Rattle.sap_lemmas.proofs.Common.{◌≡◌, ◌++◌, List, ℕ, sym, subst, rules, AllByRecursion}
use Rattle.sap_linker.specs.Given.{designs_of}
use Rattle.sap_explain.specs.Explanation.{system_explanation}
use Rattle.sap_explain.proofs.CommentLines.{InLine, both_lines}
use Rattle.sap_explain.proofs.ExplainedTexts.{explained_by}
use Rattle.sap_explain.proofs.PartLines.{names_in_line}
use Rattle.sap_explain.proofs.system.explained_system.Goals as goal

pub parts_are_comments-requires : goal.parts_are_comments-requires
parts_are_comments-requires c =
    subst (λ (names : List (List ℕ)). AllByRecursion InLine names) (sym c.requires) (names_in_line c.args.system.now.parts c.kept.ensures)

pub returns-clause-module : goal.returns-clause-module
returns-clause-module c =
    let lines = system_explanation c.args.lattice.now (designs_of c.args.parts.now) in
    let parts : c.new.result ≡ lines ++ c.args.plain.now = search rules in
    explained_by lines c.args.plain.now c.new.result c.comments_change_nothing.ensures
    (both_lines c.levels_are_comments.ensures c.parts_are_comments.ensures) parts
