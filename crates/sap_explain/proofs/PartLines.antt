-- The lines of the parts of a system, from a part on.
use Rattle.sap_lemmas.proofs.Common.{◌≡◌, ℕ, zero, suc, ◌+◌, ◌<◌, ◌≤◌, List, [], ◌∷◌, ◌++◌, length, drop, get_or, sym, ap, ◌∙◌, subst, arith, inl, inr, at_drop_all, at_drop_more, after_part, cases_Bool, length_map, AllByRecursion}
use Rattle.sap_text.specs.Names.{is_word}
use Rattle.sap_lattice.specs.Closure.{name_at}
use Rattle.sap_lattice.specs.Rules.{no_word}
use Rattle.sap_check.specs.Checked.{tree_in}
use Rattle.sap_report.proofs.Lists.{at_end}
use Rattle.sap_system.specs.Rules.{KeepsParts, part_names}
use Rattle.sap_system.specs.Rules.BadPartName.{bad}
use Rattle.sap_system.specs.declared.file.Part.{Part}
use Rattle.sap_linker.specs.Given.{design_names, designs_of}
use Rattle.sap_linker.specs.declared.parts.LinkedPart.{LinkedPart}
use Rattle.sap_explain.specs.Comments.{AreCommentLines, no_line}
use Rattle.sap_explain.specs.Explanation.{design_comments, part_comments}
use Rattle.sap_explain.proofs.CommentLines.{InLine, both_lines, each_at, word_in_line}

-- the lines of one part, and of all
abbrev one_part : LinkedPart → List ℕ
one_part p = design_comments p.name.now (tree_in p.checked.now)

abbrev pub all_parts : List LinkedPart → List ℕ
all_parts ps = part_comments (designs_of ps)

parts_drop : (ps : List LinkedPart) (n : ℕ) (p : LinkedPart) → n < length ps → p ≡ get_or ps n p → all_parts (drop n ps) ≡ one_part p ++ all_parts (drop (n + 1) ps)
parts_drop ps n p l e = at_drop_more all_parts ps n p l ∙ ap (λ (x : LinkedPart). one_part x ++ all_parts (drop (n + 1) ps)) (sym e)

parts_past : (ps : List LinkedPart) (n : ℕ) → length ps ≤ n → all_parts (drop n ps) ≡ []
parts_past ps n l = at_drop_all all_parts ps n l

pub parts_step : (ps : List LinkedPart) (n : ℕ) (p : LinkedPart) (old new all : List ℕ) → n < length ps → p ≡ get_or ps n p → new ≡ old ++ one_part p
    → old ++ all_parts (drop n ps) ≡ all → new ++ all_parts (drop (n + 1) ps) ≡ all
parts_step ps n p old new all l e k h = after_part old new _ _ _ k (parts_drop ps n p l e) ∙ h

pub parts_end : (ps : List LinkedPart) (n : ℕ) (new all : List ℕ) → length ps ≤ n → new ++ all_parts (drop n ps) ≡ all → new ≡ all
parts_end ps n new all l h = at_end new _ all (parts_past ps n l) h

-- all are comment lines where those of the parts that are left are
abbrev pub AreFrom : List LinkedPart → ℕ → Type 0
AreFrom ps n = AreCommentLines (all_parts (drop n ps)) → AreCommentLines (all_parts ps)

pub comments_step : (ps : List LinkedPart) (n : ℕ) (p : LinkedPart) → n < length ps → p ≡ get_or ps n p → AreCommentLines (one_part p) → AreFrom ps n → AreFrom ps (n + 1)
comments_step ps n p l e one all rest = all (subst AreCommentLines (sym (parts_drop ps n p l e)) (both_lines one rest))

pub comments_end : (ps : List LinkedPart) (n : ℕ) → length ps ≤ n → AreFrom ps n → AreCommentLines (all_parts ps)
comments_end ps n l all = all (subst AreCommentLines (sym (parts_past ps n l)) no_line)

-- names of parts have no LF
pub name_at_part : (ps : List LinkedPart) → AllByRecursion InLine (design_names (designs_of ps)) → (n : ℕ) (p : LinkedPart) → n < length ps → p ≡ get_or ps n p → InLine p.name.now
name_at_part [] h n p l e = absurd (omega (arith, l))
name_at_part (q ∷ ps) h zero p l e = subst (λ (x : LinkedPart). InLine x.name.now) (sym e) h.0
name_at_part (q ∷ ps) h (suc n) p l e = name_at_part ps h.1 n p (omega (arith, l)) e

pub names_in_line : (ps : List Part) → KeepsParts ps → AllByRecursion InLine (part_names ps)
names_in_line ps keeps = each_at InLine (part_names ps) word where
  word : (k : ℕ) → k < length (part_names ps) → InLine (name_at (part_names ps) k)
  word k l = elim (cases_Bool (is_word (name_at (part_names ps) k))) [
    | inl t ↦ word_in_line (name_at (part_names ps) k) t
    | inr f ↦ absurd (keeps.named k (subst (λ (n : ℕ). k < n) (length_map (λ (p : Part). p.name) ps) l, bad (no_word f)))
  ]
