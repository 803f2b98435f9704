use Rattle.sap_lemmas.proofs.Common.{◌∙◌, sym, List, inl, inr, both_ways, or_cases, or_left, or_right}
use Rattle.sap_system.specs.declared.file.Part.{Part}
use Rattle.sap_system.proofs.PartNames.{part_name_at, bad_by, by_bad}
use Rattle.sap_system.proofs.parts.is_bad.Goals as goal

pub returns-then-is_unfit : goal.returns-then-is_unfit
returns-then-is_unfit c =
    let parts : List Part = c.args.parts.now in
    let same = c.as_bytes-name.ensures ∙ part_name_at parts c.args.k c.index-parts-k.result c.requires in
    (λ _. bad_by parts c.args.k c.as_bytes-name.result.now c.requires same (or_left _ _ (sym c.is_unfit.ensures ∙ c.if-is_unfit.true)), λ _. c.if-is_unfit.true)

pub returns-else-is_unfit : goal.returns-else-is_unfit
returns-else-is_unfit c =
    let parts : List Part = c.args.parts.now in
    let same = c.as_bytes-name.ensures ∙ part_name_at parts c.args.k c.index-parts-k.result c.requires in (
      λ t. bad_by parts c.args.k c.as_bytes-name.result.now c.requires same (or_right _ _ (sym c.is_named.ensures ∙ t)),
      λ bad.
          elim (or_cases _ _ (by_bad parts c.args.k c.as_bytes-name.result.now same bad)) [
            | inl e ↦ absurd (both_ways c.is_unfit.result c.if-is_unfit.false (c.is_unfit.ensures ∙ e))
            | inr e ↦ c.is_named.ensures ∙ e
          ],
    )
