use Rattle.sap_lemmas.proofs.Common.{refl, sym, ◌∙◌, equal_of_bytes_eq}
use Rattle.sap_wave.specs.Prelude.{end_definitions, form_text, before_end}
use Rattle.sap_wave.proofs.Stepping.{differ, not_end, refused, taken}
use Rattle.sap_wave.proofs.steps.end_line.Goals as goal

pub returns-then-is_same : goal.returns-then-is_same
returns-then-is_same c = (
  taken (before_end c.args.variables.items) end_definitions c.args.text.now refl tt
      (equal_of_bytes_eq c.args.text.now (form_text end_definitions) (sym c.is_same.ensures ∙ c.if-is_same.true)),
  tt,
)

pub returns-else-is_same : goal.returns-else-is_same
returns-else-is_same c =
    let xs = c.args.variables.items in
    refused (before_end xs) c.args.text.now (not_end xs c.args.text.now (differ c.args.text.now (form_text end_definitions) (sym c.is_same.ensures ∙ c.if-is_same.false)))
