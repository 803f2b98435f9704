use Rattle.sap_lemmas.proofs.Common.{refl, sym, ◌∙◌, equal_of_bytes_eq}
use Rattle.sap_wave.specs.Prelude.{timescale, form_text, before_timescale}
use Rattle.sap_wave.proofs.Stepping.{differ, not_timescale, refused, taken}
use Rattle.sap_wave.proofs.steps.first_line.Goals as goal

pub returns-then-is_same : goal.returns-then-is_same
returns-then-is_same c = (
  taken before_timescale timescale c.args.text.now refl tt
      (equal_of_bytes_eq c.args.text.now (form_text timescale) (sym c.is_same.ensures ∙ c.if-is_same.true)),
  tt,
)

pub returns-else-is_same : goal.returns-else-is_same
returns-else-is_same c =
    refused before_timescale c.args.text.now (not_timescale c.args.text.now (differ c.args.text.now (form_text timescale) (sym c.is_same.ensures ∙ c.if-is_same.false)))
