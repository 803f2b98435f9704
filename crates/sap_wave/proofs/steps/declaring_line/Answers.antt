use Rattle.sap_lemmas.proofs.Common.{refl, sym, ◌∙◌, equal_of_bytes_eq}
use Rattle.sap_wave.specs.Prelude.{upscope, variable, form_text, declaring}
use Rattle.sap_wave.proofs.Stepping.{differ, form_read, not_declaring, refused, taken}
use Rattle.sap_wave.proofs.steps.declaring_line.Goals as goal

pub returns-then-is_same : goal.returns-then-is_same
returns-then-is_same c = (
  taken (declaring c.args.variables.items) upscope c.args.text.now refl tt
      (equal_of_bytes_eq c.args.text.now (form_text upscope) (sym c.is_same.ensures ∙ c.if-is_same.true)),
  tt,
)

pub declared-requires-clause-formed : goal.declared-requires-clause-formed
declared-requires-clause-formed c = c.in-Some.ensures.some.formed

pub returns-in-Some : goal.returns-in-Some
returns-in-Some c =
    let d = c.in-Some.declaration in
    form_read (declaring c.args.variables.items) (variable d.width.now d.id.now d.name.now) c.args.text.now c.declared.result c.in-Some.ensures.some refl c.declared.ensures

pub returns-in-None : goal.returns-in-None
returns-in-None c =
    let xs = c.args.variables.items in
    refused (declaring xs) c.args.text.now (not_declaring xs c.args.text.now
    (differ c.args.text.now (form_text upscope) (sym c.is_same.ensures ∙ c.if-is_same.false)) c.in-None.ensures.none)
