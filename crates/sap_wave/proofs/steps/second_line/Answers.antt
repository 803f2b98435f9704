use Rattle.sap_lemmas.proofs.Common.{List, refl, sym, subst, ◌∙◌, equal_of_bytes_eq}
use Rattle.sap_net.specs.NameMaps.{Indexes}
use Rattle.sap_wave.specs.declared.variable.Variable.{Variable}
use Rattle.sap_wave.specs.Prelude.{ended, scope, form_text, names_of, before_scope, declaring, Reaches}
use Rattle.sap_wave.proofs.Reached.{indexed_none}
use Rattle.sap_wave.proofs.Stepping.{differ, not_scope, refused, taken}
use Rattle.sap_wave.proofs.steps.second_line.Goals as goal

pub returns-then-is_same : goal.returns-then-is_same
returns-then-is_same c =
    let none = c.new-variables.ensures.items in
    let text = equal_of_bytes_eq c.args.text.now (form_text scope) (sym c.is_same.ensures ∙ c.if-is_same.true) in (
      subst (λ (xs : List Variable). Reaches before_scope (ended c.args.text.now) (declaring xs)) (sym none) (taken before_scope scope c.args.text.now refl tt text),
      subst (λ (xs : List Variable). Indexes c.new-places.result (names_of xs)) (sym none) (indexed_none c.new-places.result c.new-places.ensures.empty),
    )

pub returns-else-is_same : goal.returns-else-is_same
returns-else-is_same c =
    refused before_scope c.args.text.now (not_scope c.args.text.now (differ c.args.text.now (form_text scope) (sym c.is_same.ensures ∙ c.if-is_same.false)))
