use Rattle.sap_lemmas.proofs.Common.{◌≡◌, ◌∙◌, List, map, sym, ap, arith}
use Rattle.sap_ir.specs.Calcs.{joined_terms, term_of}
use Rattle.sap_ir.specs.declared.guarded.Calc.{Calc}
use Rattle.sap_ir.proofs.Views.{concat_term}
use Rattle.sap_lower.specs.Writes.{choice_in}
use Rattle.sap_lower.proofs.Choices.{many_chosen}
use Rattle.sap_lower.proofs.writes.+choice.Goals as goal

pub choice_of-returns-in-Concat : goal.choice_of-returns-in-Concat
choice_of-returns-in-Concat t c =
    let cs : List Calc = c.deref-in-Concat.result.now in
    let k : joined_terms (map term_of cs) ≡ term_of c.args.calc.now =
    ap (λ (xs : List Calc). joined_terms (map term_of xs)) c.deref-in-Concat.ensures.value ∙ sym (concat_term c.in-Concat.parts) ∙ sym (ap term_of c.in-Concat.is) in
    c.choice_of_parts.ensures ∙ ap choice_in k

pub choice_of_parts-returns-in-len2-up : goal.choice_of_parts-returns-in-len2-up
choice_of_parts-returns-in-len2-up t c = sym (many_chosen c.args.parts.now (omega (arith, c.in-len2-up.len_at_least)))
