use Rattle.std.proofs.Common.{◌∙◌, ap, sym, map, List}
use Rattle.sap_ir.specs.Calcs.{term_of, joined_terms}
use Rattle.sap_ir.specs.declared.guarded.Calc.{Calc}
use Rattle.sap_ir.proofs.Views.{concat_term}
use Rattle.sap_ir.proofs.+copy.Goals as goal

pub guarded::Calc::copy-returns-in_ok-parts-in-Concat :
    goal.guarded::Calc::copy-returns-in_ok-parts-in-Concat
guarded::Calc::copy-returns-in_ok-parts-in-Concat t c =
    c.concat.ensures
    ∙ ap joined_terms (c.in_ok-parts-in-Concat.ensures ∙ ap (λ (cs : List Calc). map term_of cs) c.deref-in-Concat.ensures.value)
    ∙ sym (concat_term c.in-Concat.parts)
    ∙ sym (ap term_of c.in-Concat.is)
