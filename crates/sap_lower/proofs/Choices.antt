-- Two parts one behind another, or more, are no choice.
use Rattle.sap_lemmas.proofs.Common.{◌≡◌, ◌≤◌, List, [], ◌∷◌, None, length, map, refl, arith}
use Rattle.sap_ir.specs.Calcs.{joined_terms, term_of}
use Rattle.sap_ir.specs.declared.guarded.Calc.{Calc}
use Rattle.sap_lower.specs.Writes.{choice_in}

pub many_chosen : (cs : List Calc) → 2 ≤ length cs → choice_in (joined_terms (map term_of cs)) ≡ None
many_chosen [] l = absurd (omega arith)
many_chosen (c ∷ []) l = absurd (omega arith)
many_chosen (c ∷ d ∷ cs) l = refl
