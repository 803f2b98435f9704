-- What a concatenation of a list of expressions is seen as.
use Rattle.sap_lemmas.proofs.Common.{◌≡◌, ◌∷◌, map, ap, ◌∙◌, refl, Vec, Global}
use Rattle.sap_ir.specs.declared.guarded.Calc.{Calc, Row_of-Calc, end_of-Calc, more_of-Calc, items-the_row-Calc, items_hidden-the_row-Calc-0}
use Rattle.sap_ir.specs.declared.guarded.Calc.TheBlock.{hidden-the_row-Calc-0}
use Rattle.sap_ir.specs.declared.guarded.Calc.TheVariants as calc
use Rattle.sap_ir.specs.Calcs.{term_of, row_terms, joined_terms}

row_terms-items : {n : _} (row : Row_of-Calc n) → row_terms row ≡ map term_of (items-the_row-Calc _ row)
row_terms-items end_of-Calc = refl
row_terms-items (more_of-Calc a rest) = ap (λ ts. term_of a ∷ ts) (row_terms-items rest)

pub concat_term : (parts : Vec Calc Global) → term_of (calc.Concat parts) ≡ joined_terms (map term_of parts.items)
concat_term parts = ap joined_terms (row_terms-items (hidden-the_row-Calc-0 parts) ∙ ap (λ cs. map term_of cs) (items_hidden-the_row-Calc-0 parts))
