-- Numbers with codes for tags are woven as a compiled module is given them.
use Rattle.std.proofs.Common.{◌≡◌, List, [], ◌∷◌, ap, ap₂, refl}
use Rattle.sap_lattice.specs.Prelude.{Order, code_of}
use Rattle.sap_meaning.specs.Cycle.{Tagged}
use Rattle.sap_interface.specs.Compiled.{coded}
use Rattle.sap_taint.specs.Laws.{with_codes}
use Rattle.sap_taint.specs.Carries.{woven, CodesAreWoven}

inputs_woven : (o : Order) (inputs : List Tagged) → woven (with_codes o inputs) ≡ coded (code_of o) inputs
inputs_woven o [] = refl
inputs_woven o (x ∷ xs) = ap (λ ns. x.number ∷ code_of o x.level ∷ ns) (inputs_woven o xs)

pub codes_are_woven : CodesAreWoven
codes_are_woven o [] = refl
codes_are_woven o (xs ∷ xss) = ap₂ (λ ns nss. ns ∷ nss) (inputs_woven o xs) (codes_are_woven o xss)
