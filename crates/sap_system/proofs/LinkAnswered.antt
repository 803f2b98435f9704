-- Of the rules on wires at most one is the first that is broken.
use Rattle.sap_lemmas.proofs.Common.{◌≡◌, ℕ, ◌+◌, List, refl, sym, ap, ap₂, ◌∙◌, subst, inl, inr, arith, cases_order}
use Rattle.sap_system.specs.Wires.{Surroundings, IsFirstBroken, FirstLinkFault, OneLinkFault, NoneWhereKept, number_of_code}
use Rattle.sap_system.specs.declared.file.WireText.{WireText}
use Rattle.sap_system.specs.declared.link_fault.LinkCode.{LinkCode}
use Rattle.sap_system.specs.declared.link_fault.LinkCode.TheVariants.{K5, K6, K7, K8, K9}
use Rattle.sap_system.specs.declared.link_fault.LinkFault.{LinkFault}
use Rattle.sap_system.specs.declared.link_fault.LinkFault.TheVariants.{Rule, Memory}

same_code : (a b : LinkCode) → number_of_code a ≡ number_of_code b → a ≡ b
same_code K5 K5 e = refl
same_code K6 K6 e = refl
same_code K7 K7 e = refl
same_code K8 K8 e = refl
same_code K9 K9 e = refl
same_code a b e = absurd (omega (arith, e))

module _ (u : Surroundings) (wires : List WireText) where
  one_place : (a b : LinkCode) (j k : ℕ) → IsFirstBroken u wires a j → IsFirstBroken u wires b k → j ≡ k
  one_place a b j k first second =
      elim (cases_order j k) [
        | inl e ↦ e
        | inr apart ↦ elim apart [ inl less ↦ absurd (second.none_earlier a j less first.here) | inr more ↦ absurd (first.none_earlier b k more second.here) ]
      ]

  one_code : (a b : LinkCode) (k : ℕ) → IsFirstBroken u wires a k → IsFirstBroken u wires b k → a ≡ b
  one_code a b k first second =
      elim (cases_order (number_of_code a) (number_of_code b)) [
        | inl e ↦ same_code a b e
        | inr apart ↦ elim apart [ inl less ↦ absurd (second.none_lower a less first.here) | inr more ↦ absurd (first.none_lower b more second.here) ]
      ]

  same_fault : (f g : LinkFault) → FirstLinkFault u wires f → FirstLinkFault u wires g → f ≡ g
  same_fault (Rule a n) (Rule b m) (j, first, is) (k, second, it) =
      let place = one_place a b j k first second in
      let moved : IsFirstBroken u wires a k = subst (λ i. IsFirstBroken u wires a i) place first in
      ap₂ Rule (one_code a b k moved second) (is ∙ ap (λ i. i + 1) place ∙ sym it)
  same_fault Memory g a b = absurd a
  same_fault f Memory a b = absurd b

pub one_link_fault : OneLinkFault
one_link_fault u wires f g a b = same_fault u wires f g a b

pub none_where_kept : NoneWhereKept
none_where_kept u wires (Rule code n) kept (k, first, is) = kept code k first.here
none_where_kept u wires Memory kept a = a
