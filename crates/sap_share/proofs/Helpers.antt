-- The names of helping wires.
use Rattle.sap_lemmas.proofs.Common.{◌≡◌, ℕ, ◌^◌, ◌<◌, true, false, arith, inl, inr, decimal, bytes_eq, decimal_is_IsNumeral, decimal_injective, cases_Bool, equal_of_bytes_eq}
use Rattle.sap_text.proofs.NamesLemmas.{numeral_inner}
use Rattle.sap_net.proofs.NamesLemmas.{wire_name}
use Rattle.sap_net.specs.Names.{is_name}
use Rattle.sap_share.specs.Names.{helper}

pub helper_is_name : (k : ℕ) → k < 2 ^ 64 → is_name (helper k) ≡ true
unfolding helper
helper_is_name k l = wire_name (decimal k) (numeral_inner (decimal k) (decimal_is_IsNumeral k l).0.1)

pub helpers_differ : (j k : ℕ) → j < 2 ^ 64 → k < 2 ^ 64 → j < k → bytes_eq (helper j) (helper k) ≡ false
unfolding helper
helpers_differ j k a b l =
    elim (cases_Bool (bytes_eq (helper j) (helper k))) [
      | inl t ↦ absurd (let e : helper j ≡ helper k = equal_of_bytes_eq (helper j) (helper k) t in let d : decimal j ≡ decimal k = cc in
          let s : j ≡ k = decimal_injective j k a b d in omega arith)
      | inr f ↦ f
    ]
