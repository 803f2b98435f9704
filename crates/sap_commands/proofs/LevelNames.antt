-- The level of a name.
use Rattle.sap_lemmas.proofs.Common.{◌≡◌, ◌≢◌, ◌<◌, ℕ, false, List, [], length, get_or, ◌∙◌, ap, sym, inl, inr, arith, Some, None, bytes_eq, slice_index_or, cases_Bool, nat_tests, position_or_len, bytes_eq_same, equal_of_bytes_eq}
use Rattle.std.proofs.lemmas.List.Sums.{position_or_len_is}
use Rattle.sap_lattice.specs.Levels.{level_named}
use Rattle.sap_lattice.specs.Rules.{KeepsNames, repeated}

module _ (names : List (List ℕ)) (word : List ℕ) where
  differs : (k : ℕ) → (get_or names k [] ≡ word → ⊥) → bytes_eq (get_or names k []) word ≡ false
  differs k other = elim (cases_Bool (bytes_eq (get_or names k []) word)) [ inl t ↦ absurd (other (equal_of_bytes_eq (get_or names k []) word t)) | inr f ↦ f ]

  at_place : (x : ℕ) → x < length names → position_or_len (λ level. bytes_eq level word) names ≡ x → Some x ≡ level_named names word
  at_place x low is = rw is (grind (arith, nat_tests))

  nowhere : position_or_len (λ level. bytes_eq level word) names ≡ length names → None ≡ level_named names word
  nowhere is = rw is (grind (arith, nat_tests))

  found : (x : ℕ) → KeepsNames names → x < length names → get_or names x [] ≡ word → Some x ≡ level_named names word
  found x keeps low is =
      at_place x low
      (position_or_len_is (λ level. bytes_eq level word) names x [] (omega arith)
      (λ k before. differs k (λ same. keeps.named x (low, repeated k before (same ∙ sym is))))
      (λ here. ap (λ (name : List ℕ). bytes_eq name word) is ∙ bytes_eq_same word))

  missing : ((x : ℕ) → x < length names → get_or names x [] ≢ word) → None ≡ level_named names word
  missing none =
      nowhere
      (position_or_len_is (λ level. bytes_eq level word) names (length names) [] (omega arith) (λ k low. differs k (none k low)) (λ low. absurd (omega arith)))

  pub level_found : (x : ℕ) → KeepsNames names → (x < length names) × (slice_index_or names x [] ≡ word) → Some x ≡ level_named names word
  level_found x keeps at = found x keeps at.0 at.1

  pub level_missing : ((x : ℕ) → x < length names → slice_index_or names x [] ≢ word) → None ≡ level_named names word
  level_missing none = missing none
