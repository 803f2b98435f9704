-- No sign of two bytes stands at the front of a text of one.
use Rattle.sap_lemmas.proofs.Common.{◌≡◌, ◌<◌, ℕ, List, [], ◌∷◌, length, None, refl, arith, eqb, slice_index, and_false}
use Rattle.sap_vlex.specs.Lexemes.{pair_sign}

half_a_pair : (byte : ℕ) → pair_sign byte 0 ≡ None
unfolding pair_sign
half_a_pair byte = rw (and_false (eqb byte 61), and_false (eqb byte 33), and_false (eqb byte 60), and_false (eqb byte 62)) refl

pub no_pair : (bytes : List ℕ) → length bytes < 2 → pair_sign (slice_index bytes 0) (slice_index bytes 1) ≡ None
no_pair [] h = half_a_pair 0
no_pair (byte ∷ []) h = half_a_pair byte
no_pair (byte ∷ (next ∷ rest)) h = absurd (omega arith)
