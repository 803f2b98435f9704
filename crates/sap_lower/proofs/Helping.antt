-- The names of helping wires.
use Rattle.sap_lemmas.proofs.Common.{◌≡◌, ℕ, ◌^◌, ◌<◌, List, [], ◌∷◌, length, true, false, ap, refl, arith, inl, inr, is_ascii_digit, decimal, list_all, bytes_eq, decimal_is_IsNumeral, cases_Bool, and_from, equal_of_bytes_eq}
use Rattle.std.specs.Str.Parse.{AllDigits}
use Rattle.sap_lemmas.proofs.Texts.{digit_of_value}
use Rattle.sap_maps.specs.Maps.{Name}
use Rattle.sap_ir.specs.IsGuarded.{is_helping}
use Rattle.sap_share.specs.Names.{helper}

all_digits : (ds : List ℕ) → AllDigits 10 ds → list_all is_ascii_digit ds ≡ true
all_digits [] a = refl
all_digits (d ∷ ds) a = and_from (is_ascii_digit d) (list_all is_ascii_digit ds) (digit_of_value d a.0) (all_digits ds a.1)

helping_of : (ds : List ℕ) → 0 < length ds → list_all is_ascii_digit ds ≡ true → is_helping (110 ∷ ds) ≡ true
helping_of [] l h = absurd (omega (arith, l))
helping_of (d ∷ ds) l h = h

pub helper_is_helping : (k : ℕ) → k < 2 ^ 64 → is_helping (helper k) ≡ true
unfolding helper
helper_is_helping k l = let n = (decimal_is_IsNumeral k l).0 in helping_of (decimal k) n.0 (all_digits (decimal k) n.1)

-- a name that is none of them
pub other_name : (k : ℕ) → k < 2 ^ 64 → (n : Name) → is_helping n ≡ false → bytes_eq (helper k) n ≡ false
other_name k l n h =
    elim (cases_Bool (bytes_eq (helper k) n)) [
      | inl t ↦ absurd (let e : is_helping (helper k) ≡ is_helping n = ap is_helping (equal_of_bytes_eq (helper k) n t) in let g = helper_is_helping k l in cc)
      | inr f ↦ f
    ]
