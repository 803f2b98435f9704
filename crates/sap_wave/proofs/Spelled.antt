-- The number that the first digits spell.
use Rattle.sap_lemmas.proofs.Common.{◌≡◌, ℕ, zero, suc, ◌+◌, ◌-◌, ◌*◌, ◌^◌, ◌<◌, ◌≤◌, List, [], ◌∷◌, Bool, true, nat_le, Option, Some, None, length, get_or, take, drop, refl, sym, ap, ◌∙◌, arith, subst, IfNone, list_all, pow-le-pow_right, and_parts, take_all, take_more, take-append-drop}
use Rattle.sap_lemmas.proofs.Numbers.{le_product}
use Rattle.sap_wave.specs.Digits.{are_digits, identifier, is_digit, spelled, spelled_behind, bits_number, number_spelled}
use Rattle.sap_wave.proofs.DigitsLemmas.{digit_byte, number_back, one_identifier, spelled_append, spelled_below}

pub all_at : (p : ℕ → Bool) (xs : List ℕ) (i : ℕ) → list_all p xs ≡ true → i < length xs → p (get_or xs i 0) ≡ true
all_at p [] i h l = absurd (omega arith)
all_at p (x ∷ xs) zero h l = (and_parts (p x) (list_all p xs) h).0
all_at p (x ∷ xs) (suc i) h l = all_at p xs i (and_parts (p x) (list_all p xs) h).1 (omega arith)

-- one digit more
pub spelled_more : (f b : ℕ) (ds : List ℕ) (i : ℕ) → i < length ds → spelled f b (take (i + 1) ds) ≡ spelled f b (take i ds) * b + (get_or ds i 0 - f)
spelled_more f b ds i l = ap (spelled f b) (take_more ds i 0 l) ∙ spelled_append f b 0 (take i ds) (get_or ds i 0 ∷ [])

grows : (f b n : ℕ) (bs : List ℕ) → 1 ≤ b → n ≤ spelled_behind f b n bs
grows f b n [] h = omega arith
grows f b n (x ∷ bs) h =
    let more = grows f b (n * b + (x - f)) bs h in
    let here = le_product n b h in
    omega (arith, more, here)

-- the first digits spell no more than all
pub spelled_front : (f b : ℕ) (ds : List ℕ) (k : ℕ) → 1 ≤ b → spelled f b (take k ds) ≤ spelled f b ds
spelled_front f b ds k h =
    let whole : spelled f b ds ≡ spelled_behind f b (spelled f b (take k ds)) (drop k ds) =
    ap (spelled f b) (sym (take-append-drop k ds)) ∙ spelled_append f b 0 (take k ds) (drop k ds) in
    let more = grows f b (spelled f b (take k ds)) (drop k ds) h in
    omega (arith, whole, more)

-- a digit is its byte above the first, and the number with it is the number of all at most
pub record IsStep (f b : ℕ) (ds : List ℕ) (i d n : ℕ) : Type 0 where
  pub low : f ≤ d
  pub high : d < f + b
  pub next : spelled f b (take (i + 1) ds) ≡ n * b + (d - f)
  pub most : n * b + (d - f) ≤ spelled f b ds

pub step : (f b : ℕ) (ds : List ℕ) (i d n : ℕ) → 1 ≤ b → list_all (is_digit f b) ds ≡ true → i < length ds → d ≡ get_or ds i 0 → n ≡ spelled f b (take i ds) → IsStep f b ds i d n
step f b ds i d n h all l e before =
    let byte = digit_byte f b (get_or ds i 0) (all_at (is_digit f b) ds i all l) in
    let more : spelled f b (take (i + 1) ds) ≡ n * b + (d - f) =
    spelled_more f b ds i l ∙ ap (λ (z : ℕ). z * b + (get_or ds i 0 - f)) (sym before) ∙ ap (λ (z : ℕ). n * b + (z - f)) (sym e) in
    let front = spelled_front f b ds (i + 1) h in
    record {
      low = let a = byte.0 in omega (arith, a, e);
      high = let a = byte.1 in omega (arith, a, e);
      next = more;
      most = omega (arith, more, front);
    }

pub few_bits : (ds : List ℕ) → list_all (is_digit 48 2) ds ≡ true → length ds ≤ 64 → spelled 48 2 ds < 2 ^ 64
few_bits ds all few =
    let below = spelled_below 48 2 0 ds all in
    let more : 2 ^ length ds ≤ 2 ^ 64 = pow-le-pow_right (omega arith) few in
    omega (arith, below, more)

pub short_id : (ds : List ℕ) → list_all (is_digit 33 94) ds ≡ true → length ds ≤ 9 → spelled 33 94 ds < 2 ^ 64
short_id ds all short =
    let below = spelled_below 33 94 0 ds all in
    let more : 94 ^ length ds ≤ 94 ^ 9 = pow-le-pow_right (omega arith) short in
    let word : 94 ^ 9 < 2 ^ 64 = omega arith in
    omega (arith, below, more, word)

pub bits_whole : (ds : List ℕ) (k : ℕ) → length ds ≤ k → spelled 48 2 (take k ds) ≡ bits_number ds
unfolding bits_number
bits_whole ds k l = ap (spelled 48 2) (take_all k ds l)

pub id_whole : (ds : List ℕ) (k : ℕ) → length ds ≤ k → spelled 33 94 (take k ds) ≡ number_spelled ds
unfolding number_spelled
id_whole ds k l = ap (spelled 33 94) (take_all k ds l)

pub id_spells : (ds : List ℕ) → spelled 33 94 ds ≡ number_spelled ds
unfolding number_spelled
id_spells ds = refl

pub on_none : {T P : Type 0} (o : Option T) → P → IfNone o P
on_none None p = p
on_none (Some v) p = tt

-- Identifiers by the numbers that they spell.

spells_itself : (id : List ℕ) (k : ℕ) → id ≡ identifier k → number_spelled id ≡ k
spells_itself id k e = ap number_spelled e ∙ number_back k

pub leading_zero : (id : List ℕ) (k : ℕ) → 1 < length id → get_or id 0 0 ≡ 33 → id ≡ identifier k → ⊥
leading_zero id k l z e =
    let first = (one_identifier.is_one k).no_leading_zero (subst (λ (x : List ℕ). 2 ≤ length x) e l) in
    let same : get_or (identifier k) 0 0 ≡ 33 = ap (λ (x : List ℕ). get_or x 0 0) (sym e) ∙ z in
    omega (arith, first, same)

pub too_large : (id : List ℕ) (count k : ℕ) → count < 2 ^ 64 → 2 ^ 64 ≤ number_spelled id → k < count → id ≡ identifier k → ⊥
too_large id count k few large l e = let s = spells_itself id k e in omega (arith, few, large, l, s)

pub not_below : (id : List ℕ) (n count k : ℕ) → n ≡ number_spelled id → count ≤ n → k < count → id ≡ identifier k → ⊥
not_below id n count k is large l e = let s = spells_itself id k e in omega (arith, is, large, l, s)

pub identifies : (id : List ℕ) (n : ℕ) → are_digits 33 94 id ≡ true → (1 < length id → get_or id 0 0 ≡ 33 → ⊥) → n ≡ number_spelled id → id ≡ identifier n
identifies id n digits first is =
    one_identifier.no_other n id
    (record {
      digits = digits;
      no_leading_zero =
          λ l.
          let some = and_parts (nat_le 1 (length id)) (list_all (is_digit 33 94) id) digits in
          let byte = digit_byte 33 94 (get_or id 0 0) (all_at (is_digit 33 94) id 0 some.1 (omega (arith, l))) in
          let low = byte.0 in
          let other = first l in
          omega (arith, low, other);
      spells = id_spells id ∙ sym is;
    })
