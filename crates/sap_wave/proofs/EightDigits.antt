-- Binary digits, eight at a time.
use Rattle.sap_lemmas.proofs.Common.{◌≡◌, ℕ, zero, suc, ◌+◌, ◌-◌, ◌*◌, ◌/◌, ◌%◌, ◌^◌, ◌<◌, ◌≤◌, Bool, true, ◌&&◌, T, eqb, List, [], ◌∷◌, ◌++◌, length, drop, take, get_or, bit_and, refl, sym, ap, ◌∙◌, inl, inr, arith, eq-zero-or-pos, eqb→eq, list_all, mod-eq_of_lt, take-add, and_from, and_parts, drop_more, get_or_past, length-take-le}
use Rattle.std.specs.Int.{from_le_bytes, w64}
use Rattle.std.proofs.lemmas.List.Folds.{list_all-append}
use Rattle.std.proofs.lemmas.Nat.{le_bytes_8}
use lib.Ieee.Fits.{and_l, and_r}
use Rattle.sap_wave.specs.Digits.{bits, digits_of, is_digit, spelled, spelled_behind}
use Rattle.sap_wave.proofs.DigitsLemmas.{bits_read_back, digit_byte, spelled_append}
use Rattle.sap_wave.proofs.Spelled.{few_bits}

-- words of eight digits

abbrev word : ℕ → ℕ
word q = (bit_and (q * 9241421688590303745 % 2 ^ 64) 9259542123273814144 / 128 + 3472328296227680304) % 2 ^ 64

abbrev is_word : ℕ → Bool
is_word q = eqb (word q) (from_le_bytes w64 (digits_of 48 2 8 q))

abbrev are_words : ℕ → Bool
are_words zero = true
are_words (suc q) = is_word q && are_words q

words_below : (n q : ℕ) → T (are_words n) → q < n → T (is_word q)
words_below zero q t h = absurd (omega arith)
words_below (suc n) q t h =
    elim (eq-zero-or-pos (n - q)) [
      | inl z ↦ let e : q ≡ n = omega arith in rw e (and_l _ (are_words n) t)
      | inr g ↦ words_below n q (and_r _ (are_words n) t) (omega arith)
    ]

bits_are : (w n : ℕ) → digits_of 48 2 w n ≡ bits w n
unfolding bits
bits_are w n = refl

pub word_is : (q : ℕ) → q < 256 → word q ≡ from_le_bytes w64 (bits 8 q)
word_is q h = eqb→eq (word q) (from_le_bytes w64 (digits_of 48 2 8 q)) (words_below 256 q tt h) ∙ ap (from_le_bytes w64) (bits_are 8 q)

-- eight bytes

front : (t : List ℕ) (i j : ℕ) → j ≡ i + 1 → i < length t → drop i t ≡ get_or t i 0 ∷ drop j t
front t i j e l = drop_more t i 0 l ∙ ap (λ (k : ℕ). get_or t i 0 ∷ drop k t) (sym e)

-- those at a place
abbrev pub eight : List ℕ → ℕ → List ℕ
eight t i =
    get_or t i 0 ∷ get_or t (i + 1) 0 ∷ get_or t (i + 2) 0 ∷ get_or t (i + 3) 0 ∷ get_or t (i + 4) 0 ∷ get_or t (i + 5) 0 ∷ get_or t (i + 6) 0 ∷ get_or t (i + 7) 0 ∷ []

eight_taken : (t : List ℕ) (i : ℕ) → i + 8 ≤ length t → take 8 (drop i t) ≡ eight t i
eight_taken t i l =
    let h = front t (i + 7) (i + 8) (omega arith) (omega (arith, l)) in
    let g = front t (i + 6) (i + 7) (omega arith) (omega (arith, l)) ∙ ap (λ (r : List ℕ). get_or t (i + 6) 0 ∷ r) h in
    let f = front t (i + 5) (i + 6) (omega arith) (omega (arith, l)) ∙ ap (λ (r : List ℕ). get_or t (i + 5) 0 ∷ r) g in
    let e = front t (i + 4) (i + 5) (omega arith) (omega (arith, l)) ∙ ap (λ (r : List ℕ). get_or t (i + 4) 0 ∷ r) f in
    let d = front t (i + 3) (i + 4) (omega arith) (omega (arith, l)) ∙ ap (λ (r : List ℕ). get_or t (i + 3) 0 ∷ r) e in
    let c = front t (i + 2) (i + 3) (omega arith) (omega (arith, l)) ∙ ap (λ (r : List ℕ). get_or t (i + 2) 0 ∷ r) d in
    let b = front t (i + 1) (i + 2) (omega arith) (omega (arith, l)) ∙ ap (λ (r : List ℕ). get_or t (i + 1) 0 ∷ r) c in
    let a = front t i (i + 1) refl (omega (arith, l)) ∙ ap (λ (r : List ℕ). get_or t i 0 ∷ r) b in
    ap (take 8) a

abbrev none : List ℕ
none = []

none_small : (k : ℕ) → get_or none k 0 < 256
none_small k = let past = get_or_past none k 0 (omega arith) in omega (arith, past)

cons_small : (x : ℕ) (xs : List ℕ) → x < 256 → ((k : ℕ) → get_or xs k 0 < 256) → (k : ℕ) → get_or (x ∷ xs) k 0 < 256
cons_small x xs h all zero = h
cons_small x xs h all (suc k) = all k

eight_small : (t : List ℕ) (i : ℕ) → ((k : ℕ) → get_or t k 0 < 256) → (k : ℕ) → get_or (eight t i) k 0 < 256
eight_small t i h =
    let g7 : List ℕ = get_or t (i + 7) 0 ∷ none in
    let g6 : List ℕ = get_or t (i + 6) 0 ∷ g7 in
    let g5 : List ℕ = get_or t (i + 5) 0 ∷ g6 in
    let g4 : List ℕ = get_or t (i + 4) 0 ∷ g5 in
    let g3 : List ℕ = get_or t (i + 3) 0 ∷ g4 in
    let g2 : List ℕ = get_or t (i + 2) 0 ∷ g3 in
    let g1 : List ℕ = get_or t (i + 1) 0 ∷ g2 in
    let h7 = cons_small (get_or t (i + 7) 0) none (h (i + 7)) none_small in
    let h6 = cons_small (get_or t (i + 6) 0) g7 (h (i + 6)) h7 in
    let h5 = cons_small (get_or t (i + 5) 0) g6 (h (i + 5)) h6 in
    let h4 = cons_small (get_or t (i + 4) 0) g5 (h (i + 4)) h5 in
    let h3 = cons_small (get_or t (i + 3) 0) g4 (h (i + 3)) h4 in
    let h2 = cons_small (get_or t (i + 2) 0) g3 (h (i + 2)) h3 in
    let h1 = cons_small (get_or t (i + 1) 0) g2 (h (i + 1)) h2 in
    cons_small (get_or t i 0) g1 (h i) h1

digits_small : (ds : List ℕ) → list_all (is_digit 48 2) ds ≡ true → (k : ℕ) → get_or ds k 0 < 256
digits_small [] h = none_small
digits_small (x ∷ xs) h =
    let p = and_parts (is_digit 48 2 x) (list_all (is_digit 48 2) xs) h in
    let high = (digit_byte 48 2 x p.0).1 in
    cons_small x xs (omega (arith, high)) (digits_small xs p.1)

-- which word they make says which digits they are
pub eight_digits : (t : List ℕ) (i n w : ℕ) → i + 8 ≤ length t → ((k : ℕ) → get_or t k 0 < 256) → w ≡ from_le_bytes w64 (eight t i) → w ≡ from_le_bytes w64 (bits 8 n)
    → take 8 (drop i t) ≡ bits 8 n
eight_digits t i n w l small read is =
    let there = le_bytes_8 (eight t i) w refl (eight_small t i small) read in
    let here = le_bytes_8 (bits 8 n) w (bits_read_back.width 8 n) (digits_small (bits 8 n) (bits_read_back.digits 8 n)) is in
    eight_taken t i l ∙ sym there ∙ here

-- eight digits more

one_more : (n k p m : ℕ) → spelled_behind 48 2 n (digits_of 48 2 k (m / 2)) ≡ n * p + m / 2 → spelled_behind 48 2 n (digits_of 48 2 (suc k) m) ≡ n * (p * 2) + m
one_more n k p m is =
    let twice : n * (p * 2) ≡ n * p * 2 = grind arith in
    let last : spelled_behind 48 2 n (digits_of 48 2 k (m / 2)) * 2 + (48 + m % 2 - 48) ≡ n * (p * 2) + m = omega (arith, is, twice) in
    spelled_append 48 2 n (digits_of 48 2 k (m / 2)) ((48 + m % 2) ∷ []) ∙ last

eight_behind : (n m : ℕ) → m < 256 → spelled_behind 48 2 n (digits_of 48 2 8 m) ≡ n * 256 + m
eight_behind n m h =
    let a : ℕ = m / 2 in
    let b : ℕ = a / 2 in
    let c : ℕ = b / 2 in
    let d : ℕ = c / 2 in
    let e : ℕ = d / 2 in
    let f : ℕ = e / 2 in
    let g : ℕ = f / 2 in
    let over : n ≡ n * 1 + g / 2 = omega (arith, h) in
    one_more n 7 128 m (one_more n 6 64 a (one_more n 5 32 b (one_more n 4 16 c (one_more n 3 8 d (one_more n 2 4 e (one_more n 1 2 f (one_more n 0 1 g over)))))))

pub eight_more : (ds : List ℕ) (i e : ℕ) → take 8 (drop i ds) ≡ bits 8 e → take (i + 8) ds ≡ take i ds ++ bits 8 e
eight_more ds i e are = take-add i 8 ds ∙ ap (λ (z : List ℕ). take i ds ++ z) are

pub all_eight_more : (ds : List ℕ) (i e : ℕ) → list_all (is_digit 48 2) (take i ds) ≡ true → take 8 (drop i ds) ≡ bits 8 e → list_all (is_digit 48 2) (take (i + 8) ds) ≡ true
all_eight_more ds i e all are =
    ap (list_all (is_digit 48 2)) (eight_more ds i e are)
    ∙ list_all-append (is_digit 48 2) (take i ds) (bits 8 e)
    ∙ and_from (list_all (is_digit 48 2) (take i ds)) (list_all (is_digit 48 2) (bits 8 e)) all (bits_read_back.digits 8 e)

pub number_eight_more : (ds : List ℕ) (i n e : ℕ) → i + 8 ≤ length ds → e < 256 → list_all (is_digit 48 2) (take (i + 8) ds) ≡ true → i + 8 ≤ 64
    → n ≡ spelled 48 2 (take i ds) → take 8 (drop i ds) ≡ bits 8 e → (n * 256 % 2 ^ 64 + e) % 2 ^ 64 ≡ spelled 48 2 (take (i + 8) ds)
number_eight_more ds i n e l small all few is are =
    let more : spelled 48 2 (take (i + 8) ds) ≡ n * 256 + e =
    ap (spelled 48 2) (eight_more ds i e are)
    ∙ spelled_append 48 2 0 (take i ds) (bits 8 e)
    ∙ ap (λ (z : ℕ). spelled_behind 48 2 z (bits 8 e)) (sym is)
    ∙ ap (spelled_behind 48 2 n) (sym (bits_are 8 e))
    ∙ eight_behind n e small in
    let size = length-take-le (i + 8) ds l in
    let below = few_bits (take (i + 8) ds) all (omega (arith, size, few)) in
    let product : n * 256 < 2 ^ 64 = omega (arith, more, below) in
    let sum : n * 256 + e < 2 ^ 64 = omega (arith, more, below) in
    ap (λ (z : ℕ). (z + e) % 2 ^ 64) (mod-eq_of_lt product) ∙ mod-eq_of_lt sum ∙ sym more
