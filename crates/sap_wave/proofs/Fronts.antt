-- The digits at the front of a text, and the change in its first line.
use Rattle.sap_lemmas.proofs.Common.{◌≡◌, ℕ, ◌+◌, ◌-◌, ◌*◌, ◌%◌, ◌^◌, ◌<◌, ◌≤◌, List, [], ◌∷◌, ◌++◌, true, false, nat_le, nat_lt, take, length, get_or, slice_index, refl, sym, ap, ◌∙◌, arith, codes, list_all, mod-eq_of_lt, and_from, and_parts, nat_tests, append_assoc, length-take-le, take_more, true_is_not_false}
use Rattle.std.proofs.lemmas.List.Folds.{list_all-append}
use Rattle.sap_wave.specs.Prelude.{IsChangeAt, IsNoChange, are_digits, bits_number, is_digit, spelled, ended, change, is_formed, is_id, IsLine, IsCut, is_not}
use Rattle.sap_wave.proofs.Spelled.{few_bits, short_id, spelled_more}
use Rattle.sap_wave.proofs.Forms.{SamePieces, first_same, rest_same}

-- Digits.

pub all_more : (f b : ℕ) (ds : List ℕ) (i : ℕ) → i < length ds → list_all (is_digit f b) (take i ds) ≡ true → is_digit f b (get_or ds i 0) ≡ true
    → list_all (is_digit f b) (take (i + 1) ds) ≡ true
all_more f b ds i l all d =
    ap (list_all (is_digit f b)) (take_more ds i 0 l)
    ∙ list_all-append (is_digit f b) (take i ds) (get_or ds i 0 ∷ [])
    ∙ and_from (list_all (is_digit f b) (take i ds)) (list_all (is_digit f b) (get_or ds i 0 ∷ [])) all (and_from (is_digit f b (get_or ds i 0)) true d refl)

-- a product and a sum that stay below 2^64
within_word : (product digit whole : ℕ) → whole ≡ product + digit → whole < 2 ^ 64 → (product % 2 ^ 64 + digit) % 2 ^ 64 ≡ whole
within_word product digit whole is below =
    let first : product < 2 ^ 64 = omega (arith, is, below) in
    let sum : product + digit < 2 ^ 64 = omega (arith, is, below) in
    ap (λ (z : ℕ). (z + digit) % 2 ^ 64) (mod-eq_of_lt first) ∙ mod-eq_of_lt sum ∙ sym is

pub number_more : (f b : ℕ) (ds : List ℕ) (i n d : ℕ) → i < length ds → spelled f b (take (i + 1) ds) < 2 ^ 64 → n ≡ spelled f b (take i ds) → d ≡ get_or ds i 0 - f
    → (n * b % 2 ^ 64 + d) % 2 ^ 64 ≡ spelled f b (take (i + 1) ds)
number_more f b ds i n d l below is e =
    let more : spelled f b (take (i + 1) ds) ≡ n * b + d =
    spelled_more f b ds i l ∙ ap (λ (z : ℕ). z * b + (get_or ds i 0 - f)) (sym is) ∙ ap (λ (z : ℕ). n * b + z) (sym e) in
    within_word (n * b) d (spelled f b (take (i + 1) ds)) more below

pub bits_below : (ds : List ℕ) (i : ℕ) → i < length ds → list_all (is_digit 48 2) (take (i + 1) ds) ≡ true → i + 1 ≤ 64 → spelled 48 2 (take (i + 1) ds) < 2 ^ 64
bits_below ds i l all few = let size = length-take-le (i + 1) ds (omega (arith, l)) in few_bits (take (i + 1) ds) all (omega (arith, size, few))

pub id_below : (ds : List ℕ) (i : ℕ) → i < length ds → list_all (is_digit 33 94) (take (i + 1) ds) ≡ true → i + 1 ≤ 9 → spelled 33 94 (take (i + 1) ds) < 2 ^ 64
id_below ds i l all few = let size = length-take-le (i + 1) ds (omega (arith, l)) in short_id (take (i + 1) ds) all (omega (arith, size, few))

pub few_taken : (most : ℕ) (ds : List ℕ) (i : ℕ) → i ≤ length ds → length (take i ds) ≤ most → i ≤ most
few_taken most ds i l few = let size = length-take-le i ds l in omega (arith, size, few)

pub bits_spell : (ds : List ℕ) → spelled 48 2 ds ≡ bits_number ds
unfolding bits_number
bits_spell ds = refl

-- digits at the front of a text, and what stands behind them and begins with none
pub record IsFront (f b : ℕ) (text digits behind : List ℕ) : Type 0 where
  pub whole : text ≡ digits ++ behind
  pub all : list_all (is_digit f b) digits ≡ true
  pub others : is_digit f b (slice_index behind 0) ≡ false

front_differs : (f b x : ℕ) (r s : List ℕ) → is_digit f b x ≡ true → is_digit f b (slice_index s 0) ≡ false → x ∷ r ≡ s → ⊥
front_differs f b x r s d other e = true_is_not_false (sym d ∙ ap (λ (z : List ℕ). is_digit f b (slice_index z 0)) e ∙ other)

same_front : (f b : ℕ) (xs ys r s : List ℕ) → list_all (is_digit f b) xs ≡ true → list_all (is_digit f b) ys ≡ true → is_digit f b (slice_index r 0) ≡ false
    → is_digit f b (slice_index s 0) ≡ false → xs ++ r ≡ ys ++ s → SamePieces xs ys r s
same_front f b [] [] r s h k p q e = record { piece = refl; rest = e }
same_front f b [] (y ∷ ys) r s h k p q e = absurd (front_differs f b y (ys ++ s) r (and_parts (is_digit f b y) (list_all (is_digit f b) ys) k).0 p (sym e))
same_front f b (x ∷ xs) [] r s h k p q e = absurd (front_differs f b x (xs ++ r) s (and_parts (is_digit f b x) (list_all (is_digit f b) xs) h).0 q e)
same_front f b (x ∷ xs) (y ∷ ys) r s h k p q e =
    let c = and_parts (is_digit f b x) (list_all (is_digit f b) xs) h in
    let d = and_parts (is_digit f b y) (list_all (is_digit f b) ys) k in
    let i = same_front f b xs ys r s c.1 d.1 p q (rest_same x y (xs ++ r) (ys ++ s) e) in
    let g = first_same x y (xs ++ r) (ys ++ s) e in
    record { piece = ap (λ (z : ℕ). z ∷ xs) g ∙ ap (λ (z : List ℕ). y ∷ z) i.piece; rest = i.rest }

-- Lines.

above_end : (f n b : ℕ) → 11 ≤ f → is_digit f n b ≡ true → is_not 10 b ≡ true
above_end f n b l h = let p = and_parts (nat_le f b) (nat_lt b (f + n)) h in let q = p.0 in grind (arith, nat_tests)

none_end : (f n : ℕ) (bs : List ℕ) → 11 ≤ f → list_all (is_digit f n) bs ≡ true → list_all (is_not 10) bs ≡ true
none_end f n [] l h = refl
none_end f n (b ∷ bs) l h =
    let p = and_parts (is_digit f n b) (list_all (is_digit f n) bs) h in
    and_from (is_not 10 b) (list_all (is_not 10) bs) (above_end f n b l p.0) (none_end f n bs l p.1)

-- the parts of a change in the first line of a text, behind its first byte
record AreParts (text d i behind : List ℕ) : Type 0 where
  whole : text ≡ d ++ (32 ∷ (i ++ (10 ∷ behind)))
  bits : list_all (is_digit 48 2) d ≡ true
  id : list_all (is_digit 33 94) i ≡ true

change_text : (text line behind d i : List ℕ) → IsCut 10 text line behind → IsLine (ended line) (change d i) → text ≡ 98 ∷ (d ++ (32 ∷ (i ++ (10 ∷ behind))))
change_text text line behind d i c l =
    c.whole ∙ ap (λ (z : List ℕ). z ++ (10 ∷ behind)) (sym l.text) ∙ ap (λ (z : List ℕ). 98 ∷ z) (append_assoc d (32 ∷ i) (10 ∷ behind))

are_parts : (text rest line behind d i : List ℕ) → text ≡ 98 ∷ rest → IsCut 10 text line behind → IsLine (ended line) (change d i) → AreParts rest d i behind
are_parts text rest line behind d i e c l =
    let p = and_parts (are_digits 48 2 d) (is_id i) l.formed in
    record {
      whole = rest_same 98 98 rest (d ++ (32 ∷ (i ++ (10 ∷ behind)))) (sym e ∙ change_text text line behind d i c l);
      bits = (and_parts (nat_le 1 (length d)) (list_all (is_digit 48 2) d) p.0).1;
      id = (and_parts (nat_le 1 (length i)) (list_all (is_digit 33 94) i) p.1).1;
    }

same_digits : (rest digits other d i behind : List ℕ) → IsFront 48 2 rest digits other → AreParts rest d i behind
    → SamePieces digits d other (32 ∷ (i ++ (10 ∷ behind)))
same_digits rest digits other d i behind f p = same_front 48 2 digits d other (32 ∷ (i ++ (10 ∷ behind))) f.all p.bits f.others refl (sym f.whole ∙ p.whole)

same_id : (rest digits other tail id after d i behind : List ℕ) → IsFront 48 2 rest digits other → other ≡ codes " " ++ tail → IsFront 33 94 tail id after
    → AreParts rest d i behind → SamePieces id i after (10 ∷ behind)
same_id rest digits other tail id after d i behind f spaced g p =
    let s = same_digits rest digits other d i behind f p in
    let t : tail ≡ i ++ (10 ∷ behind) = rest_same 32 32 tail (i ++ (10 ∷ behind)) (sym spaced ∙ s.rest) in
    same_front 33 94 id i after (10 ∷ behind) g.all p.id g.others refl (sym g.whole ∙ t)

pub no_b : (text : List ℕ) → ((rest : List ℕ) → text ≡ codes "b" ++ rest → ⊥) → IsNoChange text
no_b text against = λ line behind c d i l. against (d ++ (32 ∷ (i ++ (10 ∷ behind)))) (change_text text line behind d i c l)

pub no_space : (text rest digits other : List ℕ) → text ≡ codes "b" ++ rest → IsFront 48 2 rest digits other → ((tail : List ℕ) → other ≡ codes " " ++ tail → ⊥)
    → IsNoChange text
no_space text rest digits other e f against = λ line behind c d i l.
    against (i ++ (10 ∷ behind)) (same_digits rest digits other d i behind f (are_parts text rest line behind d i e c l)).rest

pub no_end : (text rest digits other tail id after : List ℕ) → text ≡ codes "b" ++ rest → IsFront 48 2 rest digits other → other ≡ codes " " ++ tail
    → IsFront 33 94 tail id after → ((behind : List ℕ) → after ≡ codes "\n" ++ behind → ⊥) → IsNoChange text
no_end text rest digits other tail id after e f spaced g against = λ line behind c d i l.
    against behind (same_id rest digits other tail id after d i behind f spaced g (are_parts text rest line behind d i e c l)).rest

pub not_formed : (text rest digits other tail id after : List ℕ) → text ≡ codes "b" ++ rest → IsFront 48 2 rest digits other → other ≡ codes " " ++ tail
    → IsFront 33 94 tail id after → is_formed (change digits id) ≡ false → IsNoChange text
not_formed text rest digits other tail id after e f spaced g against = λ line behind c d i l.
    let p = are_parts text rest line behind d i e c l in
    let s = same_digits rest digits other d i behind f p in
    let t = same_id rest digits other tail id after d i behind f spaced g p in
    let same : is_formed (change digits id) ≡ is_formed (change d i) =
    ap (λ (z : List ℕ). is_formed (change z id)) s.piece ∙ ap (λ (z : List ℕ). is_formed (change d z)) t.piece in
    true_is_not_false (sym l.formed ∙ sym same ∙ against)

pub change_there : (text rest digits other tail id after behind : List ℕ) (number : ℕ) → text ≡ codes "b" ++ rest → IsFront 48 2 rest digits other
    → other ≡ codes " " ++ tail → IsFront 33 94 tail id after → after ≡ codes "\n" ++ behind → is_formed (change digits id) ≡ true
    → (length digits ≤ 64 → number ≡ bits_number digits) → IsChangeAt text digits id number behind
change_there text rest digits other tail id after behind number e f spaced g ends formed spells =
    let tails : tail ≡ id ++ (10 ∷ behind) = g.whole ∙ ap (λ (z : List ℕ). id ++ z) ends in
    let rests : rest ≡ digits ++ (32 ∷ (id ++ (10 ∷ behind))) =
    f.whole ∙ ap (λ (z : List ℕ). digits ++ z) (spaced ∙ ap (λ (z : List ℕ). 32 ∷ z) tails) in
    record {
      line =
          record {
            whole = e ∙ ap (λ (z : List ℕ). 98 ∷ z) (rests ∙ sym (append_assoc digits (32 ∷ id) (10 ∷ behind)));
            first =
                list_all-append (is_not 10) digits (32 ∷ id)
                ∙ and_from (list_all (is_not 10) digits) (list_all (is_not 10) id) (none_end 48 2 digits (omega arith) f.all) (none_end 33 94 id (omega arith) g.all);
          };
      formed = formed;
      spells = spells;
    }
