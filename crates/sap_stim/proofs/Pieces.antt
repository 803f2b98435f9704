-- The first piece of a text and the others.
use Rattle.sap_lemmas.proofs.Common.{◌≡◌, ℕ, suc, ◌+◌, ◌<◌, ◌≤◌, Bool, true, false, not, cond, eqb, ltb, ◌-◌, Some, None, List, [], ◌∷◌, length, take, drop, refl, sym, ap, ap₂, ◌∙◌, arith, count_by, position, position_or_len, before_first, after_first, take_all, length-take-le, length-drop, drop_all, nat_tests, sum_by-cons, lt-ltb}
use Rattle.std.specs.List.{onto_first}
use Rattle.sap_lemmas.proofs.Lists.{take_more}
use Rattle.sap_text.specs.Lines.{split_at}

-- whether a byte is the mark
abbrev pub is_mark : ℕ → ℕ → Bool
is_mark mark b = eqb b mark

drop_more : (n b : ℕ) (bs : List ℕ) → drop (1 + n + 1) (b ∷ bs) ≡ drop (n + 1) bs
drop_more n b bs = let e : 1 + n + 1 ≡ suc (n + 1) = omega arith in ap (λ (k : ℕ). drop k (b ∷ bs)) e

pub split_marked : (m : ℕ) (s : List ℕ) → position_or_len (is_mark m) s < length s → split_at m s ≡ before_first (is_mark m) s ∷ split_at m (after_first (is_mark m) s)
split_marked m [] h = absurd (omega arith)
split_marked m (b ∷ bs) h =
    let n : ℕ = position_or_len (is_mark m) bs in
    elim (eqb b m) as (λ t. cond (not t) (1 + n) 0 < suc (length bs)
    → cond t ([] ∷ split_at m bs) (onto_first b (split_at m bs)) ≡ take (cond (not t) (1 + n) 0) (b ∷ bs) ∷ split_at m (drop (cond (not t) (1 + n) 0 + 1) (b ∷ bs))) [
      | true ↦ λ _. refl
      | false ↦ λ small. ap (onto_first b) (split_marked m bs (omega arith)) ∙ ap₂ (λ (x y : List ℕ). x ∷ split_at m y) (sym (take_more n b bs)) (sym (drop_more n b bs))
    ] h

pub split_unmarked : (m : ℕ) (s : List ℕ) → length s ≤ position_or_len (is_mark m) s → split_at m s ≡ s ∷ []
split_unmarked m [] h = refl
split_unmarked m (b ∷ bs) h =
    let n : ℕ = position_or_len (is_mark m) bs in
    elim (eqb b m) as (λ t. suc (length bs) ≤ cond (not t) (1 + n) 0 → cond t ([] ∷ split_at m bs) (onto_first b (split_at m bs)) ≡ (b ∷ bs) ∷ []) [
      | true ↦ λ large. absurd (omega arith)
      | false ↦ λ large. ap (onto_first b) (split_unmarked m bs (omega arith))
    ] h

pub before_unmarked : (m : ℕ) (s : List ℕ) → length s ≤ position_or_len (is_mark m) s → before_first (is_mark m) s ≡ s
before_unmarked m s h = take_all (position_or_len (is_mark m) s) s h

pub after_unmarked : (m : ℕ) (s : List ℕ) → length s ≤ position_or_len (is_mark m) s → after_first (is_mark m) s ≡ []
after_unmarked m s h = drop_all (position_or_len (is_mark m) s + 1) s (omega arith)

pub length_before : (m : ℕ) (s : List ℕ) → position_or_len (is_mark m) s < length s → length (before_first (is_mark m) s) ≡ position_or_len (is_mark m) s
length_before m s h = length-take-le (position_or_len (is_mark m) s) s (omega arith)

-- the first mark stands within a text or behind it
pub mark_within : (m : ℕ) (s : List ℕ) → position_or_len (is_mark m) s ≤ length s
mark_within m [] = omega arith
mark_within m (b ∷ bs) =
    elim (eqb b m) as (λ t. cond (not t) (1 + position_or_len (is_mark m) bs) 0 ≤ suc (length bs)) [
      | true ↦ omega arith
      | false ↦ let later = mark_within m bs in omega arith
    ]

-- the first piece ends where the first mark stands
pub piece_ends : (m : ℕ) (s text : List ℕ) → text ≡ before_first (is_mark m) s → length text ≡ position_or_len (is_mark m) s
piece_ends m s text e = ap length e ∙ length-take-le (position_or_len (is_mark m) s) s (mark_within m s)

-- what stands behind the first mark, by where that stands
pub behind_mark : (m : ℕ) (s : List ℕ) (end : ℕ) → end ≡ position_or_len (is_mark m) s → take (length s - (end + 1)) (drop (end + 1) s) ≡ after_first (is_mark m) s
behind_mark m s end e =
    take_all (length s - (end + 1)) (drop (end + 1) s) (let l = length-drop (end + 1) s in omega arith)
    ∙ ap (λ (k : ℕ). drop (k + 1) s) e

length_onto_first : (b : ℕ) (ps : List (List ℕ)) (n : ℕ) → length ps ≡ n + 1 → length (onto_first b ps) ≡ n + 1
length_onto_first b [] n h = absurd (omega arith)
length_onto_first b (p ∷ ps) n h = h

-- as many pieces as marks, and one more
pub split_count : (m : ℕ) (s : List ℕ) → length (split_at m s) ≡ count_by (is_mark m) s + 1
split_count m [] = refl
split_count m (b ∷ bs) =
    let n : ℕ = count_by (is_mark m) bs in
    let P : Bool → Type 0 = λ t. length (cond t ([] ∷ split_at m bs) (onto_first b (split_at m bs))) ≡ cond t 1 0 + n + 1 in
    let here : P (eqb b m) = elim (eqb b m) as P [
      | true ↦ let e = split_count m bs in omega arith
      | false ↦ length_onto_first b (split_at m bs) (0 + n) (let e = split_count m bs in omega arith)
    ] in
    here ∙ ap (λ (k : ℕ). k + 1) (sym (sum_by-cons (λ (x : ℕ). cond (eqb x m) 1 0) b bs))

pub non_empty : (s : List ℕ) → false ≡ eqb (length s) 0 → 0 < length s
non_empty [] e = absurd (let f : ⊥ = cc in f)
non_empty (b ∷ bs) e = omega arith

-- where the first mark stands
place_found : (k n i : ℕ) (b : Bool) → ltb k n ≡ b → Some i ≡ cond b (Some k) None → (i ≡ k) × (k < n)
place_found k n i true t e = (let f : i ≡ k = cc in f, grind (arith, nat_tests))
place_found k n i false t e = absurd (let f : ⊥ = cc in f)

place_missing : (k n : ℕ) (b : Bool) → ltb k n ≡ b → None ≡ cond b (Some k) None → n ≤ k
place_missing k n true t e = absurd (let f : ⊥ = cc in f)
place_missing k n false t e = grind (arith, nat_tests)

pub not_found : (m : ℕ) (s : List ℕ) → None ≡ position (is_mark m) s → length s ≤ position_or_len (is_mark m) s
not_found m s e = place_missing (position_or_len (is_mark m) s) (length s) _ refl e

-- the mark that is found is the first
pub found_first : (m : ℕ) (s : List ℕ) (i : ℕ) → Some i ≡ position (is_mark m) s → (i ≡ position_or_len (is_mark m) s) × (i < length s)
found_first m s i e =
    let found = place_found (position_or_len (is_mark m) s) (length s) i _ refl e in
    (found.0, omega (arith, found.0, found.1))

pub marked_found : (m : ℕ) (s : List ℕ) → position_or_len (is_mark m) s < length s → Some (position_or_len (is_mark m) s) ≡ position (is_mark m) s
marked_found m s h = ap (λ (t : Bool). cond t (Some (position_or_len (is_mark m) s)) None) (sym (lt-ltb (position_or_len (is_mark m) s) (length s) h))

pub cut_before : (m : ℕ) (s : List ℕ) (i : ℕ) → Some i ≡ position (is_mark m) s → take i s ≡ before_first (is_mark m) s
cut_before m s i e = ap (λ (k : ℕ). take k s) (place_found (position_or_len (is_mark m) s) (length s) i _ refl e).0

pub cut_behind : (m : ℕ) (s : List ℕ) (i : ℕ) → Some i ≡ position (is_mark m) s → take (length s - (i + 1)) (drop (i + 1) s) ≡ after_first (is_mark m) s
cut_behind m s i e =
    take_all (length s - (i + 1)) (drop (i + 1) s) (let l = length-drop (i + 1) s in omega arith)
    ∙ ap (λ (k : ℕ). drop (k + 1) s) (place_found (position_or_len (is_mark m) s) (length s) i _ refl e).0

pub uncut_before : (m : ℕ) (s : List ℕ) → None ≡ position (is_mark m) s → s ≡ before_first (is_mark m) s
uncut_before m s e = sym (before_unmarked m s (place_missing (position_or_len (is_mark m) s) (length s) _ refl e))

pub uncut_behind : (m : ℕ) (s : List ℕ) → None ≡ position (is_mark m) s → take (length s - length s) (drop (length s) s) ≡ after_first (is_mark m) s
uncut_behind m s e =
    take_all (length s - length s) (drop (length s) s) (let l = length-drop (length s) s in omega arith)
    ∙ drop_all (length s) s (omega arith)
    ∙ sym (after_unmarked m s (place_missing (position_or_len (is_mark m) s) (length s) _ refl e))
