-- The last piece of a text, and the fields and the count of a line by it.
use Rattle.sap_lemmas.proofs.Common.{◌≡◌, ℕ, zero, suc, ◌+◌, ◌-◌, ◌<◌, ◌≤◌, Bool, true, false, cond, eqb, Some, None, List, [], ◌∷◌, ◌++◌, length, get_or, drop, take, refl, sym, ap, subst, ◌∙◌, length-append, arith, count_by, position_or_len, take-append-drop, length-drop}
use Rattle.std.specs.List.{onto_first}
use Rattle.std.proofs.lemmas.List.Sums.{sum_by-append}
use borrow.Author.Tests.{eq-eqb}
use Rattle.sap_text.specs.Lines.{split_at}
use Rattle.sap_stim.specs.Line.{pieces_of, is_starred, fields_in, fields_of, count_in}
use Rattle.sap_stim.proofs.Pieces.{is_mark, split_unmarked, split_count}

-- no byte is the mark
abbrev pub IsUnmarked : ℕ → List ℕ → Type 0
IsUnmarked m s = length s ≤ position_or_len (is_mark m) s

-- this is the last piece
abbrev pub EndsWith : ℕ → List ℕ → List ℕ → Type 0
EndsWith m s piece = (others : List (List ℕ)) × (split_at m s ≡ others ++ piece ∷ [])

onto_first_append : (b : ℕ) (ps : List (List ℕ)) (p : List ℕ) → 0 < length ps → onto_first b (ps ++ p ∷ []) ≡ onto_first b ps ++ p ∷ []
onto_first_append b [] p h = absurd (omega arith)
onto_first_append b (q ∷ ps) p h = refl

onto_first_some : (b : ℕ) (ps : List (List ℕ)) → 0 < length (onto_first b ps)
onto_first_some b [] = omega arith
onto_first_some b (p ∷ ps) = omega arith

abbrev Behind : ℕ → List (List ℕ) → List ℕ → Type 0
Behind m pieces piece = (others : List (List ℕ)) × (0 < length others) × (pieces ≡ others ++ piece ∷ [])

-- what stands behind a mark with none behind it
behind_mark : (m k : ℕ) (s : List ℕ) → k < length s → get_or s k 0 ≡ m → IsUnmarked m (drop (suc k) s) → Behind m (split_at m s) (drop (suc k) s)
behind_mark m k [] h e u = absurd (omega arith)
behind_mark m zero (b ∷ bs) h e u =
    let P : Bool → Type 0 = λ t. Behind m (cond t ([] ∷ split_at m bs) (onto_first b (split_at m bs))) bs in
    let marked : P true = ([] ∷ [], omega arith, ap (λ (ps : List (List ℕ)). [] ∷ ps) (split_unmarked m bs u)) in
    subst P (sym (eq-eqb b m e)) marked
behind_mark m (suc k) (b ∷ bs) h e u =
    let rest : Behind m (split_at m bs) (drop (suc k) bs) = behind_mark m k bs (omega arith) e u in
    elim (eqb b m) as (λ t. Behind m (cond t ([] ∷ split_at m bs) (onto_first b (split_at m bs))) (drop (suc k) bs)) [
      | true ↦ ([] ∷ rest.0, omega arith, ap (λ (ps : List (List ℕ)). [] ∷ ps) rest.2)
      | false ↦ (onto_first b rest.0, onto_first_some b rest.0, ap (onto_first b) rest.2 ∙ onto_first_append b rest.0 (drop (suc k) bs) rest.1)
    ]

pub ends_behind : (m n : ℕ) (s piece : List ℕ) → 0 < n → n ≤ length s → get_or s (n - 1) 0 ≡ m → IsUnmarked m (drop n s) → piece ≡ drop n s → EndsWith m s piece
ends_behind m zero s piece some h e u p = absurd (omega arith)
ends_behind m (suc k) s piece some h e u p =
    let n : suc k - 1 ≡ k = omega arith in
    let found : Behind m (split_at m s) (drop (suc k) s) = behind_mark m k s (omega arith) (ap (λ (j : ℕ). get_or s j 0) (sym n) ∙ e) u in
    (found.0, found.2 ∙ ap (λ (x : List ℕ). found.0 ++ x ∷ []) (sym p))

pub ends_whole : (m n : ℕ) (s piece : List ℕ) → n ≡ 0 → IsUnmarked m (drop n s) → piece ≡ drop n s → EndsWith m s piece
ends_whole m zero s piece e u p = ([], split_unmarked m s u ∙ ap (λ (x : List ℕ). x ∷ []) (sym p))
ends_whole m (suc k) s piece e u p = absurd (omega arith)

fields_more : (p : List ℕ) (ps : List (List ℕ)) → 0 < length ps → fields_in (p ∷ ps) ≡ p ∷ fields_in ps
fields_more p [] h = absurd (omega arith)
fields_more p (q ∷ ps) h = refl

count_more : (p : List ℕ) (ps : List (List ℕ)) → 0 < length ps → count_in (p ∷ ps) ≡ count_in ps
count_more p [] h = absurd (omega arith)
count_more p (q ∷ ps) h = refl

some_pieces : (ps : List (List ℕ)) (p : List ℕ) → 0 < length (ps ++ p ∷ [])
some_pieces ps p = simp length-append (omega arith)

pub fields_last : (others : List (List ℕ)) (piece : List ℕ) → fields_in (others ++ piece ∷ []) ≡ cond (is_starred piece) others (others ++ piece ∷ [])
fields_last [] piece = refl
fields_last (p ∷ ps) piece = fields_more p (ps ++ piece ∷ []) (some_pieces ps piece) ∙ ap (λ (qs : List (List ℕ)). p ∷ qs) (fields_last ps piece) ∙ within (is_starred piece) where
  within : (b : Bool) → p ∷ cond b ps (ps ++ piece ∷ []) ≡ cond b (p ∷ ps) (p ∷ (ps ++ piece ∷ []))
  within true = refl
  within false = refl

count_last : (others : List (List ℕ)) (piece : List ℕ) → count_in (others ++ piece ∷ []) ≡ cond (is_starred piece) (Some piece) None
count_last [] piece = refl
count_last (p ∷ ps) piece = count_more p (ps ++ piece ∷ []) (some_pieces ps piece) ∙ count_last ps piece

count_pieces : (s : List ℕ) → count_in (pieces_of s) ≡ count_in (split_at 32 s)
count_pieces [] = refl
count_pieces (b ∷ bs) = refl

-- the count of a line by its last piece
pub count_found : (s piece : List ℕ) → EndsWith 32 s piece → count_in (pieces_of s) ≡ count_in (piece ∷ [])
count_found s piece ends = count_pieces s ∙ ap count_in ends.1 ∙ count_last ends.0 piece

-- no mark stands in the last piece
none_marked : (m : ℕ) (s : List ℕ) → IsUnmarked m s → count_by (is_mark m) s ≡ 0
none_marked m s u = let one : length (split_at m s) ≡ 1 = ap length (split_unmarked m s u) in omega (arith, one, split_count m s)

pub marks_before : (m n : ℕ) (s piece : List ℕ) → n ≤ length s → IsUnmarked m (drop n s) → piece ≡ drop n s
    → count_by (is_mark m) (take (length s - length piece) s) ≡ count_by (is_mark m) s
marks_before m n s piece h u p =
    let size : length piece ≡ length s - n = ap length p ∙ length-drop n s in
    let front : length s - length piece ≡ n = omega (arith, size) in
    let parts : count_by (is_mark m) (take n s ++ drop n s) ≡ count_by (is_mark m) (take n s) + count_by (is_mark m) (drop n s) = sum_by-append _ (take n s) (drop n s) in
    let whole : count_by (is_mark m) (take n s ++ drop n s) ≡ count_by (is_mark m) s = ap (count_by (is_mark m)) (take-append-drop n s) in
    ap (λ (k : ℕ). count_by (is_mark m) (take k s)) front ∙ (let none = none_marked m (drop n s) u in omega (arith, parts, whole, none))

-- the number of a line's fields by its last piece and its spaces
fields_found : (s piece : List ℕ) (n : ℕ) → 0 < length s → EndsWith 32 s piece → n ≡ count_by (is_mark 32) s → (others : List (List ℕ))
    × (length others ≡ n) × (fields_of s ≡ cond (is_starred piece) others (others ++ piece ∷ []))
fields_found [] piece n h ends e = absurd (omega arith)
fields_found (b ∷ bs) piece n h ends e =
    let pieces : length (ends.0 ++ piece ∷ []) ≡ n + 1 = sym (ap length ends.1) ∙ split_count 32 (b ∷ bs) ∙ ap (λ (k : ℕ). k + 1) (sym e) in
    (ends.0, let l = length-append ends.0 (piece ∷ []) in omega arith, ap fields_in ends.1 ∙ fields_last ends.0 piece)

pub fields_beside : (s piece : List ℕ) (n : ℕ) (b : Bool) → 0 < length s → EndsWith 32 s piece → n ≡ count_by (is_mark 32) s
    → b ≡ is_starred piece → b ≡ true → n ≡ length (fields_of s)
fields_beside s piece n b h ends e t is =
    let found = fields_found s piece n h ends e in
    sym found.1 ∙ ap length (sym (found.2 ∙ ap (λ (x : Bool). cond x found.0 (found.0 ++ piece ∷ [])) (sym t ∙ is)))

pub fields_whole : (s piece : List ℕ) (n : ℕ) (b : Bool) → 0 < length s → EndsWith 32 s piece → n ≡ count_by (is_mark 32) s
    → b ≡ is_starred piece → b ≡ false → n + 1 ≡ length (fields_of s)
fields_whole s piece n b h ends e t is =
    let found = fields_found s piece n h ends e in
    let all : length (fields_of s) ≡ length (found.0 ++ piece ∷ []) = ap length (found.2 ∙ ap (λ (x : Bool). cond x found.0 (found.0 ++ piece ∷ [])) (sym t ∙ is)) in
    let l = length-append found.0 (piece ∷ []) in
    let n : length found.0 ≡ n = found.1 in
    omega arith

-- the fields are the first pieces
front : (ps : List (List ℕ)) → (fields_in ps ≡ take (length (fields_in ps)) ps) × (length (fields_in ps) ≤ length ps)
front [] = (refl, omega arith)
front (p ∷ []) =
    elim (is_starred p) as (λ b. (cond b [] (p ∷ []) ≡ take (length (cond b [] (p ∷ []))) (p ∷ [])) × (length (cond b [] (p ∷ [])) ≤ 1)) [
      | true ↦ (refl, omega arith)
      | false ↦ (refl, omega arith)
    ]
front (p ∷ (q ∷ ps)) =
    let rest = front (q ∷ ps) in
    (ap (λ (xs : List (List ℕ)). p ∷ xs) rest.0, let h = rest.1 in omega arith)

pub fields_front : (s : List ℕ) (n : ℕ) → length (fields_of s) ≡ n → (fields_of s ≡ take n (split_at 32 s)) × (n ≤ length (split_at 32 s))
fields_front [] n h =
    let P : ℕ → Type 0 = λ k. (fields_of [] ≡ take k (split_at 32 [])) × (k ≤ length (split_at 32 [])) in
    let none : P 0 = (refl, omega arith) in
    subst P h none
fields_front (b ∷ bs) n h =
    let P : ℕ → Type 0 = λ k. (fields_of (b ∷ bs) ≡ take k (split_at 32 (b ∷ bs))) × (k ≤ length (split_at 32 (b ∷ bs))) in
    subst P h (front (split_at 32 (b ∷ bs)))
