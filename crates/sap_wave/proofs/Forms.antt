-- A line is of at most one form.
use Rattle.sap_lemmas.proofs.Common.{◌≡◌, ℕ, ◌+◌, ◌≤◌, List, [], ◌∷◌, ◌++◌, Bool, true, ◌&&◌, nat_lt, nat_le, nat_eq, drop, length, slice_index, refl, sym, ap, ◌∙◌, arith, cond, not, ◌==◌, ◌||◌, list_all, byte, and_from, and_parts, nat_tests}
use Rattle.sap_wave.specs.Prelude.{is_digit, are_digits, Form, timescale, scope, upscope, end_definitions, variable, block, change, form_text, is_formed, is_number, is_id, is_piece, IsLine}
use Rattle.sap_text.specs.Lines.{Line}

abbrev pub is_no_space : ℕ → Bool
is_no_space b = not (b == byte " ")

pub above_space : (f n b : ℕ) → 33 ≤ f → is_digit f n b ≡ true → is_no_space b ≡ true
above_space f n b l h = let p = and_parts (nat_le f b) (nat_lt b (f + n)) h in let q = p.0 in grind (arith, nat_tests)

pub digits_no_space : (f n : ℕ) (bs : List ℕ) → 33 ≤ f → list_all (is_digit f n) bs ≡ true → list_all is_no_space bs ≡ true
digits_no_space f n [] l h = refl
digits_no_space f n (b ∷ bs) l h =
    let p = and_parts (is_digit f n b) (list_all (is_digit f n) bs) h in
    and_from (is_no_space b) (list_all is_no_space bs) (above_space f n b l p.0) (digits_no_space f n bs l p.1)

pub are_digits_no_space : (f n : ℕ) (bs : List ℕ) → 33 ≤ f → are_digits f n bs ≡ true → list_all is_no_space bs ≡ true
are_digits_no_space f n bs l h = digits_no_space f n bs l (and_parts (nat_le 1 (length bs)) (list_all (is_digit f n) bs) h).1

pub record SamePieces (xs ys r s : List ℕ) : Type 0 where
  pub piece : xs ≡ ys
  pub rest : r ≡ s

pub first_same : (x y : ℕ) (xs ys : List ℕ) → x ∷ xs ≡ y ∷ ys → x ≡ y
first_same x y xs ys e = ap (λ (z : List ℕ). slice_index z 0) e

pub rest_same : (x y : ℕ) (xs ys : List ℕ) → x ∷ xs ≡ y ∷ ys → xs ≡ ys
rest_same x y xs ys e = ap (λ (z : List ℕ). drop 1 z) e

mark_is_mark : (m b : ℕ) → b ≡ m → not (b == m) ≡ true → ⊥
mark_is_mark m b e h = grind (arith, nat_tests)

-- what stands before the first mark, and behind it
pub same_cut : (m : ℕ) (xs ys r s : List ℕ) → list_all (λ b. not (b == m)) xs ≡ true → list_all (λ b. not (b == m)) ys ≡ true → xs ++ (m ∷ r) ≡ ys ++ (m ∷ s)
    → SamePieces xs ys r s
same_cut m [] [] r s h k e = record { piece = refl; rest = rest_same m m r s e }
same_cut m [] (y ∷ ys) r s h k e =
    absurd (mark_is_mark m y (sym (first_same m y r (ys ++ (m ∷ s)) e)) (and_parts (not (y == m)) (list_all (λ b. not (b == m)) ys) k).0)
same_cut m (x ∷ xs) [] r s h k e =
    absurd (mark_is_mark m x (first_same x m (xs ++ (m ∷ r)) s e) (and_parts (not (x == m)) (list_all (λ b. not (b == m)) xs) h).0)
same_cut m (x ∷ xs) (y ∷ ys) r s h k e =
    let p = and_parts (not (x == m)) (list_all (λ b. not (b == m)) xs) h in
    let q = and_parts (not (y == m)) (list_all (λ b. not (b == m)) ys) k in
    let i = same_cut m xs ys r s p.1 q.1 (rest_same x y (xs ++ (m ∷ r)) (ys ++ (m ∷ s)) e) in
    let f = first_same x y (xs ++ (m ∷ r)) (ys ++ (m ∷ s)) e in
    record { piece = ap (λ (z : ℕ). z ∷ xs) f ∙ ap (λ (z : List ℕ). y ∷ z) i.piece; rest = i.rest }

-- what stands before the first space, and behind it
pub same_pieces : (xs ys r s : List ℕ) → list_all is_no_space xs ≡ true → list_all is_no_space ys ≡ true → xs ++ (32 ∷ r) ≡ ys ++ (32 ∷ s) → SamePieces xs ys r s
same_pieces xs ys r s h k e = same_cut 32 xs ys r s h k e

-- the byte that tells a form, the second of those that begin with `$`
abbrev pub mark_of : List ℕ → ℕ
mark_of text = cond (nat_eq (slice_index text 0) 36) (slice_index text 1) (slice_index text 0)

pub variable_formed : (w i n : List ℕ) → is_formed (variable w i n) ≡ true → (list_all is_no_space w ≡ true) × (list_all is_no_space i ≡ true) × (list_all is_no_space n ≡ true)
variable_formed w i n h =
    let p = and_parts (is_number w) (is_id i && is_piece n) h in
    let q = and_parts (is_id i) (is_piece n) p.1 in
    let d = and_parts (are_digits 48 10 w) (length w == 1 || not (slice_index w 0 == byte "0")) p.0 in
    (are_digits_no_space 48 10 w (omega arith) d.0, are_digits_no_space 33 94 i (omega arith) q.0, (and_parts (nat_le 1 (length n)) (list_all is_no_space n) q.1).1)

pub change_formed : (d i : List ℕ) → is_formed (change d i) ≡ true → list_all is_no_space d ≡ true
change_formed d i h = are_digits_no_space 48 2 d (omega arith) (and_parts (are_digits 48 2 d) (is_id i) h).0

same_variable : (w i n w' i' n' : List ℕ) → w ≡ w' → i ≡ i' → n ≡ n' → variable w i n ≡ variable w' i' n'
same_variable w i n w' i' n' a b c = ap (λ (z : List ℕ). variable z i n) a ∙ ap (λ (z : List ℕ). variable w' z n) b ∙ ap (λ (z : List ℕ). variable w' i' z) c

same_change : (d i d' i' : List ℕ) → d ≡ d' → i ≡ i' → change d i ≡ change d' i'
same_change d i d' i' a b = ap (λ (z : List ℕ). change z i) a ∙ ap (λ (z : List ℕ). change d' z) b

by_mark : (f g : Form) → form_text f ≡ form_text g → is_formed f ≡ true → is_formed g ≡ true → f ≡ g
by_mark timescale timescale e h k = refl
by_mark scope scope e h k = refl
by_mark upscope upscope e h k = refl
by_mark end_definitions end_definitions e h k = refl
by_mark (variable w i n) (variable w' i' n') e h k =
    let p = variable_formed w i n h in
    let q = variable_formed w' i' n' k in
    let t = ap (λ (z : List ℕ). drop 9 z) e in
    let a = same_pieces w w' _ _ p.0 q.0 t in
    let b = same_pieces i i' _ _ p.1 q.1 a.rest in
    let c = same_pieces n n' _ _ p.2 q.2 b.rest in
    same_variable w i n w' i' n' a.piece b.piece c.piece
by_mark (block n) (block n') e h k = ap (λ (z : List ℕ). block (drop 1 z)) e
by_mark (change d i) (change d' i') e h k =
    let t = ap (λ (z : List ℕ). drop 1 z) e in
    let a = same_pieces d d' i i' (change_formed d i h) (change_formed d' i' k) t in
    same_change d i d' i' a.piece a.rest
by_mark _ _ e h k = absurd (omega (arith, ap mark_of e))

pub one_form : {l : Line} {f g : Form} → IsLine l f → IsLine l g → f ≡ g
one_form {l} {f} {g} h k =
    let e = h.text ∙ sym k.text in
    by_mark f g e h.formed k.formed
