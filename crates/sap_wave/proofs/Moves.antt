-- Numbers that variables have or lack, and the lines that take them from some to others.
use Rattle.sap_lemmas.proofs.Common.{◌≡◌, ℕ, zero, suc, ◌+◌, ◌<◌, ◌≤◌, List, [], ◌∷◌, ◌++◌, true, Option, Some, None, length, map, get_or, set, refl, sym, ap, ◌∙◌, arith, append_assoc, inl, inr, ◌≢◌, ◌==◌, is_some, if◌then◌else◌, list_all, and_parts, cases_Bool, nat_tests, equal_of_test}
use Rattle.sap_wave.specs.Prelude.{Form, set_to, all_set, changes, is_full, numbers_in, nothing}
use Rattle.sap_wave.specs.declared.variable.Variable.{Variable}

-- variable k goes from one number, or none, to another
abbrev pub move : (k : ℕ) → Variable → (before after : Option ℕ) → List Form
move k x None None = []
move k x None (Some n) = set_to k x n ∷ []
move k x (Some m) None = []
move k x (Some m) (Some n) = if m == n then [] else set_to k x n ∷ []

abbrev pub moves : (k : ℕ) → List Variable → (before after : List (Option ℕ)) → List Form
moves k [] before after = []
moves k (x ∷ xs) [] after = []
moves k (x ∷ xs) (m ∷ ms) [] = []
moves k (x ∷ xs) (m ∷ ms) (n ∷ ns) = move k x m n ++ moves (k + 1) xs ms ns

no_move : (k : ℕ) (x : Variable) (o : Option ℕ) → move k x o o ≡ []
no_move k x None = refl
no_move k x (Some n) = let same : (n == n) ≡ true = grind (arith, nat_tests) in rw same refl

move_to : (k : ℕ) (x : Variable) (o : Option ℕ) (v : ℕ) → o ≢ Some v → move k x o (Some v) ≡ set_to k x v ∷ []
move_to k x None v h = refl
move_to k x (Some m) v h =
    elim (cases_Bool (m == v)) [
      | inl t ↦ absurd (h (ap Some (equal_of_test m v t)))
      | inr f ↦ rw f refl
    ]

pub no_moves : (k : ℕ) (xs : List Variable) (ms ns : List (Option ℕ)) → ((j : ℕ) → get_or ns j None ≡ get_or ms j None) → moves k xs ms ns ≡ []
no_moves k [] ms ns h = refl
no_moves k (x ∷ xs) [] ns h = refl
no_moves k (x ∷ xs) (m ∷ ms) [] h = refl
no_moves k (x ∷ xs) (m ∷ ms) (n ∷ ns) h =
    ap (λ (z : Option ℕ). move k x m z ++ moves (k + 1) xs ms ns) (h 0)
    ∙ ap (λ (z : List Form). z ++ moves (k + 1) xs ms ns) (no_move k x m)
    ∙ no_moves (k + 1) xs ms ns (λ j. h (suc j))

-- the variable of a place moves, and none behind it did
pub one_move : (k : ℕ) (xs : List Variable) (ms ns : List (Option ℕ)) (p v : ℕ) → p < length xs → length ms ≡ length xs → length ns ≡ length xs
    → ((j : ℕ) → p ≤ j → get_or ns j None ≡ get_or ms j None) → get_or ms p None ≢ Some v
    → moves k xs ms (set ns p (Some v)) ≡ moves k xs ms ns ++ (set_to (k + p) (get_or xs p nothing) v ∷ [])
one_move k [] ms ns p v l a b h d = absurd (omega (arith, l))
one_move k (x ∷ xs) [] ns p v l a b h d = absurd (omega (arith, a))
one_move k (x ∷ xs) (m ∷ ms) [] p v l a b h d = absurd (omega (arith, b))
one_move k (x ∷ xs) (m ∷ ms) (n ∷ ns) zero v l a b h d =
    let rest : moves (k + 1) xs ms ns ≡ [] = no_moves (k + 1) xs ms ns (λ j. h (suc j) (omega arith)) in
    let none : move k x m n ++ moves (k + 1) xs ms ns ≡ [] =
    ap (λ (z : Option ℕ). move k x m z ++ moves (k + 1) xs ms ns) (h 0 (omega arith)) ∙ ap (λ (z : List Form). z ++ moves (k + 1) xs ms ns) (no_move k x m) ∙ rest in
    let place : k + 0 ≡ k = omega arith in
    ap (λ (z : List Form). z ++ moves (k + 1) xs ms ns) (move_to k x m v d)
    ∙ ap (λ (z : List Form). set_to k x v ∷ z) rest
    ∙ sym (ap (λ (z : List Form). z ++ (set_to (k + 0) x v ∷ [])) none ∙ ap (λ (j : ℕ). set_to j x v ∷ []) place)
one_move k (x ∷ xs) (m ∷ ms) (n ∷ ns) (suc p) v l a b h d =
    let place : (k + 1) + p ≡ k + suc p = omega arith in
    let more = one_move (k + 1) xs ms ns p v (omega (arith, l)) (omega (arith, a)) (omega (arith, b)) (λ j q. h (suc j) (omega (arith, q))) d in
    ap (λ (z : List Form). move k x m n ++ z) more
    ∙ sym (append_assoc (move k x m n) (moves (k + 1) xs ms ns) (set_to ((k + 1) + p) (get_or xs p nothing) v ∷ []))
    ∙ ap (λ (j : ℕ). (move k x m n ++ moves (k + 1) xs ms ns) ++ (set_to j (get_or xs p nothing) v ∷ [])) place

-- Where no number is lacking.

pub from_none : (k : ℕ) (xs : List Variable) (ns : List ℕ) → moves k xs (map (λ x. None) xs) (map Some ns) ≡ all_set k xs ns
from_none k [] ns = refl
from_none k (x ∷ xs) [] = refl
from_none k (x ∷ xs) (n ∷ ns) = ap (λ (z : List Form). set_to k x n ∷ z) (from_none (k + 1) xs ns)

pub from_some : (k : ℕ) (xs : List Variable) (ms ns : List ℕ) → moves k xs (map Some ms) (map Some ns) ≡ changes k xs ms ns
from_some k [] ms ns = refl
from_some k (x ∷ xs) [] ns = refl
from_some k (x ∷ xs) (m ∷ ms) [] = refl
from_some k (x ∷ xs) (m ∷ ms) (n ∷ ns) =
    let more = from_some (k + 1) xs ms ns in
    elim (cases_Bool (m == n)) [
      | inl t ↦ rw t more
      | inr f ↦ rw f (ap (λ (z : List Form). set_to k x n ∷ z) more)
    ]

pub all_there : (ns : List ℕ) → is_full (map Some ns) ≡ true
all_there [] = refl
all_there (n ∷ ns) = all_there ns

pub all_numbers : (ns : List ℕ) → numbers_in (map Some ns) ≡ ns
all_numbers [] = refl
all_numbers (n ∷ ns) = ap (λ (z : List ℕ). n ∷ z) (all_numbers ns)

pub none_lacks : (now : List (Option ℕ)) → is_full now ≡ true → now ≡ map Some (numbers_in now)
none_lacks [] h = refl
none_lacks (None ∷ now) h = absurd (cc)
none_lacks (Some n ∷ now) h = ap (λ (z : List (Option ℕ)). Some n ∷ z) (none_lacks now (and_parts (is_some (Some n)) (list_all is_some now) h).1)

pub none_there : (xs : List Variable) (j : ℕ) → get_or (map (λ x. let o : Option ℕ = None in o) xs) j None ≡ None
none_there [] j = refl
none_there (x ∷ xs) zero = refl
none_there (x ∷ xs) (suc j) = none_there xs j
