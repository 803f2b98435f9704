-- Lists that grow, item by item, while others are gone through.
use Rattle.sap_lemmas.proofs.Common.{◌≡◌, ◌<◌, ℕ, ◌+◌, suc, Bool, List, [], ◌∷◌, ◌++◌, length, drop, get_or, filter, ap, ap₂, sym, ◌∙◌, arith, drop-cons, append_assoc, filter-append}

tail_of : {X : Type 0} (xs : List X) (k : ℕ) (x : X) → k < length xs → x ≡ get_or xs k x → drop k xs ≡ x ∷ drop (k + 1) xs
tail_of xs k x l e =
    let s : suc k ≡ k + 1 = omega arith in
    drop-cons xs k x l ∙ ap₂ (λ y ys. y ∷ ys) (sym e) (ap (λ j. drop j xs) s)

-- one item more, of which the list that grows has g
pub grown : {X Y : Type 0} (h : List X → List Y) (g : X → List Y) → ((x : X) (xs : List X) → h (x ∷ xs) ≡ g x ++ h xs)
    → (xs : List X) (k : ℕ) (x : X) → k < length xs → x ≡ get_or xs k x → (old new : List Y) → new ≡ old ++ g x
    → new ++ h (drop (k + 1) xs) ≡ old ++ h (drop k xs)
grown h g each xs k x l e old new more =
    let rest = h (drop (k + 1) xs) in
    ap (λ ys. ys ++ rest) more
    ∙ append_assoc old (g x) rest
    ∙ ap (λ ys. old ++ ys) (sym (each x (drop (k + 1) xs)) ∙ ap h (sym (tail_of xs k x l e)))

-- a test of one item, and of the others
pub filter_one : {Y : Type 0} (test : Y → Bool) (y : Y) (ys : List Y) → filter test (y ∷ ys) ≡ filter test (y ∷ []) ++ filter test ys
filter_one test y ys = filter-append test (y ∷ []) ys
