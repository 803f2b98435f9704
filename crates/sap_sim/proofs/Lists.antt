-- Lists, an element at a time.
use Rattle.sap_lemmas.proofs.Common.{◌≡◌, ℕ, ◌+◌, ◌<◌, List, [], ◌∷◌, ◌++◌, Bool, true, false, length, get_or, take, set, map, sym, ap, ap₂, ◌∙◌, refl, filter, take_more, take_more_set, map-append}

-- one element more
pub taken : {X : Type 0} (xs : List X) (k : ℕ) (x : X) → k < length xs → x ≡ get_or xs k x → take (k + 1) xs ≡ take k xs ++ x ∷ []
taken {X} xs k x h e = take_more xs k x h ∙ ap (λ (y : X). take k xs ++ y ∷ []) (sym e)

pub mapped_more : {X Y : Type 0} (f : X → Y) (xs : List X) (k : ℕ) (x : X) → k < length xs → x ≡ get_or xs k x → map f (take (k + 1) xs) ≡ map f (take k xs) ++ f x ∷ []
mapped_more {X} {Y} f xs k x h e = ap (map f) (taken xs k x h e) ∙ map-append f (take k xs) (x ∷ [])

pub passed : {X : Type 0} (p : X → Bool) (x : X) → p x ≡ true → filter p (x ∷ []) ≡ x ∷ []
passed {X} p x h = rw h refl

pub dropped : {X : Type 0} (p : X → Bool) (x : X) → p x ≡ false → filter p (x ∷ []) ≡ []
dropped {X} p x h = rw h refl

-- one element more is written over a list
pub written_more : {X Y : Type 0} (f : X → Y) (xs : List X) (ys : List Y) (k : ℕ) (d : X) (y : Y) → k < length xs → k < length ys
    → y ≡ f (get_or xs k d) → take k ys ≡ map f (take k xs)
    → take (k + 1) (set ys k y) ≡ map f (take (k + 1) xs)
written_more {X} {Y} f xs ys k d y h i e before =
    take_more_set ys k y i ∙ ap₂ (λ (zs : List Y) (z : Y). zs ++ z ∷ []) before e ∙ sym (map-append f (take k xs) (get_or xs k d ∷ [])) ∙ ap (map f) (sym (take_more xs k d h))
