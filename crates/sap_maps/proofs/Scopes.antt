-- Names that are found among declared ones, and names that are new to them.
use Rattle.sap_lemmas.proofs.Common.{◌≡◌, ℕ, List, [], ◌∷◌, ◌++◌, Some, None, false, sym, subst, ⊎_elim, refl, bytes_eq, bytes_eq-Decides, cases_Bool, bytes_eq_apart_back, bytes_eq_same, equal_of_bytes_eq}
use Rattle.sap_maps.specs.Maps.{Name, Valuation, set_value}
use Rattle.sap_maps.specs.Scope.{Scope, find, Agree}

-- what was declared last is found
pub found_here : {X : Type 0} (m : Name) (x : X) (es : List (Name × X)) → find ((m, x) ∷ es) m ≡ Some x
found_here m x es = rw (bytes_eq_same m) refl

-- a name that is found is no new one
pub apart : {X : Type 0} (es : List (Name × X)) (m n : Name) (x : X) → find es m ≡ None → find es n ≡ Some x → bytes_eq m n ≡ false
apart {X} es m n x fresh has =
    ⊎_elim
    (λ t. absurd (let f : find es n ≡ None = subst (λ (y : Name). find es y ≡ None) (equal_of_bytes_eq m n t) fresh in cc))
    (λ f. f)
    (cases_Bool (bytes_eq m n))

-- a name that is found stays so behind a new one
pub found_behind : {X : Type 0} (es : List (Name × X)) (m : Name) (y : X) → find es m ≡ None → (n : Name) (x : X) → find es n ≡ Some x → find ((m, y) ∷ es) n ≡ Some x
found_behind {X} es m y fresh n x h = rw (apart es m n x fresh h) h

-- a new name differs from each that is there
pub not_first : {X : Type 0} (e : Name × X) (es : List (Name × X)) (m : Name) → find (e ∷ es) m ≡ None → bytes_eq m e.0 ≡ false
not_first {X} e es m h =
    ⊎_elim
    (λ t. absurd (let q : e.0 ≡ m = sym (equal_of_bytes_eq m e.0 t) in let g : Some e.1 ≡ None = rw ((bytes_eq-Decides e.0 m).1 q) at h in cc))
    (λ f. f)
    (cases_Bool (bytes_eq m e.0))

pub not_behind : {X : Type 0} (e : Name × X) (es : List (Name × X)) (m : Name) → find (e ∷ es) m ≡ None → find es m ≡ None
not_behind {X} e es m h =
    ⊎_elim
    (λ t. let g : Some e.1 ≡ None = rw t at h in absurd (cc))
    (λ f. rw f at h)
    (cases_Bool (bytes_eq e.0 m))

-- one more name at which they agree
pub agree_more : (sc : Scope) (v w : Valuation) (m : Name) (k : ℕ) → Agree sc v w → v.value m ≡ w.value m → Agree ((m, k) ∷ sc) v w
agree_more sc v w m k a e n u h =
    ⊎_elim
    (λ t. subst (λ (x : Name). v.value x ≡ w.value x) (equal_of_bytes_eq m n t) e)
    (λ f. a n u (rw f at h))
    (cases_Bool (bytes_eq m n))

-- one name less
pub agree_less : (e : Name × ℕ) (sc : Scope) (v w : Valuation) → Agree (e ∷ sc) v w → Agree sc v w
agree_less e sc v w a m k g =
    ⊎_elim (λ t. a m e.1 (rw t)) (λ f. a m k (rw f g)) (cases_Bool (bytes_eq e.0 m))

pub agree_both : (sc sd : Scope) (v w : Valuation) → Agree sc v w → Agree sd v w → Agree (sc ++ sd) v w
agree_both [] sd v w a b n u h = b n u h
agree_both (e ∷ sc) sd v w a b n u h =
    ⊎_elim
    (λ t. a n e.1 (rw t))
    (λ f. agree_both sc sd v w (agree_less e sc v w a) b n u (rw f at h))
    (cases_Bool (bytes_eq e.0 n))

-- another number at a new name leaves the others alone
pub set_value_agrees : (sc : Scope) (v : Valuation) (m : Name) (x : ℕ) → find sc m ≡ None → Agree sc v (set_value v m x)
set_value_agrees sc v m x fresh n u h = rw (bytes_eq_apart_back m n (apart sc m n u fresh h))

pub set_value_here : (v : Valuation) (m : Name) (x : ℕ) → (set_value v m x).value m ≡ x
set_value_here v m x = rw (bytes_eq_same m) refl
