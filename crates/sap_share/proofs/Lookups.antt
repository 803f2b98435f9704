-- What stands at the place of a name.
use Rattle.sap_lemmas.proofs.Common.{◌≡◌, ℕ, zero, suc, ◌<◌, List, [], ◌∷◌, ◌++◌, Option, Some, None, true, false, is_some, map, length, get_or, sym, ap, subst, refl, inl, inr, arith, slice_set, if◌then◌else◌, bytes_eq, cases_Bool, keys_of, option_map, bytes_eq_apart_back, equal_of_bytes_eq}
use Rattle.sap_net.proofs.Places.{none_further}
use Rattle.sap_maps.specs.Prelude.{Name, find}
use Rattle.sap_net.specs.NameMaps.{Puts, place_in}
use Rattle.sap_share.specs.Tables.{replaced}

pub named_push : {X : Type 0} (es : List (Name × X)) (e : Name × X) → keys_of (es ++ e ∷ []) ≡ keys_of es ++ e.0 ∷ []
named_push [] e = refl
named_push (f ∷ es) e = ap (λ ns. f.0 ∷ ns) (named_push es e)

before : (o : Option ℕ) (k : ℕ) → option_map suc o ≡ Some k → (j : ℕ) × (o ≡ Some j) × (k ≡ suc j)
before None k h = absurd (cc)
before (Some j) k h = let e : suc j ≡ k = cc in (j, refl, sym e)

pub entry_found : {X : Type 0} (es : List (Name × X)) (n : Name) (k : ℕ) → place_in (keys_of es) n ≡ Some k → (k < length es)
    × ((d : Name × X) → find es n ≡ Some (get_or es k d).1)
entry_found [] n k h = absurd (cc)
entry_found (e ∷ es) n k h =
    elim (cases_Bool (bytes_eq e.0 n)) [
      | inl t ↦
          let g : Some zero ≡ Some k = rw t at h in
          let z : zero ≡ k = cc in
          subst (λ (j : ℕ). (j < length (e ∷ es)) × ((d : Name × _) → find (e ∷ es) n ≡ Some (get_or (e ∷ es) j d).1)) z (omega arith, λ d. rw t refl)
      | inr f ↦
          let b = before (place_in (keys_of es) n) k (rw f at h) in
          let r = entry_found es n b.0 b.1 in
          rw b.2 (omega (arith, r.0), λ d. rw f (r.1 d))
    ]

pub entry_missing : {X : Type 0} (es : List (Name × X)) (n : Name) → place_in (keys_of es) n ≡ None → find es n ≡ None
entry_missing [] n h = refl
entry_missing (e ∷ es) n h =
    elim (cases_Bool (bytes_eq e.0 n)) [
      | inl t ↦ absurd (let g : Some zero ≡ None = rw t at h in cc)
      | inr f ↦ rw f (entry_missing es n (none_further (place_in (keys_of es) n) (rw f at h)))
    ]

pub item_found : {X Y : Type 0} (name : Y → Name) (of : Y → X) (ys : List Y) (n : Name) (k : ℕ) → place_in (map name ys) n ≡ Some k
    → (k < length ys) × ((d : Y) → find (map (λ y. (name y, of y)) ys) n ≡ Some (of (get_or ys k d)))
item_found name of [] n k h = absurd (cc)
item_found {X} {Y} name of (y ∷ ys) n k h =
    elim (cases_Bool (bytes_eq (name y) n)) [
      | inl t ↦
          let g : Some zero ≡ Some k = rw t at h in
          let z : zero ≡ k = cc in
          subst (λ (j : ℕ). (j < length (y ∷ ys)) × ((d : Y) → find (map (λ y. (name y, of y)) (y ∷ ys)) n ≡ Some (of (get_or (y ∷ ys) j d)))) z (omega arith, λ d. rw t refl)
      | inr f ↦
          let b = before (place_in (map name ys) n) k (rw f at h) in
          let r = item_found name of ys n b.0 b.1 in
          rw b.2 (omega (arith, r.0), λ d. rw f (r.1 d))
    ]

pub item_missing : {X Y : Type 0} (name : Y → Name) (of : Y → X) (ys : List Y) (n : Name) → place_in (map name ys) n ≡ None → find (map (λ y. (name y, of y)) ys) n ≡ None
item_missing name of [] n h = refl
item_missing name of (y ∷ ys) n h =
    elim (cases_Bool (bytes_eq (name y) n)) [
      | inl t ↦ absurd (let g : Some zero ≡ None = rw t at h in cc)
      | inr f ↦ rw f (item_missing name of ys n (none_further (place_in (map name ys) n) (rw f at h)))
    ]

-- another part at a place

pub names_replaced : {X : Type 0} (es : List (Name × X)) (n : Name) (x : X) → keys_of (replaced es n x) ≡ keys_of es
names_replaced [] n x = refl
names_replaced (e ∷ es) n x =
    elim (cases_Bool (bytes_eq e.0 n)) [ inl t ↦ rw t refl | inr f ↦ rw f (ap (λ ns. e.0 ∷ ns) (names_replaced es n x)) ]

pub names_set : {X : Type 0} (es : List (Name × X)) (k : ℕ) (x : X) (d : Name × X) → keys_of (slice_set es k ((get_or es k d).0, x)) ≡ keys_of es
names_set [] k x d = refl
names_set (e ∷ es) zero x d = refl
names_set (e ∷ es) (suc k) x d = ap (λ ns. e.0 ∷ ns) (names_set es k x d)

pub set_replaced : {X : Type 0} (es : List (Name × X)) (n : Name) (k : ℕ) (x : X) (d : Name × X) → place_in (keys_of es) n ≡ Some k
    → slice_set es k ((get_or es k d).0, x) ≡ replaced es n x
set_replaced [] n k x d h = absurd (cc)
set_replaced {X} (e ∷ es) n k x d h =
    elim (cases_Bool (bytes_eq e.0 n)) [
      | inl t ↦
          let g : Some zero ≡ Some k = rw t at h in
          let z : zero ≡ k = cc in
          subst (λ (j : ℕ). slice_set (e ∷ es) j ((get_or (e ∷ es) j d).0, x) ≡ replaced (e ∷ es) n x) z (rw t refl)
      | inr f ↦
          let b = before (place_in (keys_of es) n) k (rw f at h) in
          rw (b.2, f) (ap (λ fs. e ∷ fs) (set_replaced es n b.0 x d b.1))
    ]

pub missing_replaced : {X : Type 0} (es : List (Name × X)) (n : Name) (x : X) → place_in (keys_of es) n ≡ None → replaced es n x ≡ es
missing_replaced [] n x h = refl
missing_replaced (e ∷ es) n x h =
    elim (cases_Bool (bytes_eq e.0 n)) [
      | inl t ↦ absurd (let g : Some zero ≡ None = rw t at h in cc)
      | inr f ↦ rw f (ap (λ fs. e ∷ fs) (missing_replaced es n x (none_further (place_in (keys_of es) n) (rw f at h))))
    ]

pub names_long : {X : Type 0} (es : List (Name × X)) → length (keys_of es) ≡ length es
names_long [] = refl
names_long (e ∷ es) = ap suc (names_long es)

pub entry_there : {X : Type 0} (es : List (Name × X)) (n : Name) (k : ℕ) → place_in (keys_of es) n ≡ Some k → is_some (find es n) ≡ true
entry_there [] n k h = absurd (cc)
entry_there (e ∷ es) n k h =
    elim (cases_Bool (bytes_eq e.0 n)) [
      | inl t ↦ rw t refl
      | inr f ↦ let b = before (place_in (keys_of es) n) k (rw f at h) in rw f (entry_there es n b.0 b.1)
    ]

-- what is found, as a name has another value

replaced_first : {X : Type 0} (e : Name × X) (es : List (Name × X)) (n m : Name) (x : X) → e.0 ≡ n → bytes_eq e.0 n ≡ true
    → find (replaced (e ∷ es) n x) m ≡ (if bytes_eq n m then Some x else find (e ∷ es) m)
replaced_first {X} e es n m x q t =
    elim (cases_Bool (bytes_eq e.0 m)) [
      | inl s ↦ rw (t, s, subst (λ (a : Name). bytes_eq a m ≡ true) q s) refl
      | inr f ↦ rw (t, f, subst (λ (a : Name). bytes_eq a m ≡ false) q f) refl
    ]

pub puts_replaced : {X : Type 0} (es : List (Name × X)) (n : Name) (x : X) → is_some (find es n) ≡ true → Puts (find es) n x (find (replaced es n x))
puts_replaced [] n x h m = absurd (cc)
puts_replaced {X} (e ∷ es) n x h m =
    elim (cases_Bool (bytes_eq e.0 n)) [
      | inl t ↦ replaced_first e es n m x (equal_of_bytes_eq e.0 n t) t
      | inr f ↦
          elim (cases_Bool (bytes_eq e.0 m)) [
            | inl s ↦ rw (f, s, bytes_eq_apart_back m n (subst (λ (a : Name). bytes_eq a n ≡ false) (equal_of_bytes_eq e.0 m s) f)) refl
            | inr g ↦ rw (f, g) (puts_replaced es n x (rw f at h) m)
          ]
    ]

pub puts_behind : {X : Type 0} (es : List (Name × X)) (n : Name) (x : X) → is_some (find es n) ≡ false → Puts (find es) n x (find (es ++ (n, x) ∷ []))
puts_behind [] n x h m = refl
puts_behind {X} (e ∷ es) n x h m =
    elim (cases_Bool (bytes_eq e.0 n)) [
      | inl t ↦ absurd (let g : true ≡ false = rw t at h in cc)
      | inr f ↦
          elim (cases_Bool (bytes_eq e.0 m)) [
            | inl s ↦ rw (s, bytes_eq_apart_back m n (subst (λ (a : Name). bytes_eq a n ≡ false) (equal_of_bytes_eq e.0 m s) f)) refl
            | inr g ↦ rw g (puts_behind es n x (rw f at h) m)
          ]
    ]
