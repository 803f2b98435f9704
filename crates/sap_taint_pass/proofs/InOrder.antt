-- Registers in the order of names.
use Rattle.sap_lemmas.proofs.Common.{◌≡◌, Bool, List, [], ◌∷◌, map, filter, Option, Some, None, true, false, ◌||◌, ap, ap₂, sym, ◌∙◌, ◌⊎◌, subst, refl, inl, inr, bytes_eq, option_map, AllByRecursion, cases_Bool, neither_left, neither_right, bytes_eq_same, equal_of_bytes_eq, bytes_eq_apart_back}
use Rattle.sap_maps.specs.Prelude.{Name, find}
use Rattle.sap_net.specs.Names.{is_among, AreDistinct}
use Rattle.sap_net.specs.declared.parts.Register.{Register}
use Rattle.sap_net.proofs.NamesLemmas.{found_of, found_among}
use Rattle.sap_taint_pass.specs.Tainted.{found_first, in_order}

-- registers under their names, and what they have there
abbrev pub by_name : List Register → List (Name × Register)
by_name rs = map (λ r. (r.name, r)) rs

abbrev pub named_with : {X : Type 0} → (Register → X) → List Register → List (Name × X)
named_with of rs = map (λ r. (r.name, of r)) rs

abbrev pub names_in : List Register → List Name
names_in rs = map (λ r. r.name) rs

-- what is found has that name
pub name_found : (rs : List Register) (x : Name) (r : Register) → find (by_name rs) x ≡ Some r → r.name ≡ x
name_found [] x r h = absurd (cc)
name_found (s ∷ rs) x r h =
    elim (cases_Bool (bytes_eq s.name x)) [
      | inl t ↦ (let e : Some s ≡ Some r = rw t at h in let g : s ≡ r = cc in sym (ap (λ (q : Register). q.name) g) ∙ equal_of_bytes_eq s.name x t)
      | inr f ↦ name_found rs x r (rw f at h)
    ]

pub found_with : {X : Type 0} (of : Register → X) (rs : List Register) (x : Name) → find (named_with of rs) x ≡ option_map of (find (by_name rs) x)
found_with of [] x = refl
found_with of (r ∷ rs) x =
    elim (cases_Bool (bytes_eq r.name x)) [
      | inl t ↦ rw t refl
      | inr f ↦ rw f (found_with of rs x)
    ]

pub cases_found : {A : Type 0} (o : Option A) → (o ≡ None) ⊎ ((a : A) × (o ≡ Some a))
cases_found None = inl refl
cases_found (Some a) = inr (a, refl)

only_first : (a b : Bool) → (a || b) ≡ true → b ≡ false → a ≡ true
only_first true b h e = refl
only_first false b h e = absurd (cc)

none_among : (rs : List Register) (x : Name) → find (by_name rs) x ≡ None → is_among x (names_in rs) ≡ false
none_among rs x h =
    elim (cases_Bool (is_among x (names_in rs))) [
      | inl t ↦ (let g = found_of (λ r. r.name) (λ r. r) rs x t in let e = g.1 in absurd (cc))
      | inr f ↦ f
    ]

of_found : (P : Register → Type 0) (rs : List Register) (x : Name) (r : Register) → find (by_name rs) x ≡ Some r → AllByRecursion P rs → P r
of_found P [] x r h a = absurd (cc)
of_found P (s ∷ rs) x r h a =
    elim (cases_Bool (bytes_eq s.name x)) [
      | inl t ↦ (let e : Some s ≡ Some r = rw t at h in let g : s ≡ r = cc in subst P g a.0)
      | inr f ↦ of_found P rs x r (rw f at h) a.1
    ]

all_behind : (P : Register → Type 0) (o : Option Register) (rs : List Register) → AllByRecursion P (found_first o rs) → AllByRecursion P rs
all_behind P None rs a = a
all_behind P (Some r) rs a = a.1

-- each is found under its name
abbrev EachFound : List Register → List Register → Type 0
EachFound rs ss = AllByRecursion (λ r. find (by_name rs) r.name ≡ Some r) ss

found_later : (s : Register) (rs ss : List Register) → is_among s.name (names_in ss) ≡ false → EachFound rs ss → EachFound (s ∷ rs) ss
found_later s rs [] d a = tt
found_later s rs (r ∷ ss) d a =
    let f : bytes_eq s.name r.name ≡ false = neither_left (bytes_eq s.name r.name) _ d in
    (rw f a.0, found_later s rs ss (neither_right (bytes_eq s.name r.name) _ d) a.1)

found_each : (rs : List Register) → AreDistinct (names_in rs) → EachFound rs rs
found_each [] d = tt
found_each (r ∷ rs) d = (rw (bytes_eq_same r.name) refl, found_later r rs rs d.0 (found_each rs d.1))

each_found : (P : Register → Type 0) (xs : List Name) (rs : List Register) → ((x : Name) (r : Register) → is_among x xs ≡ true → find (by_name rs) x ≡ Some r → P r)
    → (ss : List Register) → AllByRecursion (λ x. is_among x xs ≡ true) (names_in ss) → EachFound rs ss → AllByRecursion P ss
each_found P xs rs f [] m a = tt
each_found P xs rs f (s ∷ ss) m a = (f s.name s m.0 a.0, each_found P xs rs f ss m.1 a.1)

-- whoever is not among the names isn't found
pub not_ordered : {X : Type 0} (of : Register → X) (xs : List Name) (rs : List Register) (y : Name) → is_among y xs ≡ false → find (named_with of (in_order xs rs)) y ≡ None
not_ordered of [] rs y h = refl
not_ordered of (x ∷ xs) rs y h =
    elim (cases_Bool (bytes_eq y x)) [
      | inl t ↦ (let e : true ≡ false = rw t at h in absurd (cc))
      | inr f ↦ (
          let g : is_among y xs ≡ false = rw f at h in
          let ih = not_ordered of xs rs y g in
          elim (cases_found (find (by_name rs) x)) [
            | inl none ↦ rw none ih
            | inr r ↦ (
                let e = name_found rs x r.0 r.1 in
                let d : bytes_eq r.0.name y ≡ false = subst (λ (n : Name). bytes_eq n y ≡ false) (sym e) (bytes_eq_apart_back y x f) in
                rw r.1 (rw d ih))
          ])
    ]

-- all others are found as they were
pub still_found : {X : Type 0} (of : Register → X) (xs : List Name) (rs : List Register) (y : Name) → is_among y xs ≡ true
    → find (named_with of (in_order xs rs)) y ≡ find (named_with of rs) y
still_found of [] rs y h = absurd (cc)
still_found {X} of (x ∷ xs) rs y h =
    elim (cases_found (find (by_name rs) x)) [
      | inl none ↦ (
          let gone : find (named_with of rs) x ≡ None = found_with of rs x ∙ ap (option_map of) none in
          rw none
          (elim (cases_Bool (is_among y xs)) [
            | inl t ↦ still_found of xs rs y t
            | inr f ↦ (
                let e : bytes_eq y x ≡ true = only_first (bytes_eq y x) (is_among y xs) h f in
                let g : find (named_with of rs) y ≡ None = subst (λ (n : Name). find (named_with of rs) n ≡ None) (sym (equal_of_bytes_eq y x e)) gone in
                not_ordered of xs rs y f ∙ sym g)
          ]))
      | inr r ↦ (
          let e = name_found rs x r.0 r.1 in
          rw r.1
          (elim (cases_Bool (bytes_eq y x)) [
            | inl t ↦ (
                let same : r.0.name ≡ y = e ∙ sym (equal_of_bytes_eq y x t) in
                let here : bytes_eq r.0.name y ≡ true = subst (λ (n : Name). bytes_eq r.0.name n ≡ true) same (bytes_eq_same r.0.name) in
                let there : find (named_with of rs) y ≡ Some (of r.0) =
                subst (λ (n : Name). find (named_with of rs) n ≡ Some (of r.0)) (sym (equal_of_bytes_eq y x t)) (found_with of rs x ∙ ap (option_map of) r.1) in
                rw here (sym there))
            | inr f ↦ (
                let d : bytes_eq r.0.name y ≡ false = subst (λ (n : Name). bytes_eq n y ≡ false) (sym e) (bytes_eq_apart_back y x f) in
                let g : is_among y xs ≡ true = rw f at h in
                rw d (still_found of xs rs y g))
          ]))
    ]

-- in their order they have the names that they have
pub ordered_names : (xs : List Name) (rs : List Register) → names_in (in_order xs rs) ≡ filter (λ x. is_among x (names_in rs)) xs
ordered_names [] rs = refl
ordered_names (x ∷ xs) rs =
    elim (cases_found (find (by_name rs) x)) [
      | inl none ↦ rw (none, none_among rs x none) (ordered_names xs rs)
      | inr r ↦ rw (r.1, found_among (λ r. r.name) (λ r. r) rs x r.0 r.1) (ap₂ (λ n ns. n ∷ ns) (name_found rs x r.0 r.1) (ordered_names xs rs))
    ]

pub all_ordered : (P : Register → Type 0) (xs : List Name) (rs : List Register) → AllByRecursion P rs → AllByRecursion P (in_order xs rs)
all_ordered P [] rs a = tt
all_ordered P (x ∷ xs) rs a =
    elim (cases_found (find (by_name rs) x)) [
      | inl none ↦ rw none (all_ordered P xs rs a)
      | inr r ↦ rw r.1 (of_found P rs x r.0 r.1 a, all_ordered P xs rs a)
    ]

at_ordered : (P : Register → Type 0) (xs : List Name) (rs : List Register) → AllByRecursion P (in_order xs rs) → (x : Name) (r : Register)
    → is_among x xs ≡ true → find (by_name rs) x ≡ Some r → P r
at_ordered P [] rs a x r m h = absurd (cc)
at_ordered P (y ∷ xs) rs a x r m h =
    elim (cases_Bool (bytes_eq x y)) [
      | inl t ↦ (
          let g : find (by_name rs) y ≡ Some r = subst (λ (n : Name). find (by_name rs) n ≡ Some r) (equal_of_bytes_eq x y t) h in
          let b : AllByRecursion P (found_first (Some r) (in_order xs rs)) = subst (λ o. AllByRecursion P (found_first o (in_order xs rs))) g a in
          b.0)
      | inr f ↦ (
          let g : is_among x xs ≡ true = rw f at m in
          let b : AllByRecursion P (in_order xs rs) = all_behind P (find (by_name rs) y) (in_order xs rs) a in
          at_ordered P xs rs b x r g h)
    ]

-- What holds of all in their order holds of all, where all have names of their own.
pub all_unordered : (P : Register → Type 0) (xs : List Name) (rs : List Register) → AreDistinct (names_in rs) → AllByRecursion (λ x. is_among x xs ≡ true) (names_in rs)
    → AllByRecursion P (in_order xs rs) → AllByRecursion P rs
all_unordered P xs rs d m a = each_found P xs rs (at_ordered P xs rs a) rs m (found_each rs d)
