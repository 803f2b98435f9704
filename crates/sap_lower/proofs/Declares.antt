-- The names of the netlist of a program.
use Rattle.sap_lemmas.proofs.Common.{◌≡◌, ◌&&◌, List, [], ◌∷◌, ◌++◌, map, filter, Option, Some, None, Bool, true, false, not, sym, ap, ap₂, ◌∙◌, subst, refl, inl, inr, if◌then◌else◌, bytes_eq, AllByRecursion, cases_Bool, and_false, bytes_eq_apart_back, bytes_eq_same, equal_of_bytes_eq}
use Rattle.sap_maps.specs.Prelude.{Name, find}
use Rattle.sap_net.specs.Names.{is_among, AreDistinct}
use Rattle.sap_ir.specs.IsGuarded.{variable_names}
use Rattle.sap_ir.specs.declared.guarded.Var.{Var}
use Rattle.sap_lower.specs.Lowered.{in_front, picked, unlisted, unported}

-- what is found under a name bears it, and is found exactly where there is one
abbrev OptionNames : Option Var → Name → Bool → Type 0
OptionNames None p b = b ≡ false
OptionNames (Some r) p b = (r.name ≡ p) × (b ≡ true)

front_names : (o : Option Var) (p : Name) (b : Bool) → OptionNames o p b → (rest : List Var) (ns : List Name) → ns ≡ variable_names rest
    → (if b then p ∷ ns else ns) ≡ variable_names (in_front o rest)
front_names None p b h rest ns e = rw h e
front_names (Some r) p b h rest ns e = rw h.1 (ap₂ (λ (x : Name) (xs : List Name). x ∷ xs) (sym h.0) e)

-- filters of names

pub unported_among : (ps xs : List Name) (n : Name) → is_among n (unported ps xs) ≡ (is_among n xs && not (is_among n ps))
unported_among ps [] n = refl
unported_among ps (x ∷ xs) n =
    elim (cases_Bool (bytes_eq n x)) [
      | inl t ↦
          let e : n ≡ x = equal_of_bytes_eq n x t in
          elim (cases_Bool (is_among n ps)) [
            | inl a ↦
                let a' : is_among x ps ≡ true = subst (λ (y : Name). is_among y ps ≡ true) e a in
                let r : is_among n (unported ps xs) ≡ (is_among n xs && not (is_among n ps)) = unported_among ps xs n in
                rw (a', t, a) (r ∙ rw a (and_false (is_among n xs)))
            | inr b ↦
                let b' : is_among x ps ≡ false = subst (λ (y : Name). is_among y ps ≡ false) e b in
                rw (b', t, b) refl
          ]
      | inr f ↦
          elim (cases_Bool (is_among x ps)) [
            | inl a ↦ rw (a, f) (unported_among ps xs n)
            | inr b ↦ rw (b, f) (unported_among ps xs n)
          ]
    ]

pub filter_append : (f : Name → Bool) (xs ys : List Name) → filter f (xs ++ ys) ≡ filter f xs ++ filter f ys
filter_append f [] ys = refl
filter_append f (x ∷ xs) ys =
    elim (cases_Bool (f x)) [
      | inl t ↦ rw t (ap (λ (zs : List Name). x ∷ zs) (filter_append f xs ys))
      | inr e ↦ rw e (filter_append f xs ys)
    ]

pub filter_none : (f : Name → Bool) (xs : List Name) → AllByRecursion (λ x. f x ≡ false) xs → filter f xs ≡ []
filter_none f [] h = refl
filter_none f (x ∷ xs) h = rw h.0 (filter_none f xs h.1)

pub filter_all : (f : Name → Bool) (xs : List Name) → AllByRecursion (λ x. f x ≡ true) xs → filter f xs ≡ xs
filter_all f [] h = refl
filter_all f (x ∷ xs) h = rw h.0 (ap (λ ys. x ∷ ys) (filter_all f xs h.1))

pub filter_same : (f g : Name → Bool) (xs : List Name) → ((x : Name) → f x ≡ g x) → filter f xs ≡ filter g xs
filter_same f g [] h = refl
filter_same f g (x ∷ xs) h =
    elim (cases_Bool (g x)) [
      | inl t ↦ let u : f x ≡ true = h x ∙ t in rw (u, t) (ap (λ (zs : List Name). x ∷ zs) (filter_same f g xs h))
      | inr e ↦ let u : f x ≡ false = h x ∙ e in rw (u, e) (filter_same f g xs h)
    ]

pub unported_distinct : (ps xs : List Name) → AreDistinct xs → AreDistinct (unported ps xs)
unported_distinct ps [] d = tt
unported_distinct ps (x ∷ xs) d =
    elim (cases_Bool (is_among x ps)) [
      | inl a ↦ rw a (unported_distinct ps xs d.1)
      | inr b ↦ rw b (unported_among ps xs x ∙ rw d.0 refl, unported_distinct ps xs d.1)
    ]

-- registers in the order of their declaration

abbrev pub register_among : List Var → Name → Bool
register_among rs n = is_among n (variable_names rs)

pub unlisted_names : (ps : List Name) (rs : List Var) → variable_names (unlisted ps rs) ≡ unported ps (variable_names rs)
unlisted_names ps [] = refl
unlisted_names ps (r ∷ rs) =
    elim (cases_Bool (is_among r.name ps)) [
      | inl t ↦ rw t (unlisted_names ps rs)
      | inr e ↦ rw e (ap (λ (zs : List Name). r.name ∷ zs) (unlisted_names ps rs))
    ]

option_name : (rs : List Var) (p : Name) → OptionNames (find (map (λ r. (r.name, r)) rs) p) p (register_among rs p)
option_name [] p = refl
option_name (r ∷ rs) p =
    elim (cases_Bool (bytes_eq r.name p)) [
      | inl t ↦
          let e : p ≡ r.name = sym (equal_of_bytes_eq r.name p t) in
          let u : bytes_eq p r.name ≡ true = subst (λ (y : Name). bytes_eq p y ≡ true) e (bytes_eq_same p) in
          rw (t, u) (sym e, refl)
      | inr f ↦ let u = bytes_eq_apart_back r.name p f in rw (f, u) (option_name rs p)
    ]

pub picked_names : (rs : List Var) (ps : List Name) → filter (register_among rs) ps ≡ variable_names (picked rs ps)
picked_names rs [] = refl
picked_names rs (p ∷ ps) =
    front_names (find (map (λ r. (r.name, r)) rs) p) p (register_among rs p) (option_name rs p) (picked rs ps) (filter (register_among rs) ps) (picked_names rs ps)
