-- The wires that are ports.
use Rattle.sap_lemmas.proofs.Common.{◌≡◌, ◌&&◌, List, [], ◌∷◌, filter, true, false, sym, ap, ◌∙◌, subst, refl, inl, inr, AllByRecursion, cases_Bool, and_from, and_left, and_right}
use Rattle.sap_net.proofs.NamesLemmas.{filter_among, filter_distinct}
use Rattle.sap_maps.specs.Maps.{Name}
use Rattle.sap_net.specs.Names.{is_among, AreDistinct}
use Rattle.sap_ir.specs.IsGuarded.{variable_names}
use Rattle.sap_ir.specs.declared.guarded.Var.{Var}
use Rattle.sap_lower.specs.Lowered.{listed, unported}
use Rattle.sap_share.specs.Sets.{AreSame}

pub listed_names : (ps : List Name) (xs : List Var) → variable_names (listed ps xs) ≡ filter (λ n. is_among n ps) (variable_names xs)
listed_names ps [] = refl
listed_names ps (x ∷ xs) =
    elim (cases_Bool (is_among x.name ps)) [
      | inl t ↦ rw t (ap (λ (ns : List Name). x.name ∷ ns) (listed_names ps xs))
      | inr f ↦ rw f (listed_names ps xs)
    ]

listed_among : (ps : List Name) (xs : List Var) (n : Name) → is_among n (variable_names (listed ps xs)) ≡ (is_among n (variable_names xs) && is_among n ps)
listed_among ps xs n = ap (λ (ns : List Name). is_among n ns) (listed_names ps xs) ∙ filter_among (λ n. is_among n ps) (variable_names xs) n

pub into_listed : (ps : List Name) (xs : List Var) (n : Name) → is_among n (variable_names xs) ≡ true → is_among n ps ≡ true → is_among n (variable_names (listed ps xs)) ≡ true
into_listed ps xs n h p = listed_among ps xs n ∙ and_from (is_among n (variable_names xs)) (is_among n ps) h p

pub of_listed : (ps : List Name) (xs : List Var) (n : Name) → is_among n (variable_names (listed ps xs)) ≡ true → is_among n (variable_names xs) ≡ true
of_listed ps xs n h = and_left (is_among n (variable_names xs)) (is_among n ps) (sym (listed_among ps xs n) ∙ h)

pub listed_port : (ps : List Name) (xs : List Var) (n : Name) → is_among n (variable_names (listed ps xs)) ≡ true → is_among n ps ≡ true
listed_port ps xs n h = and_right (is_among n (variable_names xs)) (is_among n ps) (sym (listed_among ps xs n) ∙ h)

pub listed_distinct : (ps : List Name) (xs : List Var) → AreDistinct (variable_names xs) → AreDistinct (variable_names (listed ps xs))
listed_distinct ps xs d = subst AreDistinct (sym (listed_names ps xs)) (filter_distinct (λ n. is_among n ps) (variable_names xs) d)

pub listed_holds : (P : Var → Type 0) (ps : List Name) (xs : List Var) → AllByRecursion P xs → AllByRecursion P (listed ps xs)
listed_holds P ps [] a = tt
listed_holds P ps (x ∷ xs) a =
    elim (cases_Bool (is_among x.name ps)) [
      | inl t ↦ rw t (a.0, listed_holds P ps xs a.1)
      | inr f ↦ rw f (listed_holds P ps xs a.1)
    ]

-- two sets of the same names leave out the same
pub unported_same : (ps qs xs : List Name) → AreSame ps qs → unported ps xs ≡ unported qs xs
unported_same ps qs [] h = refl
unported_same ps qs (x ∷ xs) h =
    elim (cases_Bool (is_among x ps)) [
      | inl t ↦ let u : is_among x qs ≡ true = sym (h x) ∙ t in rw (t, u) (unported_same ps qs xs h)
      | inr f ↦ let u : is_among x qs ≡ false = sym (h x) ∙ f in rw (f, u) (ap (λ (ns : List Name). x ∷ ns) (unported_same ps qs xs h))
    ]

-- two sets of the same names list the same
pub listed_same : (ps qs : List Name) (xs : List Var) → AreSame ps qs → listed ps xs ≡ listed qs xs
listed_same ps qs [] h = refl
listed_same ps qs (x ∷ xs) h =
    elim (cases_Bool (is_among x.name ps)) [
      | inl t ↦ let u : is_among x.name qs ≡ true = sym (h x.name) ∙ t in rw (t, u) (ap (λ (ys : List Var). x ∷ ys) (listed_same ps qs xs h))
      | inr f ↦ let u : is_among x.name qs ≡ false = sym (h x.name) ∙ f in rw (f, u) (listed_same ps qs xs h)
    ]
