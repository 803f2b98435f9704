-- A design has at most one first fault.
use Rattle.sap_lemmas.proofs.Common.{◌≡◌, ◌<◌, ◌≤◌, ◌⊎◌, inl, inr, ℕ, List, [], ◌∷◌, Some, if◌then◌else◌, nat_eq, refl, sym, subst, ap, ap₂, ◌∙◌, arith, common_steps}
use Rattle.sap_tree.specs.Syntax.{DesignTree}
use Rattle.sap_text.specs.declared.place.Place.{Place}
use Rattle.sap_lattice.specs.Levels.{Levels, order_of}
use Rattle.sap_names.specs.Prelude.{StandsIn, Before, BeforeAll, First, design_name_faults}
use Rattle.sap_names.specs.declared.fault.Fault.{Fault}
use Rattle.sap_names.specs.declared.kind.Code.{Code}
use Rattle.sap_names.specs.declared.kind.Code.TheVariants.{E3, E5, E6, E7, E8, E9, E10, E11, E12, E14, E16, E17}
use Rattle.sap_names.specs.Fault.{number}
use Rattle.sap_names.specs.declared.kind.Code.TheVariants.{E4, E15}
use Rattle.sap_shape.specs.ShapeFaults.{IsFirstShapeFault}
use Rattle.sap_shape.specs.WellFormed.{IsFirstFault}

-- a code by its number
code_of : ℕ → Code
code_of n =
    if nat_eq n 3 then E3 else
    if nat_eq n 4 then E4 else
    if nat_eq n 5 then E5 else
    if nat_eq n 6 then E6 else
    if nat_eq n 7 then E7 else
    if nat_eq n 8 then E8 else
    if nat_eq n 9 then E9 else
    if nat_eq n 10 then E10 else
    if nat_eq n 11 then E11 else
    if nat_eq n 12 then E12 else
    if nat_eq n 14 then E14 else
    if nat_eq n 15 then E15 else
    if nat_eq n 16 then E16 else E17

code_of-number : (c : Code) → code_of (number c) ≡ c
unfolding code_of
code_of-number E3 = refl
code_of-number _ = refl

same_code : (c k : Code) → number c ≡ number k → c ≡ k
same_code c k e = sym (code_of-number c) ∙ ap code_of e ∙ code_of-number k

-- three numbers, compared one after another
abbrev Ordered : (l c n m d k : ℕ) → Type 0
Ordered l c n m d k = (l < m) ⊎ ((l ≡ m) × (c < d) ⊎ ((l ≡ m) × (c ≡ d) × (n ≤ k)))

ordered-both : (l c n m d k : ℕ) → Ordered l c n m d k → Ordered m d k l c n → (l ≡ m) × (c ≡ d) × (n ≡ k)
ordered-both l c n m d k h g = grind (arith, common_steps)

before-both : (f g : Fault) → Before f g → Before g f → f ≡ g
before-both f g h i =
    let same = ordered-both _ _ _ _ _ _ h i in
    let place : f.place ≡ g.place = ap₂ (λ (l c : ℕ). let p : Place = record { line = l; column = c } in p) same.0 same.1 in
    ap₂ (λ (c : Code) (p : Place). let x : Fault = record { code = c; place = p } in x) (same_code f.code g.code same.2) place

before-at : (f : Fault) (fs : List Fault) → BeforeAll f fs → (g : Fault) → StandsIn g fs → Before f g
before-at f [] all g h = absurd h
before-at f (x ∷ fs) all g (inl e) = subst (λ (z : Fault). Before f z) (sym e) all.0
before-at f (x ∷ fs) all g (inr h) = before-at f fs all.1 g h

one_first : (fs : List Fault) (f g : Fault) → First (Some f) fs → First (Some g) fs → f ≡ g
one_first fs f g h i = before-both f g (before-at f fs h.1 g i.0) (before-at g fs i.1 f h.0)

one_first_shape : (d : DesignTree) (f g : Fault) → IsFirstShapeFault d f → IsFirstShapeFault d g → f ≡ g
one_first_shape d f g h i = before-both f g (h.1 g i.0) (i.1 f h.0)

-- no fault is the first of none
not_first : (fs : List Fault) (f : Fault) → First (Some f) fs → fs ≡ [] → ⊥
not_first fs f h e = subst (λ (l : List Fault). StandsIn f l) e h.0

pub one_first_fault : (ls : Levels) (d : DesignTree) (f g : Fault) → IsFirstFault ls d f → IsFirstFault ls d g → f ≡ g
one_first_fault ls d f g (inl h) (inl i) = one_first (design_name_faults ls.names (order_of ls).le d) f g h i
one_first_fault ls d f g (inl h) (inr i) = absurd (not_first (design_name_faults ls.names (order_of ls).le d) f h i.0)
one_first_fault ls d f g (inr h) (inl i) = absurd (not_first (design_name_faults ls.names (order_of ls).le d) g i h.0)
one_first_fault ls d f g (inr h) (inr i) = one_first_shape d f g h.1 i.1
