-- On what stands in Worlds: what several crates cite.
use Rattle.sap_lemmas.proofs.Common.{List, [], ap, sym, subst, ◌∙◌, arith, length, refl, suc, ◌∷◌, ◌≡◌, ◌<◌, ℕ, Bool, true, false, not, Some, is_some, position, inl, inr, bytes_eq, nat_lt, unwrap_or, position_or_len, cases_Bool, ltb-false, not-false}
use Rattle.std.proofs.lemmas.Bool.Decides.{Decides-ltb}
use Rattle.std.proofs.lemmas.List.Sums.{prefix_len-le-length}
use Rattle.sap_lattice.specs.Levels.{Levels, level_named}
use Rattle.sap_names.specs.declared.kind.Code.TheVariants.{E6}
use Rattle.sap_names.specs.NameFaults.{is_level, level_faults}
use Rattle.sap_names.proofs.NameFaultsLemmas.{no_fault}
use Rattle.sap_resolved.specs.Worlds.{all_declared, level_number, no_children}
use Rattle.sap_tree.specs.declared.name.Mention.{Mention}
use Rattle.sap_tree.specs.declared.syntax.Decl.{Decl}

pub declared_length : (ls : Levels) (ds : List Decl) → length (all_declared ls ds) ≡ length ds
declared_length ls [] = refl
declared_length ls (d ∷ ds) = ap suc (declared_length ls ds)

pub children_length : (ds : List Decl) → length (no_children ds) ≡ length ds
children_length [] = refl
children_length (d ∷ ds) = ap suc (children_length ds)

-- the place of what is searched for, or that behind the last
pub position_or_behind : {X : Type 0} (test : X → Bool) (xs : List X) → unwrap_or (position test xs) (length xs) ≡ position_or_len test xs
position_or_behind test xs = elim (cases_Bool (nat_lt (position_or_len test xs) (length xs))) [
  | inl t ↦ rw t refl
  | inr f ↦ rw f (omega (arith, ltb-false (position_or_len test xs) (length xs) f, prefix_len-le-length (λ x. not (test x)) xs))
]

found : (test : List ℕ → Bool) (names : List (List ℕ)) → is_some (position test names) ≡ true
    → (position_or_len test names < length names) × (position test names ≡ Some (position_or_len test names))
found test names h = elim (cases_Bool (nat_lt (position_or_len test names) (length names))) [
  | inl t ↦ ((Decides-ltb (position_or_len test names) (length names)).0 t, rw t refl)
  | inr f ↦ absurd (let none : false ≡ true = rw f at h in cc)
]

-- a name in which no fault stands is that of a level
pub known_level : (ls : Levels) (m : Mention) → level_faults ls.names m ≡ []
    → (level_number ls m < length ls.names) × (level_named ls.names m.name ≡ Some (level_number ls m))
known_level ls m h =
    let test : List ℕ → Bool = λ l. bytes_eq l m.name in
    let here = found test ls.names (not-false (is_level ls.names m.name) (no_fault (not (is_level ls.names m.name)) E6 m.place h)) in
    let same : level_number ls m ≡ position_or_len test ls.names = position_or_behind test ls.names in
    (subst (λ (k : ℕ). k < length ls.names) (sym same) here.0, here.1 ∙ ap Some (sym same))
