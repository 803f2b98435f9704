-- Names of parts: none has a dot, and no two parts have one name.
use Rattle.sap_lemmas.proofs.Common.{◌≡◌, ℕ, zero, suc, ◌<◌, Bool, true, false, ◌&&◌, List, [], ◌∷◌, ◌++◌, length, get_or, map, Option, Some, None, MatchOption, position, bytes_eq, slice_get, option_map, refl, sym, ap, ◌∙◌, inl, inr, arith, subst, list_all, both_ways, cases_Bool, cases_order, slice_get-map, slice_get_within, slice_get-get_or, get_or_from_slice_get, same_Some, none-some, bytes_eq-Decides, length_map}
use Rattle.std.proofs.lemmas.List.Quantifiers.{position-Some}
use Rattle.sap_text.specs.Names.{is_word, is_inner}
use Rattle.sap_text.proofs.NamesLemmas.{word_inner}
use Rattle.sap_lattice.specs.Prelude.{name_at, no_word, repeated}
use Rattle.sap_lattice.proofs.NameLemmas.{position_cases}
use Rattle.sap_system.specs.Rules.{BadPartName}
use Rattle.sap_system.specs.Rules.BadPartName.{bad}
use Rattle.sap_system.specs.declared.file.Part.{Part}
use Rattle.sap_wiring.specs.Laws.{FileNamesServe}
use Rattle.sap_system.specs.Wires.{NamedPart, Surroundings}
use Rattle.sap_wiring.specs.Wiring.{named_part, names_in, PartsNamed}
use Rattle.sap_wiring.specs.declared.surroundings.PartNames.{PartNames}

-- no byte is a dot
abbrev pub Lacks : List ℕ → Type 0
Lacks [] = Unit {0}
Lacks (c ∷ cs) = (c ≡ 46 → ⊥) × Lacks cs

inner_no_dot : (c : ℕ) → is_inner c ≡ true → c ≡ 46 → ⊥
inner_no_dot c h e = let dot : is_inner 46 ≡ true = subst (λ b. is_inner b ≡ true) e h in cc

first_of : (a b : Bool) → (a && b) ≡ true → (a ≡ true) × (b ≡ true)
first_of true b h = (refl, h)
first_of false b h = absurd (both_ways false refl h)

inner_lacks : (cs : List ℕ) → list_all is_inner cs ≡ true → Lacks cs
inner_lacks [] h = tt
inner_lacks (c ∷ cs) h = let both = first_of (is_inner c) (list_all is_inner cs) h in (inner_no_dot c both.0, inner_lacks cs both.1)

pub lacks_at : (cs : List ℕ) → Lacks cs → (i : ℕ) → i < length cs → get_or cs i 0 ≡ 46 → ⊥
lacks_at [] h i low e = absurd (omega (arith, low))
lacks_at (c ∷ cs) h zero low e = h.0 e
lacks_at (c ∷ cs) h (suc i) low e = lacks_at cs h.1 i (omega (arith, low)) e

-- what stands before a first dot, and behind it
pub cut_same : (p q x y : List ℕ) → Lacks p → Lacks q → p ++ (46 ∷ x) ≡ q ++ (46 ∷ y) → (p ≡ q) × (x ≡ y)
cut_same [] [] x y a b e = (refl, ap (λ (l : List ℕ). drop_one l) e)
  where
    drop_one : List ℕ → List ℕ
    drop_one [] = []
    drop_one (c ∷ cs) = cs
cut_same [] (d ∷ q) x y a b e = absurd (b.0 (sym (ap (λ (l : List ℕ). get_or l 0 0) e)))
cut_same (c ∷ p) [] x y a b e = absurd (a.0 (ap (λ (l : List ℕ). get_or l 0 0) e))
cut_same (c ∷ p) (d ∷ q) x y a b e =
    let tails : p ++ (46 ∷ x) ≡ q ++ (46 ∷ y) = cc in
    let heads : c ≡ d = cc in
    let r = cut_same p q x y a.1 b.1 tails in
    ((λ i. heads i ∷ r.0 i), r.1)

module _ (u : Surroundings) (named : PartsNamed u) where
  name_of : (i : ℕ) (p : NamedPart) → slice_get u.parts i ≡ Some p → name_at (names_in u) i ≡ p.name
  name_of i p is = get_or_from_slice_get (names_in u) i p.name [] (slice_get-map (λ (q : NamedPart). q.name) u.parts i ∙ ap (λ o. option_map (λ (q : NamedPart). q.name) o) is)

  pub lacks_dot : (i : ℕ) (p : NamedPart) → slice_get u.parts i ≡ Some p → Lacks p.name
  lacks_dot i p is = elim (cases_Bool (is_word p.name)) [
    | inl word ↦ inner_lacks p.name (word_inner p.name word)
    | inr none ↦ absurd (named i (slice_get_within u.parts i p is) (bad (no_word (ap is_word (name_of i p is) ∙ none))))
  ]

  pub parts_apart : (i j : ℕ) (p q : NamedPart) → slice_get u.parts i ≡ Some p → slice_get u.parts j ≡ Some q → p.name ≡ q.name → i ≡ j
  parts_apart i j p q is it same =
      let names : name_at (names_in u) i ≡ name_at (names_in u) j = name_of i p is ∙ same ∙ sym (name_of j q it) in
      elim (cases_order i j) [
        | inl e ↦ e
        | inr apart ↦
            elim apart [
              | inl less ↦ absurd (named j (slice_get_within u.parts j q it) (bad (repeated i less names)))
              | inr more ↦ absurd (named i (slice_get_within u.parts i p is) (bad (repeated j more (sym names))))
            ]
      ]

mapped : (o : Option PartNames) (p : NamedPart) → option_map named_part o ≡ Some p → (q : PartNames) × (o ≡ Some q) × (named_part q ≡ p)
mapped None p h = absurd (none-some p h)
mapped (Some q) p h = (q, refl, same_Some (named_part q) p h)

-- the part of the code that is this one
pub part_at : (parts : List PartNames) (i : ℕ) (p : NamedPart) → slice_get (map named_part parts) i ≡ Some p → (q : PartNames) × (slice_get parts i ≡ Some q) × (named_part q ≡ p)
part_at parts i p h = mapped (slice_get parts i) p (sym (slice_get-map named_part parts i) ∙ h)

abbrev is_called : List ℕ → PartNames → Bool
is_called name p = bytes_eq p.name.now name

-- what a search for a part by its name says
pub part_cases : (parts : List PartNames) (name : List ℕ) (r : Option ℕ) → r ≡ position (λ p. bytes_eq p.name.now name) parts
    → MatchOption r ((i : ℕ) (p : NamedPart) → slice_get (map named_part parts) i ≡ Some p → p.name ≡ name → ⊥) (λ i. (q : PartNames)
    × (slice_get parts i ≡ Some q) × (q.name.now ≡ name))
part_cases parts name None h = λ i p is same.
    let (q, at, it) = part_at parts i p is in
    let low = slice_get_within parts i q at in
    let there : get_or parts i q ≡ q = get_or_from_slice_get parts i q q at in
    let no : is_called name q ≡ false = ap (is_called name) (sym there) ∙ position_cases (is_called name) parts q None h i low in
    both_ways (is_called name q) no ((bytes_eq-Decides q.name.now name).1 (ap (λ (x : NamedPart). x.name) it ∙ same))
part_cases [] name (Some i) h = cc
part_cases (q ∷ parts) name (Some i) h =
    let found = position-Some (is_called name) (q ∷ parts) i q (sym h) in
    (get_or (q ∷ parts) i q, slice_get-get_or (q ∷ parts) i q found.0, (bytes_eq-Decides _ name).0 found.1)

-- the part that it finds
pub part_found : (parts : List PartNames) (name : List ℕ) (k : ℕ) (d : PartNames) → Some k ≡ position (λ p. bytes_eq p.name.now name) parts
    → (slice_get (map named_part parts) k ≡ Some (named_part (get_or parts k d))) × ((get_or parts k d).name.now ≡ name)
part_found parts name k d h =
    let (q, at, called) = part_cases parts name (Some k) h in
    let same : get_or parts k d ≡ q = get_or_from_slice_get parts k q d at in (
      slice_get-map named_part parts k ∙ ap (λ o. option_map named_part o) at ∙ ap (λ (x : PartNames). Some (named_part x)) (sym same),
      ap (λ (x : PartNames). x.name.now) same ∙ called,
    )

pub file_names_serve : FileNamesServe
file_names_serve parts u keeps same k low broken = keeps.named k (
  subst (λ n. k < n) (sym (length_map (λ (p : NamedPart). p.name) u.parts) ∙ ap length same ∙ length_map (λ (p : Part). p.name) parts) low,
  subst (λ names. BadPartName names k) same broken,
)
