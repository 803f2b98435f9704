-- Names of parts by their places.
use Rattle.sap_lemmas.proofs.Common.{◌≡◌, ℕ, zero, suc, ◌<◌, Bool, true, false, not, ◌||◌, ltb, List, [], ◌∷◌, length, get_or, take, refl, sym, ap, ◌∙◌, inl, inr, ◌⊎◌, arith, list_any, bytes_eq, both_ways, or_cases, or_left, or_right, bytes_eq-Decides}
use Rattle.std.proofs.lemmas.List.{get_or-map}
use Rattle.sap_text.specs.Names.{is_word, is_among, design_keywords}
use Rattle.sap_lattice.specs.Prelude.{name_at, repeated}
use Rattle.sap_lattice.specs.declared.TheConstants.{MOST_NAME_BYTES}
use Rattle.sap_lattice.proofs.NameLemmas.{unfit_bad, bad_cases}
use Rattle.sap_system.specs.Rules.{BadPart, BadPartName, has_underscore, part_names}
use Rattle.sap_system.specs.Rules.BadPartName.{bad, underscore}
use Rattle.sap_system.specs.declared.file.Part.{Part}

-- whether no part may have this name
abbrev pub unfit : List ℕ → Bool
unfit name = not (is_word name) || (is_among name design_keywords || ltb MOST_NAME_BYTES (length name)) || has_underscore name

unfit_bad_part : (names : List (List ℕ)) (k : ℕ) → unfit (name_at names k) ≡ true → BadPartName names k
unfit_bad_part names k h =
    elim (or_cases (not (is_word (name_at names k))
    || (is_among (name_at names k) design_keywords || ltb MOST_NAME_BYTES (length (name_at names k)))) (has_underscore (name_at names k)) h) [
      | inl e ↦ bad (unfit_bad names k e)
      | inr e ↦ underscore e
    ]

bad_part_cases : (names : List (List ℕ)) (k : ℕ) → BadPartName names k → (unfit (name_at names k) ≡ true) ⊎ ((j : ℕ) × (j < k) × (name_at names j ≡ name_at names k))
bad_part_cases names k (underscore e) = inl (or_right _ _ e)
bad_part_cases names k (bad b) = elim (bad_cases names k b) [ inl e ↦ inl (or_left _ _ e) | inr e ↦ inr e ]

-- a part before place k has this name
named_before : (parts : List Part) (k : ℕ) (name : List ℕ) → list_any (λ p. bytes_eq p.name name) (take k parts) ≡ true → (j : ℕ) × (j < k) × (name_at (part_names parts) j ≡ name)
named_before [] zero name h = absurd (both_ways false refl h)
named_before [] (suc k) name h = absurd (both_ways false refl h)
named_before (p ∷ ps) zero name h = absurd (both_ways false refl h)
named_before (p ∷ ps) (suc k) name h =
    elim (or_cases (bytes_eq p.name name) (list_any (λ q. bytes_eq q.name name) (take k ps)) h) [
      | inl e ↦ (zero, omega arith, (bytes_eq-Decides p.name name).0 e)
      | inr e ↦ let (j, low, same) = named_before ps k name e in (suc j, omega (arith, low), same)
    ]

before_named : (parts : List Part) (k : ℕ) (name : List ℕ) (j : ℕ) → j < k → j < length parts → name_at (part_names parts) j ≡ name
    → list_any (λ p. bytes_eq p.name name) (take k parts) ≡ true
before_named [] k name j low there same = absurd (omega arith)
before_named (p ∷ ps) zero name j low there same = absurd (omega arith)
before_named (p ∷ ps) (suc k) name zero low there same = or_left _ _ ((bytes_eq-Decides p.name name).1 same)
before_named (p ∷ ps) (suc k) name (suc j) low there same = or_right _ _ (before_named ps k name j (omega arith) (omega arith) same)

-- the test of the part at place k
abbrev pub is_bad_at : List Part → (k : ℕ) (name : List ℕ) → Bool
is_bad_at parts k name = unfit name || list_any (λ p. bytes_eq p.name name) (take k parts)

pub bad_at : (parts : List Part) (k : ℕ) → k < length parts → is_bad_at parts k (name_at (part_names parts) k) ≡ true → BadPart parts k
bad_at parts k low h =
    let name : List ℕ = name_at (part_names parts) k in
    elim (or_cases (unfit name) (list_any (λ p. bytes_eq p.name name) (take k parts)) h) [
      | inl e ↦ (low, unfit_bad_part (part_names parts) k e)
      | inr e ↦ let (j, before, same) = named_before parts k name e in (low, bad (repeated j before same))
    ]

pub found_bad : (parts : List Part) (k : ℕ) → BadPart parts k → is_bad_at parts k (name_at (part_names parts) k) ≡ true
found_bad parts k (low, part) =
    let name : List ℕ = name_at (part_names parts) k in
    elim (bad_part_cases (part_names parts) k part) [
      | inl e ↦ or_left _ _ e
      | inr (j, before, same) ↦ or_right (unfit name) _ (before_named parts k name j before (omega (arith, before, low)) same)
    ]

-- the name of the part at place k
pub part_name_at : (parts : List Part) (k : ℕ) (p : Part) → k < length parts → (get_or parts k p).name ≡ name_at (part_names parts) k
part_name_at parts k p low = sym (get_or-map (λ (q : Part). q.name) parts k p [] low)

-- what the tests of its name and of the parts before it say
pub bad_by : (parts : List Part) (k : ℕ) (name : List ℕ) → k < length parts → name ≡ name_at (part_names parts) k → is_bad_at parts k name ≡ true → BadPart parts k
bad_by parts k name low same h = bad_at parts k low (ap (is_bad_at parts k) (sym same) ∙ h)

pub by_bad : (parts : List Part) (k : ℕ) (name : List ℕ) → name ≡ name_at (part_names parts) k → BadPart parts k → is_bad_at parts k name ≡ true
by_bad parts k name same broken = ap (is_bad_at parts k) same ∙ found_bad parts k broken
