-- The names of parts that keep the rules of a system file.
use Rattle.sap_lemmas.proofs.Common.{◌≡◌, ℕ, zero, suc, ◌<◌, Bool, true, false, ◌||◌, ◌&&◌, not, List, [], ◌∷◌, length, get_or, map, refl, sym, ap, ◌∙◌, inl, inr, arith, subst, ◌==◌, list_all, byte, both_ways, cases_Bool, cases_order, length_map}
use Rattle.sap_text.specs.Names.{is_word, is_inner}
use Rattle.sap_text.proofs.NamesLemmas.{word_inner}
use Rattle.sap_maps.specs.Maps.{Name}
use Rattle.sap_lattice.specs.Prelude.{name_at, no_word, repeated}
use Rattle.sap_system.specs.Rules.{BadPartName, part_names, has_underscore}
use Rattle.sap_system.specs.Rules.BadPartName.{bad, underscore}
use Rattle.sap_system.specs.declared.file.Part.{Part as FilePart}
use Rattle.sap_linked.specs.Parts.{Part, NamedSystem, part_at, no_part, has_no_underscore, NamesFit}
use Rattle.sap_system.specs.Wires.{NamedPart}
use Rattle.sap_wiring.specs.Wiring.{names_in}
use Rattle.sap_linker.specs.Laws.{FileNamesFit, NamedPartsFit, names_of}

-- no byte of it is an underscore
none_is : (x : Name) → has_underscore x ≡ false → has_no_underscore x ≡ true
none_is [] h = refl
none_is (c ∷ x) h = by_first (c == byte "_") h (none_is x)
  where
    by_first : (b : Bool) → (b || has_underscore x) ≡ false → (has_underscore x ≡ false → has_no_underscore x ≡ true) → (not b && has_no_underscore x) ≡ true
    by_first true k others = absurd (both_ways true k refl)
    by_first false k others = others k

name_there : (ps : List Part) (i : ℕ) (p : Part) → i < length ps → name_at (map (λ (q : Part). q.name) ps) i ≡ (get_or ps i p).name
name_there [] i p low = absurd (omega (arith, low))
name_there (q ∷ ps) zero p low = refl
name_there (q ∷ ps) (suc i) p low = name_there ps i p (omega (arith, low))

-- in a system whose parts have these names, of which each is one that it may be at its place
module _ (names : List Name) (s : NamedSystem) (serves : (k : ℕ) → k < length names → ¬ BadPartName names k) (same : names_of s ≡ names) where
  abbrev called : ℕ → Name
  called i = (part_at s i).name

  there : (i : ℕ) → i < length s.parts → name_at names i ≡ called i
  there i low = ap (λ (xs : List Name). name_at xs i) (sym same) ∙ name_there s.parts i (no_part s.order) low

  good : (i : ℕ) → i < length s.parts → ¬ BadPartName names i
  good i low = serves i (subst (λ n. i < n) (sym (length_map (λ (p : Part). p.name) s.parts) ∙ ap length same) low)

  inner : (i : ℕ) → i < length s.parts → list_all is_inner (called i) ≡ true
  inner i low = elim (cases_Bool (is_word (called i))) [
    | inl word ↦ word_inner (called i) word
    | inr none ↦ absurd (good i low (bad (no_word (ap is_word (there i low) ∙ none))))
  ]

  whole : (i : ℕ) → i < length s.parts → has_no_underscore (called i) ≡ true
  whole i low = elim (cases_Bool (has_underscore (called i))) [
    | inl some ↦ absurd (good i low (underscore (ap has_underscore (there i low) ∙ some)))
    | inr none ↦ none_is (called i) none
  ]

  apart : (i j : ℕ) → i < length s.parts → j < length s.parts → called i ≡ called j → i ≡ j
  apart i j low below equal =
      let both : name_at names i ≡ name_at names j = there i low ∙ equal ∙ sym (there j below) in
      elim (cases_order i j) [
        | inl e ↦ e
        | inr differ ↦
            elim differ [
              | inl less ↦ absurd (good j below (bad (repeated i less both)))
              | inr more ↦ absurd (good i low (bad (repeated j more (sym both))))
            ]
      ]

  fit : NamesFit s
  fit = record { inner = inner; whole = whole; distinct = apart }

pub named_parts_fit : NamedPartsFit
named_parts_fit u s named same =
    fit (names_in u) s (λ k low. named k (subst (λ n. k < n) (length_map (λ (p : NamedPart). p.name) u.parts) low)) same

pub file_names_fit : FileNamesFit
file_names_fit parts s keeps same =
    fit (part_names parts) s (λ k low broken. keeps.named k (subst (λ n. k < n) (length_map (λ (p : FilePart). p.name) parts) low, broken)) same
