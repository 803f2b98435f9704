-- Names by their places.
use Rattle.std.proofs.Common.{◌≡◌, ℕ, ◌<◌, Bool, true, false, not, ◌||◌, ltb, IsTrue, Option, Some, None, List, [], length, get_or, take, refl, sym, ap, ◌∙◌, inl, inr, ◌⊎◌, arith}
use Rattle.std.specs.Prelude.{MatchOption, position, is_some}
use Rattle.std.specs.List.{position_or_len}
use Rattle.std.specs.Str.{bytes_eq}
use Rattle.std.proofs.lemmas.Bool.{cases_lt, cases_order, cond-true, lt-ltb, ltb-true, both_ways, or_cases, or_left, or_right, not-true, not_from_false}
use Rattle.std.proofs.lemmas.List.{get_or-take, length-take-le}
use Rattle.std.proofs.lemmas.List.Quantifiers.{position-Some}
use Rattle.std.proofs.lemmas.List.Sums.{fails_before_first}
use Rattle.std.proofs.lemmas.Slice.Eq.{bytes_eq-Decides}
use Rattle.sap_lattice.specs.Closure.{name_at}
use Rattle.sap_lattice.specs.Rules.{BadName, KeepsNames}
use Rattle.sap_lattice.specs.Rules.BadName.{no_word, keyword, too_long, repeated}
use Rattle.sap_text.specs.Names.{is_word, is_among, design_keywords}
use Rattle.sap_lattice.specs.declared.TheConstants.{MOST_NAME_BYTES}

-- what a search for the first that passes says
pub position_cases : {X : Type 0} (test : X → Bool) (xs : List X) (d : X) (r : Option ℕ) → r ≡ position test xs
    → MatchOption r ((k : ℕ) → k < length xs → test (get_or xs k d) ≡ false) (λ k. (k < length xs) × (test (get_or xs k d) ≡ true))
position_cases test xs d (Some k) h = let found = position-Some test xs k d (sym h) in (found.0, found.1)
position_cases test xs d None h = λ k low.
    let p : ℕ = position_or_len test xs in
    elim (cases_lt p (length xs)) [
      | inl below ↦ absurd (let e : None ≡ Some p = h ∙ cond-true (ltb p (length xs)) (Some p) None (lt-ltb p (length xs) below) in cc)
      | inr above ↦ fails_before_first test xs k d (omega arith)
    ]

-- what a search for a name says
pub place_cases : (names : List (List ℕ)) (name : List ℕ) (r : Option ℕ) → r ≡ position (λ n. bytes_eq n name) names
    → MatchOption r ((k : ℕ) → k < length names → name_at names k ≡ name → ⊥) (λ k. (k < length names) × (name_at names k ≡ name))
place_cases names name (Some k) h =
    let found = position_cases (λ n. bytes_eq n name) names [] (Some k) h in
    (found.0, (bytes_eq-Decides (name_at names k) name).0 found.1)
place_cases names name None h = λ k low same.
    let test : List ℕ → Bool = λ n. bytes_eq n name in
    both_ways (test (name_at names k)) (position_cases test names [] None h k low) ((bytes_eq-Decides (name_at names k) name).1 same)

-- two levels have different names
pub names_apart : (names : List (List ℕ)) → KeepsNames names → (x y : ℕ) → x < length names → y < length names → name_at names x ≡ name_at names y → x ≡ y
names_apart names kept x y a b e =
    elim (cases_order x y) [
      | inl same ↦ same
      | inr apart ↦
          elim apart [
            | inl less ↦ absurd (kept.named y (b, repeated x less e))
            | inr more ↦ absurd (kept.named x (a, repeated y more (sym e)))
          ]
    ]

-- where a name stands, a search finds it
pub found_at : (names : List (List ℕ)) → KeepsNames names → (name : List ℕ) (x : ℕ) → x < length names → name_at names x ≡ name → Some x ≡ position (λ n. bytes_eq n name) names
found_at names kept name x low same =
    let r : Option ℕ = position (λ n. bytes_eq n name) names in by_search r (place_cases names name r refl) where
      by_search : (r : Option ℕ) → MatchOption r ((k : ℕ) → k < length names → name_at names k ≡ name → ⊥) (λ k. (k < length names) × (name_at names k ≡ name)) → Some x ≡ r
      by_search (Some y) found = ap Some (names_apart names kept x y low found.0 (same ∙ sym found.1))
      by_search None none = absurd (none x low same)

-- whether a search among the names before k finds the name at k
pub stands_cases : (names : List (List ℕ)) (k : ℕ) (name : List ℕ) (r : Option ℕ) (found : Bool) → k < length names → name ≡ name_at names k
    → r ≡ position (λ n. bytes_eq n name) (take k names) → found ≡ is_some r
    → (IsTrue found → (j : ℕ) × (j < k) × (name_at names j ≡ name_at names k)) × ((j : ℕ) × (j < k) × (name_at names j ≡ name_at names k) → IsTrue found)
stands_cases names k name (Some j) found low same r_is found_is =
    let at = place_cases (take k names) name (Some j) r_is in
    let front : length (take k names) ≡ k = length-take-le k names (omega arith) in
    let below : j < k = omega (arith, at.0) in
    (λ _. (j, below, sym (get_or-take k names j [] below) ∙ at.1 ∙ same), λ _. found_is)
stands_cases names k name None found low same r_is found_is =
    let none = place_cases (take k names) name None r_is in
    let front : length (take k names) ≡ k = length-take-le k names (omega arith) in
    (λ t. absurd (both_ways found found_is t), λ (j, below, e). absurd (none j (omega arith) (get_or-take k names j [] below ∙ e ∙ sym same)))

-- what no level may have as its name
pub unfit_bad : (names : List (List ℕ)) (k : ℕ)
    → (not (is_word (name_at names k)) || (is_among (name_at names k) design_keywords || ltb MOST_NAME_BYTES (length (name_at names k)))) ≡ true → BadName names k
unfit_bad names k h =
    let name : List ℕ = name_at names k in
    elim (or_cases (not (is_word name)) (is_among name design_keywords || ltb MOST_NAME_BYTES (length name)) h) [
      | inl e ↦ no_word (not-true (is_word name) e)
      | inr e ↦
          elim (or_cases (is_among name design_keywords) (ltb MOST_NAME_BYTES (length name)) e) [
            | inl w ↦ keyword w
            | inr l ↦ too_long (ltb-true MOST_NAME_BYTES (length name) l)
          ]
    ]

pub bad_cases : (names : List (List ℕ)) (k : ℕ) → BadName names k
    → ((not (is_word (name_at names k)) || (is_among (name_at names k) design_keywords || ltb MOST_NAME_BYTES (length (name_at names k)))) ≡ true)
    ⊎ ((j : ℕ) × (j < k) × (name_at names j ≡ name_at names k))
bad_cases names k (no_word e) = inl (or_left _ _ (not_from_false (is_word (name_at names k)) e))
bad_cases names k (keyword e) = inl (or_right _ _ (or_left _ _ e))
bad_cases names k (too_long h) = inl (or_right _ _ (or_right _ _ (lt-ltb MOST_NAME_BYTES (length (name_at names k)) h)))
bad_cases names k (repeated j low e) = inr (j, low, e)
