-- The room of rows.
use Rattle.sap_lemmas.proofs.Common.{◌≡◌, ℕ, zero, suc, ◌+◌, ◌<◌, ◌≤◌, ◌^◌, List, [], ◌∷◌, ◌++◌, length, get_or, drop, length-append, refl, sym, ap, ◌∙◌, inl, inr, arith, All, Option, Some, None, option_map, decimal, nat_lt, if◌then◌else◌, cases_lt, nat_tests, length-decimal-le, drop-cons}
use Rattle.std.proofs.lemmas.List.Elements.{All-head, All-tail}
use Rattle.sap_lattice.proofs.LevelsLemmas.{level_in_same}
use Rattle.sap_lattice.specs.Prelude.{name_at, Levels, level_in}
use Rattle.sap_stim.specs.Rows.{shown, shown_of, shown_text, all_shown, level_coded, level_text, HoldsRows}

-- names are within a bound
abbrev pub Within : List (List ℕ) → (bound count : ℕ) → Type 0
Within names bound count = (k : ℕ) → k < count → length (name_at names k) ≤ bound

past_names : (names : List (List ℕ)) (k : ℕ) → length names ≤ k → get_or names k [] ≡ []
past_names [] zero h = refl
past_names [] (suc k) h = refl
past_names (n ∷ ns) zero h = absurd (omega arith)
past_names (n ∷ ns) (suc k) h = past_names ns k (omega arith)

pub each_name : (names : List (List ℕ)) (bound : ℕ) → Within names bound (length names) → (k : ℕ) → length (name_at names k) ≤ bound
each_name names bound h k = elim (cases_lt k (length names)) [
  | inl small ↦ h k small
  | inr past ↦ let e : length (name_at names k) ≡ 0 = ap length (past_names names k past) in omega arith
]

-- one name more
pub name_within : (names : List (List ℕ)) (bound more place level size top : ℕ) (text : List ℕ) → Within names bound place
    → place < length names → level ≡ (if nat_lt place (length names) then place else top)
    → text ≡ get_or names (level_in (length names) level) [] → size ≡ length text → bound ≤ more → size ≤ more → Within names more (place + 1)
name_within names bound more place level size top text before small l t s grown fits k h =
    elim (cases_lt k place) [
      | inl less ↦ let b = before k less in omega arith
      | inr not_less ↦
          let same : level ≡ place = grind (arith, nat_tests) in
          let here : text ≡ get_or names k [] = t ∙ ap (λ (j : ℕ). get_or names (level_in (length names) j) []) same
          ∙ ap (λ (j : ℕ). get_or names j []) (level_in_same (length names) place small ∙ omega arith) in
          let e : length text ≡ length (name_at names k) = ap length here in
          omega arith
    ]

digits_within : (n : ℕ) → n < 2 ^ 64 → length (decimal n) ≤ 20
digits_within n small = length-decimal-le 20 n (omega arith) (omega arith) small

pub text_within : (names : List (List ℕ)) (bound tag : ℕ) (o : Option ℕ) → 21 ≤ bound → ((k : ℕ) → length (name_at names k) ≤ bound)
    → tag < 2 ^ 64 → length (level_text (option_map (name_at names) o) tag) ≤ bound
text_within names bound tag None number each small =
    let d = digits_within tag small in
    let e : length (35 ∷ decimal tag) ≡ 1 + length (decimal tag) = omega arith in
    simp length-append (omega (arith, d))
text_within names bound tag (Some k) number each small = each k

-- the room that the registers of these names take
abbrev pub taken : (bound : ℕ) → List (List ℕ) → ℕ
taken bound [] = 0
taken bound (name ∷ names) = length name + bound + 23 + taken bound names

shown_within : (ls : Levels) (bound value tag : ℕ) (name : List ℕ) → 21 ≤ bound → ((k : ℕ) → length (name_at ls.names k) ≤ bound) → value < 2 ^ 64 → tag < 2 ^ 64
    → length (shown_text (shown ls name value tag)) ≤ length name + bound + 23
shown_within ls bound value tag name number each v t =
    let d = digits_within value v in
    let l = text_within ls.names bound tag (level_coded ls tag) number each t in
    simp length-append (omega (arith, d, l))

all_within : (ls : Levels) (bound : ℕ) (names : List (List ℕ)) (values tags : List ℕ) → 21 ≤ bound
    → ((k : ℕ) → length (name_at ls.names k) ≤ bound) → All (λ n. n < 2 ^ 64) values → All (λ n. n < 2 ^ 64) tags
    → length (all_shown (shown_of ls names values tags)) ≤ taken bound names + 1
all_within ls bound [] values tags number each vs ts = omega arith
all_within ls bound (name ∷ names) [] tags number each vs ts = omega arith
all_within ls bound (name ∷ names) (value ∷ values) [] number each vs ts = omega arith
all_within ls bound (name ∷ names) (value ∷ values) (tag ∷ tags) number each vs ts =
    let here = shown_within ls bound value tag name number each (All-head (λ n. n < 2 ^ 64) value values vs) (All-head (λ n. n < 2 ^ 64) tag tags ts) in
    let rest = all_within ls bound names values tags number each (All-tail (λ n. n < 2 ^ 64) value values vs) (All-tail (λ n. n < 2 ^ 64) tag tags ts) in
    let whole : length (shown_text (shown ls name value tag) ++ all_shown (shown_of ls names values tags))
    ≡ length (shown_text (shown ls name value tag)) + length (all_shown (shown_of ls names values tags))
    = length-append (shown_text (shown ls name value tag)) (all_shown (shown_of ls names values tags)) in
    omega arith

pub holds_rows : (ls : Levels) (bound : ℕ) (names : List (List ℕ)) (room : ℕ) → 21 ≤ bound → Within ls.names bound (length ls.names)
    → room ≡ 28 + taken bound names → HoldsRows ls names room
holds_rows ls bound names room number within is = λ values tags vs ts.
    let rows = all_within ls bound names values tags number (each_name ls.names bound within) vs ts in
    omega arith

-- one register more
pub taken_more : (bound : ℕ) (names : List (List ℕ)) (i room next all : ℕ) (name : List ℕ) → i < length names → name ≡ get_or names i name
    → room + taken bound (drop i names) ≡ all → next ≡ room + (length name + bound + 23)
    → next + taken bound (drop (i + 1) names) ≡ all
taken_more bound names i room next all name h here before grown =
    let s : suc i ≡ i + 1 = omega arith in
    let first : drop i names ≡ name ∷ drop (i + 1) names = drop-cons names i name h ∙ ap (λ (x : List ℕ). x ∷ drop (suc i) names) (sym here)
    ∙ ap (λ (k : ℕ). name ∷ drop k names) s in
    let e : taken bound (drop i names) ≡ length name + bound + 23 + taken bound (drop (i + 1) names) = ap (taken bound) first in
    omega arith

pub taken_none : (bound : ℕ) (names : List (List ℕ)) (i : ℕ) → length names ≤ i → taken bound (drop i names) ≡ 0
taken_none bound [] zero h = refl
taken_none bound [] (suc i) h = refl
taken_none bound (n ∷ ns) zero h = absurd (omega arith)
taken_none bound (n ∷ ns) (suc i) h = taken_none bound ns i (omega arith)
