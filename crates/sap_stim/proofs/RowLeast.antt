-- A buffer with less room doesn't take any row.
use Rattle.sap_lemmas.proofs.Common.{◌≡◌, ℕ, ◌+◌, ◌<◌, ◌≤◌, ◌^◌, ◌⊎◌, List, [], ◌∷◌, ◌++◌, length, get_or, length-append, max, refl, sym, ap, ◌∙◌, inl, inr, arith, All, Option, Some, None, option_map, decimal, nat_lt, if◌then◌else◌, cases_lt, nat_tests, pow_below}
use Rattle.std.specs.Fmt.{digits}
use Rattle.std.proofs.lemmas.List.Elements.{All-nil, All-cons}
use Rattle.sap_lattice.proofs.LevelsLemmas.{level_in_same}
use Rattle.sap_lattice.specs.Prelude.{name_at, Codes, code_of, width_of, IsNarrow, Levels, level_in, order_of, order_by}
use Rattle.sap_stim.specs.Rows.{shown, shown_of, shown_text, all_shown, level_coded, level_text, HoldsRows}
use Rattle.sap_stim.proofs.Coded.{level_found}
use Rattle.sap_stim.proofs.RowRoom.{taken}

-- a bound on the texts of levels that one reaches: `#` and 20 digits, or one of the first names
abbrev pub Reached : List (List ℕ) → (bound count : ℕ) → Type 0
Reached names bound count = (bound ≡ 21) ⊎ ((k : ℕ) × (k < count) × (length (name_at names k) ≡ bound))

larger : (a b m : ℕ) → m ≡ max a b → (m ≡ b) ⊎ (m ≡ a)
larger a b m is = elim (cases_lt a b) [
  | inl less ↦ inl (omega (arith, is, less))
  | inr not_less ↦ inr (omega (arith, is, not_less))
]

-- one name more
pub reached_more : (names : List (List ℕ)) (bound more place level size top : ℕ) (text : List ℕ) → Reached names bound place
    → place < length names → level ≡ (if nat_lt place (length names) then place else top)
    → text ≡ get_or names (level_in (length names) level) [] → size ≡ length text → more ≡ max size bound → Reached names more (place + 1)
reached_more names bound more place level size top text before small l t s is = elim (larger size bound more is) [
  | inl same ↦ elim before [
    | inl number ↦ inl (same ∙ number)
    | inr w ↦ inr (w.0, omega (arith, w.1), w.2 ∙ sym same)
  ]
  | inr grown ↦
      let here : level ≡ place = grind (arith, nat_tests) in
      let own : text ≡ name_at names place = t ∙ ap (λ (j : ℕ). get_or names (level_in (length names) j) []) here
      ∙ ap (λ (j : ℕ). get_or names j []) (level_in_same (length names) place small) in
      inr (place, omega arith, sym (grown ∙ s ∙ ap length own))
]

-- the largest number has 20 digits, and no level has it for a code
abbrev pub largest : ℕ
largest = 18446744073709551615

largest_digits : length (decimal largest) ≡ 20
unfolding digits
largest_digits = refl

signs_and_digits : length (level_text None largest) ≡ 21
unfolding digits
signs_and_digits = refl

-- a tag whose level has a text of this size
pub record Longest (ls : Levels) (size : ℕ) : Type 0 where
  pub tag : ℕ
  pub small : tag < 2 ^ 64
  pub text : length (level_text (option_map (name_at ls.names) (level_coded ls tag)) tag) ≡ size

text_size : (ls : Levels) (tag : ℕ) (o : Option ℕ) → o ≡ level_coded ls tag
    → length (level_text (option_map (name_at ls.names) (level_coded ls tag)) tag) ≡ length (level_text (option_map (name_at ls.names) o) tag)
text_size ls tag o is = ap (λ (p : Option ℕ). length (level_text (option_map (name_at ls.names) p) tag)) (sym is)

small_code : (ls : Levels) → Codes (order_of ls) → IsNarrow (order_of ls) → length ls.names ≤ 64 → (x : ℕ) → code_of (order_of ls) x < largest
unfolding order_of order_by
small_code ls codes narrow few x =
    let width : width_of (order_of ls) < length ls.names = narrow.few in
    let below : 2 ^ width_of (order_of ls) < 2 ^ 64 = pow_below (width_of (order_of ls)) 64 (omega arith) in
    let code = codes.small x in
    omega arith

pub longest : (ls : Levels) (size : ℕ) → Codes (order_of ls) → IsNarrow (order_of ls) → length ls.names ≤ 64 → Reached ls.names size (length ls.names) → Longest ls size
unfolding order_of order_by
longest ls size codes narrow few (inl number) =
    let none : None ≡ level_coded ls largest
    = level_found (code_of (order_of ls)) (length ls.names) largest None codes.apart (λ x _ same. let below = small_code ls codes narrow few x in omega (arith, below, same)) in
    record { tag = largest; small = omega arith; text = text_size ls largest None none ∙ signs_and_digits ∙ sym number }
longest ls size codes narrow few (inr w) =
    let some : Some w.0 ≡ level_coded ls (code_of (order_of ls) w.0)
    = level_found (code_of (order_of ls)) (length ls.names) (code_of (order_of ls) w.0) (Some w.0) codes.apart (w.1, refl) in
    let below = small_code ls codes narrow few w.0 in
    record { tag = code_of (order_of ls) w.0; small = omega (arith, below); text = text_size ls (code_of (order_of ls) w.0) (Some w.0) some ∙ w.2 }

-- the same number for each of some names
abbrev for_each : ℕ → List (List ℕ) → List ℕ
for_each n [] = []
for_each n (name ∷ names) = n ∷ for_each n names

each_small : (n : ℕ) (names : List (List ℕ)) → n < 2 ^ 64 → All (λ v. v < 2 ^ 64) (for_each n names)
each_small n [] small = All-nil (λ v. v < 2 ^ 64)
each_small n (name ∷ names) small = All-cons (λ v. v < 2 ^ 64) n (for_each n names) small (each_small n names small)

shown_size : (ls : Levels) (size value tag : ℕ) (name : List ℕ) → length (decimal value) ≡ 20 → length (level_text (option_map (name_at ls.names) (level_coded ls tag)) tag) ≡ size
    → length (shown_text (shown ls name value tag)) ≡ length name + size + 23
shown_size ls size value tag name d l = simp length-append (omega (arith, d, l))

all_size : (ls : Levels) (size value tag : ℕ) (names : List (List ℕ)) → length (decimal value) ≡ 20
    → length (level_text (option_map (name_at ls.names) (level_coded ls tag)) tag) ≡ size
    → length (all_shown (shown_of ls names (for_each value names) (for_each tag names))) ≡ taken size names + 1
all_size ls size value tag [] d l = refl
all_size ls size value tag (name ∷ names) d l =
    let here = shown_size ls size value tag name d l in
    let rest = all_size ls size value tag names d l in
    let whole : length (shown_text (shown ls name value tag) ++ all_shown (shown_of ls names (for_each value names) (for_each tag names)))
    ≡ length (shown_text (shown ls name value tag)) + length (all_shown (shown_of ls names (for_each value names) (for_each tag names)))
    = length-append (shown_text (shown ls name value tag)) (all_shown (shown_of ls names (for_each value names) (for_each tag names))) in
    omega arith

-- what holds any row holds that of the largest numbers and the longest levels
pub no_less : (ls : Levels) (size : ℕ) (names : List (List ℕ)) (room : ℕ) → Longest ls size → HoldsRows ls names room → 28 + taken size names ≤ room
no_less ls size names room most holds =
    let rows = all_size ls size largest most.tag names largest_digits most.text in
    let row = holds (for_each largest names) (for_each most.tag names) (each_small largest names (omega arith)) (each_small most.tag names most.small) in
    omega arith
