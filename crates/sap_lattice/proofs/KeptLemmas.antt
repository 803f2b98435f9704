-- What the parts of a lattice say.
use Rattle.std.proofs.Common.{◌≡◌, ◌≢◌, ℕ, ◌<◌, ◌≤◌, Bool, not, ◌==◌, Option, Some, None, List, length, get_or, refl, sym, ap, ap₂, ◌∙◌, arith}
use Rattle.std.specs.Prelude.{MatchOption, position, map, bit_or}
use Rattle.std.proofs.lemmas.Bool.{eq-eqb, eqb-true, both_ways}
use Rattle.std.proofs.lemmas.List.FromFn.{length-map-range_with_len, get_or-map-range_with_len}
use Rattle.sap_lattice.proofs.LevelsLemmas.{level_in_same}
use Rattle.sap_lattice.specs.Order.{Laws}
use Rattle.sap_lattice.specs.Levels.{Levels, order_by, order_of, level_in, is_below}
use Rattle.sap_lattice.specs.Codes.{Codes, code_of, meet_irreducibles, number_of}
use Rattle.sap_lattice.specs.Kept.{IsKept}
use Rattle.sap_lattice.specs.declared.TheConstants.{MOST_LEVELS}
use Rattle.sap_lattice.proofs.NameLemmas.{position_cases}
use Rattle.sap_lattice.proofs.Orders.{level_in_below}
use mathlib.Core.Path.{fun_ext}

pub order_of-count : (l : Levels) → (order_of l).count ≡ length l.names
unfolding order_of order_by
order_of-count l = refl

-- a number that is no level is ordered as level 0
le_clamped : (l : Levels) → 0 < length l.names → (x m : ℕ) → (order_of l).le x m ≡ (order_of l).le (level_in (length l.names) x) m
unfolding order_of order_by
le_clamped l some x m =
    let n : ℕ = length l.names in
    ap (λ v. is_below l.table v (level_in n m)) (sym (level_in_same n (level_in n x) (level_in_below n x some)))

-- and has its code
pub code_clamped : (l : Levels) → 0 < length l.names → (x : ℕ) → code_of (order_of l) x ≡ code_of (order_of l) (level_in (length l.names) x)
unfolding code_of
code_clamped l some x =
    let f : (ℕ → Bool) → ℕ = λ le. number_of (map (λ m. not (le m)) (meet_irreducibles (order_of l))) in
    ap f (fun_ext (λ (m : ℕ). le_clamped l some x m))

module _ (l : Levels) (codes : List ℕ) (width bottom top : ℕ) (kept : IsKept l codes width bottom top) where
  pub codes_length : length codes ≡ length l.names
  codes_length = ap length kept.codes_are ∙ length-map-range_with_len (code_of (order_of l)) 0 (length l.names)

  pub some : 0 < length l.names
  some = let two = kept.lattice.names.before.at_least_two in omega arith

  pub few : length l.names ≤ MOST_LEVELS
  few = kept.lattice.names.before.not_too_many

  pub code_at : (x : ℕ) → x < length l.names → get_or codes x 0 ≡ code_of (order_of l) x
  code_at x low =
      ap (λ cs. get_or cs x 0) kept.codes_are ∙ get_or-map-range_with_len (code_of (order_of l)) 0 (length l.names) x x 0 low (omega arith)

  pub code_of_any : (x : ℕ) → get_or codes (level_in (length l.names) x) 0 ≡ code_of (order_of l) x
  code_of_any x = code_at (level_in (length l.names) x) (level_in_below (length l.names) x some) ∙ sym (code_clamped l some x)

  -- what a search for a code says
  pub code_cases : (code : ℕ) (r : Option ℕ) → r ≡ position (λ c. c == code) codes
      → MatchOption r ((x : ℕ) → x < (order_of l).count → code_of (order_of l) x ≢ code) (λ x. (x < (order_of l).count) × (code_of (order_of l) x ≡ code))
  code_cases code (Some x) h =
      let found = position_cases (λ c. c == code) codes 0 (Some x) h in
      let count = order_of-count l in
      let same = codes_length in
      (let low = found.0 in omega arith, sym (code_at x (let low = found.0 in omega arith)) ∙ eqb-true (get_or codes x 0) code found.1)
  code_cases code None h = λ x low e.
      let count = order_of-count l in
      let same = codes_length in
      both_ways (get_or codes x 0 == code) (position_cases (λ c. c == code) codes 0 None h x (omega arith))
      (eq-eqb (get_or codes x 0) code (code_at x (omega arith) ∙ e))

-- the level that has the code of a join is the join
pub join_found : (l : Levels) → Laws (order_of l) → Codes (order_of l) → (x y code : ℕ) (r : Option ℕ)
    → code ≡ bit_or (code_of (order_of l) x) (code_of (order_of l) y)
    → MatchOption r ((z : ℕ) → z < (order_of l).count → code_of (order_of l) z ≢ code) (λ z. (z < (order_of l).count)
    × (code_of (order_of l) z ≡ code)) → r ≡ Some ((order_of l).join x y)
join_found l laws codes x y code (Some z) code_is found =
    ap Some (codes.apart z ((order_of l).join x y) found.0 (laws.join_is_level x y) (found.1 ∙ code_is ∙ sym (codes.joined x y)))
join_found l laws codes x y code None code_is none =
    absurd (none ((order_of l).join x y) (laws.join_is_level x y) (codes.joined x y ∙ sym code_is))

-- a level is below another where its code is within the other's
pub le_by_codes : (l : Levels) → Codes (order_of l) → (x y a b : ℕ) → a ≡ code_of (order_of l) x → b ≡ code_of (order_of l) y → (bit_or a b == b) ≡ (order_of l).le x y
le_by_codes l codes x y a b a_is b_is = ap₂ (λ (m n : ℕ). bit_or m n == n) a_is b_is ∙ codes.within x y
