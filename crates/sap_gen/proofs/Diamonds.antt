-- The lattice of the generated run keeps the rules on lattices, and is that of its names and pairs.
use Rattle.sap_lemmas.proofs.Common.{◌≡◌, ℕ, zero, suc, ◌<◌, ◌≤◌, List, [], ◌∷◌, Bool, true, false, ◌||◌, Some, None, length, refl, sym, ap, ◌∙◌, subst, inl, inr, arith, lit<, lit≤, if◌then◌else◌, codes, find, not, slice_get, Contains, bytes_eq, both_ways, cases_lt, false≢true, not-true, get_or_from_slice_get, slice_get_past, iff_same, bytes_eq_same}
use Rattle.sap_lattice.proofs.LevelsLemmas.{level_in_same}
use mathlib.Core.Path.{fun_ext}
use Rattle.sap_lattice.specs.Prelude.{IsLatticeOf, Below, name_at, Levels, every, is_below, level_in, numbers, order_by, order_of, KeepsAll, KeepsNames, no_word, repeated, diamond, level_names, level_pairs, table}
use Rattle.sap_lattice.specs.declared.pair.Pair.{Pair}
use Rattle.sap_lattice.specs.Closure.{AtOrBelow}
use Rattle.sap_lattice.specs.Closure.AtOrBelow.{itself, given, through}
use Rattle.sap_lattice.specs.Levels.{is_least}
use Rattle.sap_lattice.specs.Pairs.{IsBroken, breaks}
use Rattle.sap_lattice.specs.Related.{TellsOrder}
use Rattle.sap_lattice.specs.Rows.{holds, le_in, order_in, tells}
use Rattle.sap_lattice.specs.Rules.{BadName, BadPair, KeepsPairs}
use Rattle.sap_lattice.specs.Rules.BadName.{keyword, too_long}
use Rattle.sap_lattice.specs.Rules.BadPair.{lower, upper}
use Rattle.sap_lattice.specs.declared.order.PairRule.{PairRule}
use Rattle.sap_lattice.specs.declared.order.PairRule.TheVariants.{Apart, Joined}
use Rattle.sap_lattice.specs.Diamond.{pair}
use Rattle.sap_text.specs.Names.{is_word, is_among, design_keywords}
use Rattle.sap_lattice.proofs.Judged.{is_lattice_of, keeps_all}
use Rattle.sap_lattice.proofs.Numbers.{every_at}
use Rattle.sap_lattice.proofs.Orders.{level_in_below}

-- the levels at or above each level, as the bits of a number
abbrev rows : List ℕ
rows = 15 ∷ 10 ∷ 12 ∷ 8 ∷ []

-- what is so of each of the four pairs
pair_cases : (P : Pair → Type 0) → P (pair (codes "low") (codes "a")) → P (pair (codes "low") (codes "b"))
    → P (pair (codes "a") (codes "high")) → P (pair (codes "b") (codes "high"))
    → (p : Pair) → Contains level_pairs p → P p
pair_cases P h0 h1 h2 h3 p (zero, l, e) = subst P e h0
pair_cases P h0 h1 h2 h3 p (suc zero, l, e) = subst P e h1
pair_cases P h0 h1 h2 h3 p (suc (suc zero), l, e) = subst P e h2
pair_cases P h0 h1 h2 h3 p (suc (suc (suc zero)), l, e) = subst P e h3
pair_cases P h0 h1 h2 h3 p (suc (suc (suc (suc k))), l, e) = absurd (omega arith)

low_a : AtOrBelow level_pairs (codes "low") (codes "a")
low_a = given (pair (codes "low") (codes "a")) (0, lit< tt, refl)

low_b : AtOrBelow level_pairs (codes "low") (codes "b")
low_b = given (pair (codes "low") (codes "b")) (1, lit< tt, refl)

a_high : AtOrBelow level_pairs (codes "a") (codes "high")
a_high = given (pair (codes "a") (codes "high")) (2, lit< tt, refl)

b_high : AtOrBelow level_pairs (codes "b") (codes "high")
b_high = given (pair (codes "b") (codes "high")) (3, lit< tt, refl)

-- a set of names that has the upper name of a pair where it has the lower one has all names above each that it has
kept_up : (up : List ℕ → Bool) → ((p : Pair) → Contains level_pairs p → up p.lower ≡ true → up p.upper ≡ true) → {x y : List ℕ}
    → AtOrBelow level_pairs x y → up x ≡ true → up y ≡ true
kept_up up closed itself h = h
kept_up up closed (given p c) h = closed p c h
kept_up up closed (through a b) h = kept_up up closed b (kept_up up closed a h)

abbrev from_a : List ℕ → Bool
from_a name = bytes_eq name (codes "a") || bytes_eq name (codes "high")

abbrev from_b : List ℕ → Bool
from_b name = bytes_eq name (codes "b") || bytes_eq name (codes "high")

abbrev from_high : List ℕ → Bool
from_high name = bytes_eq name (codes "high")

above_a : (x y : List ℕ) → AtOrBelow level_pairs x y → from_a x ≡ true → from_a y ≡ true
above_a x y b h = kept_up from_a (pair_cases (λ p. from_a p.lower ≡ true → from_a p.upper ≡ true) (λ e. refl) (λ e. e) (λ e. refl) (λ e. refl)) b h

above_b : (x y : List ℕ) → AtOrBelow level_pairs x y → from_b x ≡ true → from_b y ≡ true
above_b x y b h = kept_up from_b (pair_cases (λ p. from_b p.lower ≡ true → from_b p.upper ≡ true) (λ e. e) (λ e. refl) (λ e. refl) (λ e. refl)) b h

above_high : (x y : List ℕ) → AtOrBelow level_pairs x y → from_high x ≡ true → from_high y ≡ true
above_high x y b h = kept_up from_high (pair_cases (λ p. from_high p.lower ≡ true → from_high p.upper ≡ true) (λ e. e) (λ e. e) (λ e. refl) (λ e. refl)) b h

below_of : (x y : ℕ) → x < 4 → y < 4 → tells rows x y ≡ true → Below level_names level_pairs x y
unfolding tells holds
below_of zero zero a b h = itself
below_of zero (suc zero) a b h = low_a
below_of zero (suc (suc zero)) a b h = low_b
below_of zero (suc (suc (suc zero))) a b h = through low_a a_high
below_of zero (suc (suc (suc (suc y)))) a b h = absurd (omega arith)
below_of (suc zero) zero a b h = absurd (false≢true h)
below_of (suc zero) (suc zero) a b h = itself
below_of (suc zero) (suc (suc zero)) a b h = absurd (false≢true h)
below_of (suc zero) (suc (suc (suc zero))) a b h = a_high
below_of (suc zero) (suc (suc (suc (suc y)))) a b h = absurd (omega arith)
below_of (suc (suc zero)) zero a b h = absurd (false≢true h)
below_of (suc (suc zero)) (suc zero) a b h = absurd (false≢true h)
below_of (suc (suc zero)) (suc (suc zero)) a b h = itself
below_of (suc (suc zero)) (suc (suc (suc zero))) a b h = b_high
below_of (suc (suc zero)) (suc (suc (suc (suc y)))) a b h = absurd (omega arith)
below_of (suc (suc (suc zero))) zero a b h = absurd (false≢true h)
below_of (suc (suc (suc zero))) (suc zero) a b h = absurd (false≢true h)
below_of (suc (suc (suc zero))) (suc (suc zero)) a b h = absurd (false≢true h)
below_of (suc (suc (suc zero))) (suc (suc (suc zero))) a b h = itself
below_of (suc (suc (suc zero))) (suc (suc (suc (suc y)))) a b h = absurd (omega arith)
below_of (suc (suc (suc (suc x)))) y a b h = absurd (omega arith)

tells_of : (x y : ℕ) → x < 4 → y < 4 → Below level_names level_pairs x y → tells rows x y ≡ true
unfolding tells holds
tells_of zero zero a b h = refl
tells_of zero (suc zero) a b h = refl
tells_of zero (suc (suc zero)) a b h = refl
tells_of zero (suc (suc (suc zero))) a b h = refl
tells_of zero (suc (suc (suc (suc y)))) a b h = absurd (omega arith)
tells_of (suc zero) zero a b h = above_a (codes "a") (codes "low") h refl
tells_of (suc zero) (suc zero) a b h = refl
tells_of (suc zero) (suc (suc zero)) a b h = above_a (codes "a") (codes "b") h refl
tells_of (suc zero) (suc (suc (suc zero))) a b h = refl
tells_of (suc zero) (suc (suc (suc (suc y)))) a b h = absurd (omega arith)
tells_of (suc (suc zero)) zero a b h = above_b (codes "b") (codes "low") h refl
tells_of (suc (suc zero)) (suc zero) a b h = above_b (codes "b") (codes "a") h refl
tells_of (suc (suc zero)) (suc (suc zero)) a b h = refl
tells_of (suc (suc zero)) (suc (suc (suc zero))) a b h = refl
tells_of (suc (suc zero)) (suc (suc (suc (suc y)))) a b h = absurd (omega arith)
tells_of (suc (suc (suc zero))) zero a b h = above_high (codes "high") (codes "low") h refl
tells_of (suc (suc (suc zero))) (suc zero) a b h = above_high (codes "high") (codes "a") h refl
tells_of (suc (suc (suc zero))) (suc (suc zero)) a b h = above_high (codes "high") (codes "b") h refl
tells_of (suc (suc (suc zero))) (suc (suc (suc zero))) a b h = refl
tells_of (suc (suc (suc zero))) (suc (suc (suc (suc y)))) a b h = absurd (omega arith)
tells_of (suc (suc (suc (suc x)))) y a b h = absurd (omega arith)

told : TellsOrder level_names level_pairs rows
told = record { count = refl; order = λ x y a b. (below_of x y a b, tells_of x y a b) }

-- the rules on names

differ : (j k : ℕ) → j < k → k < 4 → bytes_eq (name_at level_names j) (name_at level_names k) ≡ false
differ j k a b =
    not-true _ (every_at (λ i. not (bytes_eq (name_at level_names i) (name_at level_names k))) k
    (every_at (λ m. every m (λ i. not (bytes_eq (name_at level_names i) (name_at level_names m)))) 4 refl k b) j a)

apart : (m n : List ℕ) → bytes_eq m n ≡ false → m ≡ n → ⊥
apart m n f e = both_ways (bytes_eq m n) f (ap (bytes_eq m) (sym e) ∙ bytes_eq_same m)

sound_name : (k : ℕ) → k < 4 → is_word (name_at level_names k) ≡ true → is_among (name_at level_names k) design_keywords ≡ false
    → length (name_at level_names k) ≤ 40 → ¬ BadName level_names k
sound_name k l w q s (no_word e) = both_ways _ e w
sound_name k l w q s (keyword e) = both_ways _ q e
sound_name k l w q s (too_long e) = omega arith
sound_name k l w q s (repeated j a e) = apart (name_at level_names j) (name_at level_names k) (differ j k a l) e

sound_names : (k : ℕ) → k < 4 → ¬ BadName level_names k
sound_names zero l = sound_name 0 l refl refl (lit≤ tt)
sound_names (suc zero) l = sound_name 1 l refl refl (lit≤ tt)
sound_names (suc (suc zero)) l = sound_name 2 l refl refl (lit≤ tt)
sound_names (suc (suc (suc zero))) l = sound_name 3 l refl refl (lit≤ tt)
sound_names (suc (suc (suc (suc k)))) l = absurd (omega arith)

keeps_names : KeepsNames level_names
keeps_names = record {
  before = record { at_least_two = lit≤ tt; not_too_many = lit≤ tt };
  named = λ k bad. sound_names k bad.0 bad.1;
}

-- the rule on pairs

pair_at : (P : Pair → Type 0) → P (pair (codes "low") (codes "a")) → P (pair (codes "low") (codes "b")) → P (pair (codes "a") (codes "high")) → P (pair (codes "b") (codes "high"))
    → (k : ℕ) (p : Pair) → slice_get level_pairs k ≡ Some p → P p
pair_at P h0 h1 h2 h3 k p e = elim (cases_lt k 4) [
  | inl l ↦ pair_cases P h0 h1 h2 h3 p (k, l, get_or_from_slice_get level_pairs k p p e)
  | inr g ↦ (let n : slice_get level_pairs k ≡ None = slice_get_past level_pairs k g in let q : None ≡ Some p = sym n ∙ e in absurd (cc))
]

known_pairs : (k : ℕ) → ¬ BadPair level_names level_pairs k
known_pairs k (lower p e unknown) = unknown (pair_at (λ p. Contains level_names p.lower) (0, lit< tt, refl) (0, lit< tt, refl) (1, lit< tt, refl) (2, lit< tt, refl) k p e)
known_pairs k (upper p e unknown) = unknown (pair_at (λ p. Contains level_names p.upper) (1, lit< tt, refl) (2, lit< tt, refl) (3, lit< tt, refl) (3, lit< tt, refl) k p e)

keeps_pairs : KeepsPairs level_names level_pairs
keeps_pairs = record { before = keeps_names; known = known_pairs }

-- the rules on two levels

not_broken : (rule : PairRule) → every 4 (λ y. every y (λ x. not (breaks 4 (order_in rows).le rule x y))) ≡ true → (x y : ℕ) → ¬ IsBroken (length rows) (order_in rows).le rule x y
not_broken rule all x y broken =
    both_ways (breaks 4 (order_in rows).le rule x y)
    (not-true _ (every_at (λ x. not (breaks 4 (order_in rows).le rule x y)) y
    (every_at (λ y. every y (λ x. not (breaks 4 (order_in rows).le rule x y))) 4 all y broken.level) x broken.apart))
    broken.breaks_rule

tested_apart : every 4 (λ y. every y (λ x. not (breaks 4 (order_in rows).le Apart x y))) ≡ true
unfolding order_in order_by le_in tells holds
tested_apart = refl

tested_joined : every 4 (λ y. every y (λ x. not (breaks 4 (order_in rows).le Joined x y))) ≡ true
unfolding order_in order_by le_in tells holds
tested_joined = refl

no_cycle : (x y : ℕ) → ¬ IsBroken (length rows) (order_in rows).le Apart x y
no_cycle = not_broken Apart tested_apart

all_joined : (x y : ℕ) → ¬ IsBroken (length rows) (order_in rows).le Joined x y
all_joined = not_broken Joined tested_joined

least_found : Some 0 ≡ find (is_least (length rows) (order_in rows).le) (numbers (length rows))
unfolding order_in order_by le_in tells holds
least_found = refl

pub keeps_rules : KeepsAll level_names level_pairs
keeps_rules = keeps_all level_names level_pairs rows told no_cycle all_joined 0 least_found keeps_pairs

-- the order of the table

agree : Bool → Bool → Bool
agree a b = if a then b else not b

agree_same : (a b : Bool) → agree a b ≡ true → a ≡ b
unfolding agree
agree_same true b h = sym h
agree_same false b h = sym (not-true b h)

tested_table : every 4 (λ u. every 4 (λ v. agree (is_below table u v) (tells rows u v))) ≡ true
unfolding tells holds agree
tested_table = refl

table_tells : (x y : ℕ) → x < 4 → y < 4 → is_below table x y ≡ tells rows x y
table_tells x y a b =
    agree_same (is_below table x y) (tells rows x y)
    (every_at (λ v. agree (is_below table x v) (tells rows x v)) 4 (every_at (λ u. every 4 (λ v. agree (is_below table u v) (tells rows u v))) 4 tested_table x a) y b)

some_levels : 0 < 4
some_levels = lit< tt

pub diamond_order : order_of diamond ≡ order_in rows
unfolding diamond order_of order_in order_by le_in
diamond_order =
    ap (λ (le : ℕ → ℕ → Bool). order_by 4 le)
    (fun_ext (λ (x : ℕ). fun_ext (λ (y : ℕ). table_tells (level_in 4 x) (level_in 4 y) (level_in_below 4 x some_levels) (level_in_below 4 y some_levels))))

pub diamond_names : diamond.names ≡ level_names
unfolding diamond
diamond_names = refl

pub diamond_is : IsLatticeOf level_names level_pairs diamond
diamond_is = is_lattice_of level_names level_pairs rows told no_cycle all_joined 0 least_found diamond keeps_rules diamond_names diamond_order

-- any lattice of these names and pairs has the same order

module _ (ls : Levels) (is : IsLatticeOf level_names level_pairs ls) where
  at_levels : (x y : ℕ) → x < 4 → y < 4 → (order_of ls).le x y ≡ tells rows x y
  at_levels x y a b =
      iff_same ((order_of ls).le x y) (tells rows x y) (λ h. tells_of x y a b ((is.order x y a b).0 h)) (λ h. (is.order x y a b).1 (below_of x y a b h))

  clamped : (n : ℕ) → length ls.names ≡ n → 0 < n → (x y : ℕ) → (order_of ls).le x y ≡ (order_of ls).le (level_in n x) (level_in n y)
  unfolding order_of order_by
  clamped n e some x y =
      subst
      (λ n. 0 < n → is_below ls.table (level_in (length ls.names) x) (level_in (length ls.names) y)
      ≡ is_below ls.table (level_in (length ls.names) (level_in n x)) (level_in (length ls.names) (level_in n y)))
      e
      (λ low. let m : ℕ = length ls.names in
      ap (λ v. is_below ls.table v (level_in m y)) (sym (level_in_same m (level_in m x) (level_in_below m x low)))
      ∙ ap (λ v. is_below ls.table (level_in m (level_in m x)) v) (sym (level_in_same m (level_in m y) (level_in_below m y low))))
      some

  le_same : (x y : ℕ) → (order_of ls).le x y ≡ le_in rows x y
  unfolding le_in
  le_same x y =
      clamped 4 (ap length is.same_names) some_levels x y
      ∙ at_levels (level_in 4 x) (level_in 4 y) (level_in_below 4 x some_levels) (level_in_below 4 y some_levels)

  by_parts : order_of ls ≡ order_by (length ls.names) (order_of ls).le
  unfolding order_of order_by
  by_parts = refl

  rows_order : order_of ls ≡ order_in rows
  unfolding order_in
  rows_order =
      by_parts ∙ ap (λ (n : ℕ). order_by n (order_of ls).le) (ap length is.same_names)
      ∙ ap (λ (le : ℕ → ℕ → Bool). order_by 4 le) (fun_ext (λ (x : ℕ). fun_ext (λ (y : ℕ). le_same x y)))

  pub same_order : order_of ls ≡ order_of diamond
  same_order = rows_order ∙ sym diamond_order

  pub same_level_names : ls.names ≡ diamond.names
  same_level_names = is.same_names ∙ sym diamond_names
