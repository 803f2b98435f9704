-- The rules on two levels, as tests on an order.
use Rattle.std.specs.Prelude.{◌≡◌, ◌<◌, ℕ, Bool, true, not, ◌&&◌}
use Rattle.std.specs.List.{list_any}
use Rattle.sap_lattice.specs.declared.order.PairRule.{PairRule}
use Rattle.sap_lattice.specs.declared.order.PairRule.TheVariants.{Apart, Joined}
use Rattle.sap_lattice.specs.Levels.{numbers, is_join}

-- Whether x and y break the rule in the order of n levels that le tells.
abbrev pub breaks : ℕ → (ℕ → ℕ → Bool) → PairRule → ℕ → ℕ → Bool
breaks n le Apart x y = le x y && le y x
breaks n le Joined x y = not (list_any (is_join n le x y) (numbers n))

-- `x` and y are levels, x the earlier, that break the rule.
pub record IsBroken (n : ℕ) (le : ℕ → ℕ → Bool) (rule : PairRule) (x y : ℕ) : Type 0 where
  pub apart : x < y
  pub level : y < n
  pub breaks_rule : breaks n le rule x y ≡ true
