-- Orders of the numbers below n, as tests.
use Rattle.std.specs.Prelude.{◌≡◌, ◌<◌, ℕ, Bool, true}
use Rattle.sap_lattice.specs.Levels.{level_in, is_join, is_least}

-- `le` is an order of the numbers below n, and takes any other number for 0.
pub record IsOrder (n : ℕ) (le : ℕ → ℕ → Bool) : Type 0 where
  pub some : 0 < n
  pub clamped : (x y : ℕ) → le x y ≡ le (level_in n x) (level_in n y)
  pub self : (x : ℕ) → x < n → le x x ≡ true
  pub trans : (x y z : ℕ) → x < n → y < n → z < n → le x y ≡ true → le y z ≡ true → le x z ≡ true
  pub apart : (x y : ℕ) → x < n → y < n → le x y ≡ true → le y x ≡ true → x ≡ y

-- And any two have a join, and one is below all.
pub record HasJoins (n : ℕ) (le : ℕ → ℕ → Bool) : Type 0 where
  pub order : IsOrder n le
  pub join : (x y : ℕ) → x < n → y < n → (j : ℕ) × (j < n) × (is_join n le x y j ≡ true)
  pub least : (b : ℕ) × (b < n) × (is_least n le b ≡ true)
