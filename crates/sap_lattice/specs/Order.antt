-- The order of levels as the labelled meaning sees it. A level is a number: its place in the lattice file, from 0.
use Rattle.std.specs.Prelude.{◌≡◌, ◌<◌, ℕ, Bool, true}

-- How many levels there are, which is at or below which, the join of two, the bottom and the top.
pub record Order : Type 0 where
  pub count : ℕ
  pub le : ℕ → ℕ → Bool
  pub join : ℕ → ℕ → ℕ
  pub bottom : ℕ
  pub top : ℕ

-- The laws, for all numbers: a number that is no level counts as level 0.
pub record Laws (o : Order) : Type 0 where
  pub least_of_all : (x : ℕ) → o.le o.bottom x ≡ true
  pub self : (x : ℕ) → o.le x x ≡ true
  pub trans : (x y z : ℕ) → o.le x y ≡ true → o.le y z ≡ true → o.le x z ≡ true
  pub left : (x y : ℕ) → o.le x (o.join x y) ≡ true
  pub right : (x y : ℕ) → o.le y (o.join x y) ≡ true
  pub least : (x y z : ℕ) → o.le x z ≡ true → o.le y z ≡ true → o.le (o.join x y) z ≡ true
  pub greatest_of_all : (x : ℕ) → o.le x o.top ≡ true
  pub bottom_is_level : o.bottom < o.count
  pub top_is_level : o.top < o.count
  pub join_is_level : (x y : ℕ) → o.join x y < o.count
