-- The order of the lattice, by its tables.
use Rattle.std.proofs.Common.{◌≡◌, ℕ, zero, suc, Bool, true, false, ◌<◌, refl, sym, ap, subst, arith, [], get_or, lit<}
use Rattle.std.specs.Prelude.{nat_lt, not, ◌&&◌, ◌||◌}
use Rattle.std.proofs.Math.Path.{fun_ext}
use Rattle.std.proofs.lemmas.Bool.{false≢true}
use Rattle.std.proofs.lemmas.Grind.{common_steps}
use Rattle.sap_lattice.specs.Prelude.{Order, Laws, is_below, first, every, level_in, order_by, order_of, diamond, table}
use Rattle.sap_lattice.proofs.Numbers.{every_at}
use Rattle.sap_lattice.proofs.Orders.{level_in_below}
use Rattle.sap_machine.proofs.Literal.{joins, diamond_order}

-- the levels of the lattice
levels : (f : ℕ → Type 0) → f 0 → f 1 → f 2 → f 3 → (x : ℕ) → f (level_in 4 x)
levels f h0 h1 h2 h3 zero = h0
levels f h0 h1 h2 h3 (suc zero) = h1
levels f h0 h1 h2 h3 (suc (suc zero)) = h2
levels f h0 h1 h2 h3 (suc (suc (suc zero))) = h3
levels f h0 h1 h2 h3 (suc (suc (suc (suc x)))) = let e : nat_lt (suc (suc (suc (suc x)))) 4 ≡ false = grind (arith, common_steps) in rw e h0

-- at or below, between a level and a number
abbrev under : ℕ → ℕ → Bool
under a y = is_below table a (level_in 4 y)

-- the join of two levels, and its place in the table
abbrev join_of : (a b : ℕ) → ℕ
join_of a b = first 4 (λ j. (under a j && under b j) && every 4 (λ u. not (under a u && under b u) || under (level_in 4 j) u))

abbrev listed_join : (a b : ℕ) → ℕ
listed_join a b = get_or (get_or joins a []) b 0

join_is : (x y : ℕ) → join_of (level_in 4 x) (level_in 4 y) ≡ listed_join (level_in 4 x) (level_in 4 y)
join_is x y = levels (λ a. join_of a (level_in 4 y) ≡ listed_join a (level_in 4 y))
    (levels (λ b. join_of 0 b ≡ listed_join 0 b) refl refl refl refl y) (levels (λ b. join_of 1 b ≡ listed_join 1 b) refl refl refl refl y)
    (levels (λ b. join_of 2 b ≡ listed_join 2 b) refl refl refl refl y) (levels (λ b. join_of 3 b ≡ listed_join 3 b) refl refl refl refl y) x

pub order_is : order_of diamond ≡ diamond_order
unfolding diamond order_of order_by
order_is = ap with_join (fun_ext (λ x. fun_ext (λ y. join_is x y)))
  where
    with_join : (ℕ → ℕ → ℕ) → Order
    with_join join = record { count = 4; le = diamond_order.le; join = join; bottom = 0; top = 3 }

-- The laws of the order, each tested for all levels.

level_below : (x : ℕ) → level_in 4 x < 4
level_below x = level_in_below 4 x (lit< tt)

at_two : (test : ℕ → ℕ → Bool) → every 4 (λ a. every 4 (λ b. test a b)) ≡ true → (x y : ℕ) → test (level_in 4 x) (level_in 4 y) ≡ true
at_two test all x y = every_at (test (level_in 4 x)) 4 (every_at (λ a. every 4 (test a)) 4 all (level_in 4 x) (level_below x)) (level_in 4 y) (level_below y)

at_three : (test : ℕ → ℕ → ℕ → Bool) → every 4 (λ a. every 4 (λ b. every 4 (λ c. test a b c))) ≡ true → (x y z : ℕ) → test (level_in 4 x) (level_in 4 y) (level_in 4 z) ≡ true
at_three test all x y z = at_two (test (level_in 4 x)) (every_at (λ a. every 4 (λ b. every 4 (test a b))) 4 all (level_in 4 x) (level_below x)) y z

follows : (p q r : Bool) → (not (p && q) || r) ≡ true → p ≡ true → q ≡ true → r ≡ true
follows true true r h a b = h
follows true false r h a b = absurd (false≢true b)
follows false q r h a b = absurd (false≢true a)

pub lawful : Laws diamond_order
lawful = record {
  least_of_all = λ x. every_at (λ a. is_below table 0 a) 4 refl (level_in 4 x) (level_below x);
  self = λ x. every_at (λ a. is_below table a a) 4 refl (level_in 4 x) (level_below x);
  trans = λ x y z.
      follows (is_below table (level_in 4 x) (level_in 4 y)) (is_below table (level_in 4 y) (level_in 4 z)) (is_below table (level_in 4 x) (level_in 4 z))
      (at_three (λ a b c. not (is_below table a b && is_below table b c) || is_below table a c) refl x y z);
  left = λ x y. at_two (λ a b. is_below table a (level_in 4 (listed_join a b))) refl x y;
  right = λ x y. at_two (λ a b. is_below table b (level_in 4 (listed_join a b))) refl x y;
  least = λ x y z.
      follows (is_below table (level_in 4 x) (level_in 4 z)) (is_below table (level_in 4 y) (level_in 4 z))
      (is_below table (level_in 4 (listed_join (level_in 4 x) (level_in 4 y))) (level_in 4 z))
      (at_three (λ a b c. not (is_below table a c && is_below table b c) || is_below table (level_in 4 (listed_join a b)) c) refl x y z);
  greatest_of_all = λ x. every_at (λ a. is_below table a 3) 4 refl (level_in 4 x) (level_below x);
  bottom_is_level = lit< tt;
  top_is_level = lit< tt;
  join_is_level = λ x y. levels (λ a. listed_join a (level_in 4 y) < 4)
      (levels (λ b. listed_join 0 b < 4) (lit< tt) (lit< tt) (lit< tt) (lit< tt) y) (levels (λ b. listed_join 1 b < 4) (lit< tt) (lit< tt) (lit< tt) (lit< tt) y)
      (levels (λ b. listed_join 2 b < 4) (lit< tt) (lit< tt) (lit< tt) (lit< tt) y) (levels (λ b. listed_join 3 b < 4) (lit< tt) (lit< tt) (lit< tt) (lit< tt) y) x;
}

pub lattice_lawful : Laws (order_of diamond)
lattice_lawful = subst (λ o. Laws o) (sym order_is) lawful
