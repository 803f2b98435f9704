-- Numbers, their order and tests on them.
use Rattle.std.proofs.Common.{Bool, arith, eqb, false, ltb, nat_eq, nat_le, nat_lt, refl, suc, true, ℕ, ◌*◌, ◌+◌, ◌<◌, ◌==◌, ◌^◌, ◌≡◌, ◌≤◌}
use Rattle.std.proofs.lemmas.Bool.{eqb-true, lt-ltb}
use Rattle.std.proofs.lemmas.Bool.Decides.{Decides-eqb, nat_tests}
use Rattle.std.proofs.lemmas.Grind.{common_steps}
use Rattle.std.proofs.lemmas.Nat.{pow_below}

pub test_of_positive : (x : ℕ) → 0 < x → (x == 0) ≡ false
test_of_positive x h = grind (arith, nat_tests)

pub test_of_zero : (x : ℕ) → x ≡ 0 → (x == 0) ≡ true
test_of_zero x h = grind (arith, nat_tests)

pub test_of_equal : (a b : ℕ) → a ≡ b → (a == b) ≡ true
test_of_equal a b h = (Decides-eqb a b).1 h

pub positive_of_test : (x : ℕ) → (x == 0) ≡ false → 0 < x
positive_of_test x h = grind (arith, nat_tests)

pub test_of_same : (n : ℕ) → eqb n n ≡ true
test_of_same n = grind arith

pub test_symmetric : (a b : ℕ) → eqb a b ≡ eqb b a
test_symmetric a b = grind (arith, nat_tests)

pub less_test_of_positive : (n : ℕ) → 0 < n → nat_lt 0 n ≡ true
less_test_of_positive n h = lt-ltb 0 n h

pub less_of_tests : (x n : ℕ) → nat_le x n ≡ true → nat_eq x n ≡ false → nat_lt x n ≡ true
less_of_tests x n h e = grind (arith, common_steps)

pub one_more : (n : ℕ) → suc n ≡ n + 1
one_more n = omega arith

pub above_unequal : (u v : ℕ) → u ≤ v → (u == v) ≡ false → u + 1 ≤ v
above_unequal u v l q = grind (arith, nat_tests)

pub zero_of_test : (n : ℕ) → (n == 0) ≡ true → n ≡ 0
zero_of_test n h = eqb-true n 0 h

pub equal_of_test : (a b : ℕ) → (a == b) ≡ true → a ≡ b
equal_of_test a b h = eqb-true a b h

pub same_power : (b c : ℕ) → 2 ^ b ≡ 2 ^ c → b ≡ c
same_power b c e = by_order (ltb b c) (ltb c b) refl refl where
  by_order : (p q : Bool) → ltb b c ≡ p → ltb c b ≡ q → b ≡ c
  by_order true q h g = let less : b < c = grind (arith, nat_tests) in absurd (omega (arith, pow_below b c less))
  by_order false true h g = let less : c < b = grind (arith, nat_tests) in absurd (omega (arith, pow_below c b less))
  by_order false false h g = grind (arith, nat_tests)

pub le_product : (n base : ℕ) → 1 ≤ base → n ≤ n * base
le_product n base h = grind arith

pub below_unequal : (b k : ℕ) → b ≤ suc k → (b == suc k) ≡ false → b ≤ k
below_unequal b k l q = grind (arith, nat_tests)
