-- A test that is an order of n levels with joins and a least level is lawful.
use Rattle.std.proofs.Common.{◌≡◌, ℕ, zero, suc, ◌<◌, ◌≤◌, Bool, true, not, ◌||◌, ltb, sym, ap, ◌∙◌, subst, inl, inr, arith}
use Rattle.std.proofs.lemmas.Bool.{and_parts, and_from, cases_Bool, cases_lt, cases_eq, cond-true, cond-false, both_ways, or_left, or_right, or_cases, lt-ltb, le-ltb, not_from_true, not_from_false}
use Rattle.sap_lattice.proofs.LevelsLemmas.{level_in_same}
use Rattle.sap_lattice.specs.Order.{Laws}
use Rattle.sap_lattice.specs.Levels.{every, first, is_upper_bound, is_join, is_least, is_greatest, order_by, level_in}
use Rattle.sap_lattice.proofs.Numbers.{every_at, every_from, first_passes, first_below}
use Rattle.sap_lattice.specs.Finite.{HasJoins}

pub level_in_below : (n x : ℕ) → 0 < n → level_in n x < n
level_in_below n x some =
    elim (cases_lt x n) [
      | inl h ↦ subst (λ y. y < n) (sym (cond-true (ltb x n) x 0 (lt-ltb x n h))) h
      | inr h ↦ subst (λ y. y < n) (sym (cond-false (ltb x n) x 0 (le-ltb x n h))) some
    ]

-- what it says that j is a join
pub record Joins (n : ℕ) (le : ℕ → ℕ → Bool) (x y j : ℕ) : Type 0 where
  pub left : le x j ≡ true
  pub right : le y j ≡ true
  pub least : (u : ℕ) → u < n → le x u ≡ true → le y u ≡ true → le j u ≡ true

pub joins_at : (n : ℕ) (le : ℕ → ℕ → Bool) (x y j : ℕ) → is_join n le x y j ≡ true → Joins n le x y j
joins_at n le x y j h =
    let test : ℕ → Bool = λ u. not (is_upper_bound le x y u) || le j u in
    let parts = and_parts (is_upper_bound le x y j) (every n test) h in
    let sides = and_parts (le x j) (le y j) parts.0 in
    record {
      left = sides.0;
      right = sides.1;
      least = λ u high a b.
          elim (or_cases (not (is_upper_bound le x y u)) (le j u) (every_at test n parts.1 u high)) [
            | inl e ↦ absurd (both_ways _ (not_from_true (is_upper_bound le x y u) (and_from (le x u) (le y u) a b)) e)
            | inr e ↦ e
          ];
    }

pub joins_from : (n : ℕ) (le : ℕ → ℕ → Bool) (x y j : ℕ) → Joins n le x y j → is_join n le x y j ≡ true
joins_from n le x y j h =
    let test : ℕ → Bool = λ u. not (is_upper_bound le x y u) || le j u in
    and_from (is_upper_bound le x y j) (every n test) (and_from (le x j) (le y j) h.left h.right)
    (every_from test n (λ u high.
    elim (cases_Bool (is_upper_bound le x y u)) [
      | inl e ↦
          let parts = and_parts (le x u) (le y u) e in
          or_right (not (is_upper_bound le x y u)) (le j u) (h.least u high parts.0 parts.1)
      | inr e ↦ or_left (not (is_upper_bound le x y u)) (le j u) (not_from_false (is_upper_bound le x y u) e)
    ]))

module _ (n : ℕ) (le : ℕ → ℕ → Bool) (has : HasJoins n le) where
  pub level : (x : ℕ) → level_in n x < n
  level x = level_in_below n x has.order.some

  -- a number is ordered as the level for which it counts
  pub at_left : (x u : ℕ) → u < n → le x u ≡ le (level_in n x) u
  at_left x u high = has.order.clamped x u ∙ ap (le (level_in n x)) (level_in_same n u high)

  pub at_right : (x u : ℕ) → u < n → le u x ≡ le u (level_in n x)
  at_right x u high = has.order.clamped u x ∙ ap (λ v. le v (level_in n x)) (level_in_same n u high)

  pub self : (x : ℕ) → le x x ≡ true
  self x = has.order.clamped x x ∙ has.order.self (level_in n x) (level x)

  pub trans : (x y z : ℕ) → le x y ≡ true → le y z ≡ true → le x z ≡ true
  trans x y z a b =
      has.order.clamped x z
      ∙ has.order.trans (level_in n x) (level_in n y) (level_in n z) (level x) (level y) (level z)
      (sym (has.order.clamped x y) ∙ a) (sym (has.order.clamped y z) ∙ b)

  to_level : (x : ℕ) → le x (level_in n x) ≡ true
  to_level x = at_left x (level_in n x) (level x) ∙ has.order.self (level_in n x) (level x)

  -- the join of any two numbers
  any_join : (x y : ℕ) → (j : ℕ) × (j < n) × (is_join n le x y j ≡ true)
  any_join x y =
      let r = has.join (level_in n x) (level_in n y) (level x) (level y) in
      let p = joins_at n le (level_in n x) (level_in n y) r.0 r.2 in (
        r.0,
        r.1,
        joins_from n le x y r.0 (record {
          left = at_left x r.0 r.1 ∙ p.left;
          right = at_left y r.0 r.1 ∙ p.right;
          least = λ u high a b. p.least u high (sym (at_left x u high) ∙ a) (sym (at_left y u high) ∙ b);
        }),
      )

  pub join_level : (x y : ℕ) → first n (is_join n le x y) < n
  join_level x y = let r = any_join x y in first_below (is_join n le x y) n r.0 r.1 r.2

  pub joined : (x y : ℕ) → Joins n le x y (first n (is_join n le x y))
  joined x y =
      let r = any_join x y in
      joins_at n le x y (first n (is_join n le x y)) (first_passes (is_join n le x y) n r.0 r.1 r.2)

  -- a level above the first k
  above_first : (k : ℕ) → k ≤ n → (t : ℕ) × (t < n) × ((x : ℕ) → x < k → le x t ≡ true)
  above_first zero high = (0, has.order.some, λ x h. absurd (omega arith))
  above_first (suc k) high =
      let r = above_first k (omega arith) in
      let j : ℕ = first n (is_join n le r.0 k) in
      let p = joined r.0 k in (
        j,
        join_level r.0 k,
        λ x h.
            elim (cases_eq x k) [
              | inl e ↦ subst (λ v. le v j ≡ true) (sym e) p.right
              | inr ne ↦ trans x r.0 j (r.2 x (omega arith)) p.left
            ],
      )

  greatest : (t : ℕ) × (t < n) × (is_greatest n le t ≡ true)
  greatest = let r = above_first n (omega arith) in (r.0, r.1, every_from (λ x. le x r.0) n r.2)

  pub lawful : Laws (order_by n le)
  unfolding order_by
  lawful =
      let b = has.least in
      let t = greatest in
      let bottom : ℕ = first n (is_least n le) in
      let top : ℕ = first n (is_greatest n le) in
      let bottom_low : bottom < n = first_below (is_least n le) n b.0 b.1 b.2 in
      let top_low : top < n = first_below (is_greatest n le) n t.0 t.1 t.2 in
      let bottom_is : every n (λ x. le bottom x) ≡ true = first_passes (is_least n le) n b.0 b.1 b.2 in
      let top_is : every n (λ x. le x top) ≡ true = first_passes (is_greatest n le) n t.0 t.1 t.2 in
      record {
        least_of_all = λ x. at_right x bottom bottom_low ∙ every_at (λ x. le bottom x) n bottom_is (level_in n x) (level x);
        self = self;
        trans = trans;
        left = λ x y. (joined x y).left;
        right = λ x y. (joined x y).right;
        least = λ x y z a b.
            let j : ℕ = first n (is_join n le x y) in
            at_right z j (join_level x y)
            ∙ (joined x y).least (level_in n z) (level z)
            (trans x z (level_in n z) a (to_level z)) (trans y z (level_in n z) b (to_level z));
        greatest_of_all = λ x. at_left x top top_low ∙ every_at (λ x. le x top) n top_is (level_in n x) (level x);
        bottom_is_level = bottom_low;
        top_is_level = top_low;
        join_is_level = join_level;
      }
