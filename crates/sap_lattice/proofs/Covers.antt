-- In a finite lattice a level that is not below another is told from it by a meet-irreducible.
use Rattle.std.proofs.Common.{◌≡◌, ℕ, zero, suc, ◌<◌, ◌≤◌, ◌≢◌, Bool, true, false, not, ◌&&◌, length, sym, ap, ◌∙◌, subst, inl, inr, arith}
use Rattle.std.specs.Prelude.{filter, ◌==◌}
use Rattle.std.specs.List.{list_any}
use Rattle.std.proofs.lemmas.Bool.{and_parts, and_from, cases_Bool, cases_eq, both_ways, not_from_false, not-true, ne_eqb, eq-eqb, eqb-false, true_from_ne_false}
use Rattle.sap_lattice.specs.Order.{Order, Laws}
use Rattle.sap_lattice.specs.Levels.{numbers}
use Rattle.sap_lattice.specs.Codes.{is_strictly_below, is_upper_cover, is_meet_irreducible}
use Rattle.sap_lattice.proofs.Numbers.{any_from, none_from, filter_one}

-- o is a lattice: lawful, and no two levels are each below the other
pub record IsLatticeOrder (o : Order) : Type 0 where
  pub laws : Laws o
  pub apart : (x y : ℕ) → x < o.count → y < o.count → o.le x y ≡ true → o.le y x ≡ true → x ≡ y

strictly_parts : (o : Order) (x y : ℕ) → is_strictly_below o x y ≡ true → (o.le x y ≡ true) × (x ≢ y)
strictly_parts o x y h =
    let parts = and_parts (o.le x y) (not (x == y)) h in
    (parts.0, eqb-false x y (not-true (x == y) parts.1))

strictly_from : (o : Order) (x y : ℕ) → o.le x y ≡ true → x ≢ y → is_strictly_below o x y ≡ true
strictly_from o x y h ne = and_from (o.le x y) (not (x == y)) h (not_from_false (x == y) (ne_eqb x y ne))

-- of the levels that pass a test, one that has none of the first k above it
pub record IsHighest (o : Order) (test : ℕ → Bool) (k m : ℕ) : Type 0 where
  pub level : m < o.count
  pub passes : test m ≡ true
  pub highest : (z : ℕ) → z < k → test z ≡ true → o.le m z ≡ true → z ≡ m

module _ (o : Order) (is : IsLatticeOrder o) where
  highest_to : (test : ℕ → Bool) (y k : ℕ) → y < o.count → test y ≡ true → k ≤ o.count → (m : ℕ) × IsHighest o test k m
  highest_to test y zero low h high = (y, record { level = low; passes = h; highest = λ z u. absurd (omega arith) })
  highest_to test y (suc k) low h high =
      let (m, before) = highest_to test y k low h (omega arith) in
      elim (cases_Bool (test k && o.le m k)) [
        | inl e ↦
            let parts = and_parts (test k) (o.le m k) e in (
              k,
              record {
                level = omega arith;
                passes = parts.0;
                highest = λ z u t up.
                    elim (cases_eq z k) [
                      | inl same ↦ same
                      | inr ne ↦
                          let z_is : z ≡ m = before.highest z (omega arith) t (is.laws.trans m k z parts.1 up) in
                          let back : o.le k m ≡ true = subst (λ v. o.le k v ≡ true) z_is up in
                          z_is ∙ is.apart m k before.level (omega arith) parts.1 back
                    ];
              },
            )
        | inr e ↦ (
          m,
          record {
            level = before.level;
            passes = before.passes;
            highest = λ z u t up.
                elim (cases_eq z k) [
                  | inl same ↦
                      absurd (both_ways (test k && o.le m k) e (and_from (test k) (o.le m k) (subst (λ v. test v ≡ true) same t) (subst (λ v. o.le m v ≡ true) same up)))
                  | inr ne ↦ before.highest z (omega arith) t up
                ];
          },
        )
      ]

  -- a highest level above y and not above x is meet-irreducible
  module _ (x y m : ℕ) (top : IsHighest o (λ z. o.le y z && not (o.le x z)) o.count m) where
    above : (o.le y m ≡ true) × (o.le x m ≡ false)
    above = let parts = and_parts (o.le y m) (not (o.le x m)) top.passes in (parts.0, not-true (o.le x m) parts.1)

    -- what is strictly above it is above x too
    higher : (z : ℕ) → z < o.count → o.le m z ≡ true → m ≢ z → o.le (o.join m x) z ≡ true
    higher z low up ne =
        is.laws.least m x z up
        (true_from_ne_false (o.le x z) (λ e.
        ne (sym (top.highest z low (and_from (o.le y z) (not (o.le x z)) (is.laws.trans y m z above.0 up) (not_from_false (o.le x z) e)) up))))

    cover : ℕ
    cover = o.join m x

    cover_apart : m ≢ cover
    unfolding cover
    cover_apart e = both_ways (o.le x m) above.1 (subst (λ v. o.le x v ≡ true) (sym e) (is.laws.right m x))

    is_cover : is_upper_cover o m cover ≡ true
    unfolding cover
    is_cover =
        let between : ℕ → Bool = λ z. is_strictly_below o m z && is_strictly_below o z cover in
        and_from (is_strictly_below o m cover) (not (list_any between (numbers o.count)))
        (strictly_from o m cover (is.laws.left m x) cover_apart)
        (not_from_false (list_any between (numbers o.count))
        (none_from between o.count (λ z low t.
        let parts = and_parts (is_strictly_below o m z) (is_strictly_below o z cover) t in
        let below = strictly_parts o m z parts.0 in
        let above' = strictly_parts o z cover parts.1 in
        above'.1 (is.apart z cover low (is.laws.join_is_level m x) above'.0 (higher z low below.0 below.1)))))

    only_cover : (z : ℕ) → z < o.count → is_upper_cover o m z ≡ true → z ≡ cover
    unfolding cover
    only_cover z low t =
        let between : ℕ → Bool = λ v. is_strictly_below o m v && is_strictly_below o v z in
        let parts = and_parts (is_strictly_below o m z) (not (list_any between (numbers o.count))) t in
        let below = strictly_parts o m z parts.0 in
        elim (cases_eq z cover) [
          | inl same ↦ same
          | inr ne ↦
              absurd (both_ways (list_any between (numbers o.count)) (not-true (list_any between (numbers o.count)) parts.1)
              (any_from between o.count cover (is.laws.join_is_level m x)
              (and_from (is_strictly_below o m cover) (is_strictly_below o cover z)
              (strictly_from o m cover (is.laws.left m x) cover_apart)
              (strictly_from o cover z (higher z low below.0 below.1) (λ e. ne (sym e))))))
        ]

    irreducible : is_meet_irreducible o m ≡ true
    unfolding cover
    irreducible =
        and_from (not (m == o.top)) (length (filter (is_upper_cover o m) (numbers o.count)) == 1)
        (not_from_false (m == o.top) (ne_eqb m o.top (λ e.
        both_ways (o.le x m) above.1 (subst (λ v. o.le x v ≡ true) (sym e) (is.laws.greatest_of_all x)))))
        (eq-eqb _ 1 (ap length (filter_one (is_upper_cover o m) o.count cover (is.laws.join_is_level m x) is_cover only_cover)))

  -- what tells x from y
  pub told : (x y : ℕ) → y < o.count → o.le x y ≡ false → (m : ℕ) × (m < o.count) × (is_meet_irreducible o m ≡ true) × (o.le y m ≡ true) × (o.le x m ≡ false)
  told x y low h =
      let test : ℕ → Bool = λ z. o.le y z && not (o.le x z) in
      let (m, top) = highest_to test y o.count low (and_from (o.le y y) (not (o.le x y)) (is.laws.self y) (not_from_false (o.le x y) h)) (omega arith) in
      let sides = above x y m top in
      (m, top.level, irreducible x y m top, sides.0, sides.1)
