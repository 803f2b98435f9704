-- The laws of codes in a lattice.
use Rattle.std.proofs.Common.{◌≡◌, ℕ, ◌^◌, ◌<◌, ◌≢◌, true, false, not, ◌||◌, sym, ap, ◌∙◌, inl, inr}
use Rattle.std.specs.Prelude.{filter, bit_or, ◌==◌}
use Rattle.std.proofs.lemmas.Bool.{cases_Bool, both_ways, not_from_true, not_from_false, ne_eqb, eq-eqb, false_from_ne_true, or_left, or_right, or_from}
use Rattle.sap_lattice.specs.Order.{Order}
use Rattle.sap_lattice.specs.Levels.{numbers}
use Rattle.sap_lattice.specs.Codes.{is_meet_irreducible, meet_irreducibles, is_in_code, code_of, width_of, Codes}
use Rattle.sap_lattice.proofs.Binary.{number_of-or, number_of_small, number_of_none, same_number, same_members}
use Rattle.sap_lattice.proofs.Covers.{IsLatticeOrder, told}
use Rattle.std.specs.Int.Bits.{or_self}

module _ (o : Order) (is : IsLatticeOrder o) where
  -- what is below the join of two is below both
  join_below : (x y m : ℕ) → is_in_code o (o.join x y) m ≡ (is_in_code o x m || is_in_code o y m)
  join_below x y m =
      elim (cases_Bool (o.le x m)) [
        | inl a ↦
            elim (cases_Bool (o.le y m)) [
              | inl b ↦
                  not_from_true (o.le (o.join x y) m) (is.laws.least x y m a b)
                  ∙ sym (or_from (not (o.le x m)) (not (o.le y m)) (not_from_true (o.le x m) a) (not_from_true (o.le y m) b))
              | inr b ↦
                  not_from_false (o.le (o.join x y) m) (false_from_ne_true _ (λ e. both_ways (o.le y m) b (is.laws.trans y (o.join x y) m (is.laws.right x y) e)))
                  ∙ sym (or_right (not (o.le x m)) (not (o.le y m)) (not_from_false (o.le y m) b))
            ]
        | inr a ↦
            not_from_false (o.le (o.join x y) m) (false_from_ne_true _ (λ e. both_ways (o.le x m) a (is.laws.trans x (o.join x y) m (is.laws.left x y) e)))
            ∙ sym (or_left (not (o.le x m)) (not (o.le y m)) (not_from_false (o.le x m) a))
      ]

  joined : (x y : ℕ) → code_of o (o.join x y) ≡ bit_or (code_of o x) (code_of o y)
  unfolding code_of meet_irreducibles
  joined x y =
      same_number (is_meet_irreducible o) (is_in_code o (o.join x y)) (λ m. is_in_code o x m || is_in_code o y m) o.count (λ m low t. join_below x y m)
      ∙ number_of-or (is_in_code o x) (is_in_code o y) (filter (is_meet_irreducible o) (numbers o.count))

  -- where x is below y, the join has the code of y
  joined_below : (x y : ℕ) → o.le x y ≡ true → code_of o (o.join x y) ≡ code_of o y
  unfolding code_of meet_irreducibles
  joined_below x y h =
      same_number (is_meet_irreducible o) (is_in_code o (o.join x y)) (is_in_code o y) o.count (λ m low t.
      elim (cases_Bool (o.le y m)) [
        | inl b ↦ not_from_true (o.le (o.join x y) m) (is.laws.least x y m (is.laws.trans x y m h b) b) ∙ sym (not_from_true (o.le y m) b)
        | inr b ↦
            not_from_false (o.le (o.join x y) m) (false_from_ne_true _ (λ e. both_ways (o.le y m) b (is.laws.trans y (o.join x y) m (is.laws.right x y) e)))
            ∙ sym (not_from_false (o.le y m) b)
      ])

  -- where it is not, the join has another code
  joined_apart : (x y : ℕ) → o.le x y ≡ false → code_of o (o.join x y) ≢ code_of o y
  unfolding code_of meet_irreducibles
  joined_apart x y h e =
      let y' : ℕ = o.join y y in
      let back : o.le y' y ≡ true = is.laws.least y y y (is.laws.self y) (is.laws.self y) in
      let h' : o.le x y' ≡ false = false_from_ne_true _ (λ t. both_ways (o.le x y) h (is.laws.trans x y' y t back)) in
      let (m, low, t, above, apart) = told o is x y' (is.laws.join_is_level y y) h' in
      let same = same_members (is_meet_irreducible o) (is_in_code o (o.join x y)) (is_in_code o y) o.count e m low t in
      let below : o.le y m ≡ true = is.laws.trans y y' m (is.laws.left y y) above in
      let out : is_in_code o (o.join x y) m ≡ true = join_below x y m ∙ or_left (not (o.le x m)) (not (o.le y m)) (not_from_false (o.le x m) apart) in
      both_ways (is_in_code o y m) (not_from_true (o.le y m) below) (sym same ∙ out)

  within : (x y : ℕ) → (bit_or (code_of o x) (code_of o y) == code_of o y) ≡ o.le x y
  within x y =
      elim (cases_Bool (o.le x y)) [
        | inl h ↦ eq-eqb _ _ (sym (joined x y) ∙ joined_below x y h) ∙ sym h
        | inr h ↦ ne_eqb _ _ (λ e. joined_apart x y h (joined x y ∙ e)) ∙ sym h
      ]

  small : (x : ℕ) → code_of o x < 2 ^ width_of o
  unfolding code_of
  small x = number_of_small (is_in_code o x) (meet_irreducibles o)

  of_bottom : code_of o o.bottom ≡ 0
  unfolding code_of
  of_bottom = number_of_none (is_in_code o o.bottom) (meet_irreducibles o) (λ m. not_from_true (o.le o.bottom m) (is.laws.least_of_all m))

  below_same : (x y : ℕ) → code_of o x ≡ code_of o y → o.le x y ≡ true
  below_same x y e = sym (within x y) ∙ eq-eqb _ _ (ap (λ c. bit_or c (code_of o y)) e ∙ or_self (code_of o y))

  pub coded : Codes o
  coded = record {
    joined = joined;
    within = within;
    small = small;
    of_bottom = of_bottom;
    apart = λ x y a b e. is.apart x y a b (below_same x y e) (below_same y x (sym e));
  }
