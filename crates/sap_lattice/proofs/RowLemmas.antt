-- What the bits of rows tell.
use Rattle.std.proofs.Common.{◌≡◌, ℕ, zero, suc, ◌+◌, ◌^◌, ◌<◌, ◌≤◌, max, Bool, true, false, ◌&&◌, ◌||◌, ◌==◌, ltb, List, length, get_or, set, refl, sym, ap, ap₂, ◌∙◌, subst, inl, inr, ◌⊎◌, arith}
use Rattle.std.specs.Prelude.{bit_or}
use Rattle.std.specs.Int.{bit_at}
use Rattle.std.proofs.lemmas.Nat.Bits.{bit_at_or, bit_at-lt, bit_at-zero, bit_at-pow_same, bit_at-pow_other}
use Rattle.std.proofs.lemmas.Bool.{cases_Bool, cases_eq, cases_lt, cond-true, cond-false, ne_eqb, eq-eqb, or_left, or_right, or_from, and_left, and_parts, and_from, or_cases, lt-ltb, le-ltb}
use Rattle.std.proofs.lemmas.List.{get_or-set_same, get_or-set_other, get_or_past}
use Rattle.sap_lattice.proofs.LevelsLemmas.{level_in_same}
use Rattle.sap_lattice.specs.Rows.{holds, tells, passed, le_in, order_in, Reaches}
use Rattle.sap_lattice.specs.Levels.{order_by, level_in}
use Rattle.sap_lattice.proofs.Orders.{level_in_below}
use Rattle.sap_lattice.specs.Rows.Reaches.{along}

larger_test : (m n : ℕ) → m < 2 → n < 2 → (max m n == 1) ≡ ((m == 1) || (n == 1))
larger_test zero zero a b = refl
larger_test zero (suc zero) a b = refl
larger_test (suc zero) zero a b = refl
larger_test (suc zero) (suc zero) a b = refl
larger_test (suc (suc m)) n a b = absurd (omega arith)
larger_test m (suc (suc n)) a b = absurd (omega arith)

pub holds-or : (a b y : ℕ) → holds (bit_or a b) y ≡ (holds a y || holds b y)
unfolding holds
holds-or a b y = ap (λ n. n == 1) (bit_at_or a b y) ∙ larger_test (bit_at a y) (bit_at b y) (bit_at-lt a y) (bit_at-lt b y)

pub holds-single : (k y : ℕ) → holds (2 ^ k) y ≡ (y == k)
unfolding holds
holds-single k y =
    elim (cases_eq y k) [
      | inl e ↦ eq-eqb _ 1 (subst (λ v. bit_at (2 ^ k) v ≡ 1) (sym e) (bit_at-pow_same k)) ∙ sym (eq-eqb y k e)
      | inr ne ↦ ne_eqb _ 1 (λ e. let z = bit_at-pow_other k y ne in absurd (omega arith)) ∙ sym (ne_eqb y k ne)
    ]

pub holds-empty : (y : ℕ) → holds 0 y ≡ false
unfolding holds
holds-empty y = ap (λ n. n == 1) (bit_at-zero y)

-- a row that is no row of the list
pub tells_past : (rows : List ℕ) (x y : ℕ) → length rows ≤ x → tells rows x y ≡ false
unfolding tells
tells_past rows x y h = ap (λ r. holds r y) (get_or_past rows x 0 h) ∙ holds-empty y

or_false : (a b : Bool) → b ≡ false → (a || b) ≡ a
or_false true b e = refl
or_false false b e = e

eqb_comm : (x y : ℕ) → (y == x) ≡ (x == y)
eqb_comm x y =
    elim (cases_eq x y) [
      | inl e ↦ eq-eqb y x (sym e) ∙ sym (eq-eqb x y e)
      | inr ne ↦ ne_eqb y x (λ e. ne (sym e)) ∙ sym (ne_eqb x y ne)
    ]

tells_single : (rows : List ℕ) (x y : ℕ) → get_or rows x 0 ≡ 2 ^ x → tells rows x y ≡ (x == y)
unfolding tells
tells_single rows x y e = ap (λ r. holds r y) e ∙ holds-single x y ∙ eqb_comm x y

-- one more pair
pub tells-set : (rows : List ℕ) (x y u v : ℕ) → x < length rows → tells (set rows x (bit_or (get_or rows x 0) (2 ^ y))) u v ≡ (tells rows u v || (u == x && v == y))
unfolding tells
tells-set rows x y u v h =
    let row : ℕ = bit_or (get_or rows x 0) (2 ^ y) in
    elim (cases_eq u x) [
      | inl e ↦
          ap (λ r. holds r v) (subst (λ w. get_or (set rows x row) w 0 ≡ row) (sym e) (get_or-set_same rows x row 0 h))
          ∙ holds-or (get_or rows x 0) (2 ^ y) v
          ∙ ap₂ (λ (a b : Bool). a || b) (ap (λ w. holds (get_or rows w 0) v) (sym e)) (holds-single y v ∙ ap (λ t. t && v == y) (sym (eq-eqb u x e)))
      | inr ne ↦
          ap (λ r. holds r v) (get_or-set_other rows x u row 0 ne)
          ∙ sym (or_false _ _ (and_left (u == x) (v == y) (ne_eqb u x ne)))
    ]

passed_holds : (row next k y : ℕ) → holds (passed k next row) y ≡ (holds row y || (holds row k && holds next y))
passed_holds row next k y =
    elim (cases_Bool (holds row k)) [
      | inl e ↦
          ap (λ r. holds r y) (cond-true (holds row k) (bit_or row next) row e)
          ∙ holds-or row next y
          ∙ ap (λ t. holds row y || (t && holds next y)) (sym e)
      | inr e ↦
          ap (λ r. holds r y) (cond-false (holds row k) (bit_or row next) row e)
          ∙ sym (or_false (holds row y) (holds row k && holds next y) (and_left (holds row k) (holds next y) e))
    ]

-- rows that have passed through level k
tells_passed_inside : (old new : List ℕ) (k x y : ℕ) → get_or new x 0 ≡ passed k (get_or old k 0) (get_or old x 0)
    → tells new x y ≡ (tells old x y || (tells old x k && tells old k y))
unfolding tells
tells_passed_inside old new k x y row = ap (λ r. holds r y) row ∙ passed_holds (get_or old x 0) (get_or old k 0) k y

pub tells_passed : (old new : List ℕ) (k : ℕ) → length new ≡ length old
    → ((x : ℕ) → x < length old → get_or new x 0 ≡ passed k (get_or old k 0) (get_or old x 0)) → (x y : ℕ) → tells new x y ≡ (tells old x y || (tells old x k && tells old k y))
tells_passed old new k same rows x y =
    elim (cases_lt x (length old)) [
      | inl h ↦ tells_passed_inside old new k x y (rows x h)
      | inr h ↦ tells_past new x y (omega arith) ∙ sym (or_from _ _ (tells_past old x y h) (and_left _ _ (tells_past old x k h)))
    ]

-- each level alone
pub tells_equal : (rows : List ℕ) (n : ℕ) → length rows ≡ n → ((x : ℕ) → x < n → get_or rows x 0 ≡ 2 ^ x) → (x y : ℕ) → tells rows x y ≡ (ltb x n && x == y)
tells_equal rows n same single x y =
    elim (cases_lt x n) [
      | inl h ↦ tells_single rows x y (single x h) ∙ ap (λ t. t && x == y) (sym (lt-ltb x n h))
      | inr h ↦ tells_past rows x y (omega arith) ∙ sym (and_left (ltb x n) (x == y) (le-ltb x n h))
    ]

-- what the rows tell after they have passed through level k
module _ (old new : List ℕ) (k : ℕ) (passed_k : (x y : ℕ) → tells new x y ≡ (tells old x y || (tells old x k && tells old k y))) where
  new_cases : (x y : ℕ) → tells new x y ≡ true → (tells old x y ≡ true) ⊎ ((tells old x k ≡ true) × (tells old k y ≡ true))
  new_cases x y h =
      elim (or_cases (tells old x y) (tells old x k && tells old k y) (sym (passed_k x y) ∙ h)) [
        | inl e ↦ inl e
        | inr e ↦ inr (and_parts (tells old x k) (tells old k y) e)
      ]

  pub passed_kept : (x y : ℕ) → tells old x y ≡ true → tells new x y ≡ true
  passed_kept x y h = passed_k x y ∙ or_left (tells old x y) (tells old x k && tells old k y) h

  new_through : (x y : ℕ) → tells old x k ≡ true → tells old k y ≡ true → tells new x y ≡ true
  new_through x y a b = passed_k x y ∙ or_right (tells old x y) (tells old x k && tells old k y) (and_from (tells old x k) (tells old k y) a b)

  pub passed_reaches : (start : List ℕ) → ((x y : ℕ) → tells old x y ≡ true → Reaches start x y) → (x y : ℕ) → tells new x y ≡ true → Reaches start x y
  passed_reaches start only x y h =
      elim (new_cases x y h) [
        | inl e ↦ only x y e
        | inr e ↦ along (only x k e.0) (only k y e.1)
      ]

  -- to level k and from it nothing is new
  to_k : (x : ℕ) → tells new x k ≡ true → tells old x k ≡ true
  to_k x h = elim (new_cases x k h) [ inl e ↦ e | inr e ↦ e.0 ]

  from_k : (y : ℕ) → tells new k y ≡ true → tells old k y ≡ true
  from_k y h = elim (new_cases k y h) [ inl e ↦ e | inr e ↦ e.1 ]

  pub passed_through : ((m x y : ℕ) → m < k → tells old x m ≡ true → tells old m y ≡ true → tells old x y ≡ true) → (m x y : ℕ) → m < k + 1
      → tells new x m ≡ true → tells new m y ≡ true → tells new x y ≡ true
  passed_through before m x y low a b =
      elim (cases_eq m k) [
        | inl e ↦ new_through x y (to_k x (subst (λ v. tells new x v ≡ true) e a)) (from_k y (subst (λ v. tells new v y ≡ true) e b))
        | inr ne ↦
            let below : m < k = omega arith in
            elim (new_cases x m a) [
              | inl xm ↦
                  elim (new_cases m y b) [
                    | inl my ↦ passed_kept x y (before m x y below xm my)
                    | inr my ↦ new_through x y (before m x k below xm my.0) my.1
                  ]
              | inr xm ↦
                  elim (new_cases m y b) [
                    | inl my ↦ new_through x y xm.0 (before m k y below xm.1 my)
                    | inr my ↦ new_through x y xm.0 my.1
                  ]
            ]
      ]

-- the order that rows tell, at levels
pub order_in-le : (rows : List ℕ) (x y : ℕ) → x < length rows → y < length rows → (order_in rows).le x y ≡ tells rows x y
unfolding order_in order_by le_in
order_in-le rows x y a b = ap₂ (tells rows) (level_in_same (length rows) x a) (level_in_same (length rows) y b)

pub order_in-count : (rows : List ℕ) → (order_in rows).count ≡ length rows
unfolding order_in order_by
order_in-count rows = refl

-- a number that is no row is ordered as row 0
pub order_in-clamped : (rows : List ℕ) → 0 < length rows → (x y : ℕ) → (order_in rows).le x y ≡ (order_in rows).le (level_in (length rows) x) (level_in (length rows) y)
unfolding order_in order_by le_in
order_in-clamped rows some x y =
    let n : ℕ = length rows in
    ap₂ (tells rows) (sym (level_in_same n (level_in n x) (level_in_below n x some))) (sym (level_in_same n (level_in n y) (level_in_below n y some)))
