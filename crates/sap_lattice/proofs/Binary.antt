-- The number of a list of bits.
use Rattle.std.proofs.Common.{◌≡◌, ℕ, zero, suc, ◌+◌, ◌*◌, ◌^◌, ◌<◌, ◌≤◌, Bool, true, false, ◌||◌, cond, List, [], ◌∷◌, length, refl, sym, ap, ap₂, ◌∙◌, subst, inl, inr, arith}
use Rattle.std.specs.Prelude.{map, filter, bit_or}
use Rattle.std.specs.List.{range_with_len}
use Rattle.std.proofs.lemmas.Bool.{cases_Bool, cases_eq, cond-true, cond-false, both_ways}
use Rattle.std.proofs.lemmas.Nat.{or_block, one_shl}
use Rattle.std.specs.Int.Bits.{or_zero_r}
use Rattle.std.proofs.Math.Nat.{pow-suc, mul_assoc, mul_comm}
use Rattle.std.proofs.Common.{◌++◌, ◌%◌, add-zero, take, get_or}
use Rattle.std.proofs.lemmas.List.{take_more, length-take-le}
use Rattle.sap_lattice.specs.Codes.{number_of}
use Rattle.sap_lattice.specs.Levels.{numbers}

abbrev digit : Bool → ℕ
digit b = cond b 1 0

digit-or : (a b : Bool) → bit_or (digit a) (digit b) ≡ digit (a || b)
digit-or true true = refl
digit-or true false = refl
digit-or false b = refl

digit_small : (b : Bool) → digit b < 2 ^ 1
digit_small true = omega arith
digit_small false = omega arith

or_digits : (a b : Bool) (m n : ℕ) → bit_or (digit a + 2 * m) (digit b + 2 * n) ≡ digit (a || b) + 2 * bit_or m n
or_digits a b m n =
    let left : digit a + 2 * m ≡ m * 2 ^ 1 + digit a = omega arith in
    let right : digit b + 2 * n ≡ n * 2 ^ 1 + digit b = omega arith in
    let both = or_block 1 m n (digit a) (digit b) (digit_small a) (digit_small b) in
    let whole = ap₂ bit_or left right ∙ both in
    omega (arith, whole, digit-or a b)

-- a union of sets is the `or` of their numbers
pub number_of-or : {X : Type 0} (f g : X → Bool) (xs : List X) → number_of (map (λ x. f x || g x) xs) ≡ bit_or (number_of (map f xs)) (number_of (map g xs))
number_of-or f g [] = refl
number_of-or f g (x ∷ xs) =
    ap (λ n. digit (f x || g x) + 2 * n) (number_of-or f g xs) ∙ sym (or_digits (f x) (g x) (number_of (map f xs)) (number_of (map g xs)))

-- as many bits as the list has
pub number_of_small : {X : Type 0} (f : X → Bool) (xs : List X) → number_of (map f xs) < 2 ^ length xs
number_of_small f [] = omega arith
number_of_small f (x ∷ xs) =
    let below = number_of_small f xs in
    let small = digit_small (f x) in
    omega (arith, pow-suc 2 (length xs))

digits_apart : (a b : Bool) (m n : ℕ) → digit a + 2 * m ≡ digit b + 2 * n → (a ≡ b) × (m ≡ n)
digits_apart true true m n e = (refl, omega arith)
digits_apart false false m n e = (refl, omega arith)
digits_apart true false m n e = absurd (omega arith)
digits_apart false true m n e = absurd (omega arith)

-- the empty set is 0
pub number_of_none : {X : Type 0} (f : X → Bool) (xs : List X) → ((x : X) → f x ≡ false) → number_of (map f xs) ≡ 0
number_of_none f [] h = refl
number_of_none f (x ∷ xs) h =
    let e : digit (f x) ≡ 0 = ap digit (h x) in
    omega (arith, number_of_none f xs h)

-- sets of the numbers that pass a test: equal where they have the same members, and only there
module _ (test f g : ℕ → Bool) where
  kept : ℕ → ℕ → List ℕ
  kept a n = filter test (range_with_len a n)

  same_from : (a n : ℕ) → ((k : ℕ) → a ≤ k → k < a + n → test k ≡ true → f k ≡ g k) → number_of (map f (kept a n)) ≡ number_of (map g (kept a n))
  unfolding kept
  same_from a zero h = refl
  same_from a (suc n) h =
      let rest : List ℕ = filter test (range_with_len (a + 1) n) in
      let ih = same_from (a + 1) n (λ k l u t. h k (omega arith) (omega arith) t) in
      let P : List ℕ → Type 0 = λ ks. number_of (map f ks) ≡ number_of (map g ks) in
      elim (cases_Bool (test a)) [
        | inl e ↦
            subst P (sym (cond-true (test a) (a ∷ rest) rest e))
            (ap₂ (λ (b : Bool) (m : ℕ). digit b + 2 * m) (h a (omega arith) (omega arith) e) ih)
        | inr e ↦ subst P (sym (cond-false (test a) (a ∷ rest) rest e)) ih
      ]

  same_at : (a n : ℕ) → number_of (map f (kept a n)) ≡ number_of (map g (kept a n)) → (k : ℕ) → a ≤ k → k < a + n → test k ≡ true → f k ≡ g k
  unfolding kept
  same_at a zero h k l u t = absurd (omega arith)
  same_at a (suc n) h k l u t =
      let rest : List ℕ = filter test (range_with_len (a + 1) n) in
      let P : List ℕ → Type 0 = λ ks. number_of (map f ks) ≡ number_of (map g ks) in
      elim (cases_Bool (test a)) [
        | inl e ↦
            let parts = digits_apart (f a) (g a) (number_of (map f rest)) (number_of (map g rest)) (subst P (cond-true (test a) (a ∷ rest) rest e) h) in
            elim (cases_eq a k) [
              | inl same ↦ subst (λ v. f v ≡ g v) same parts.0
              | inr ne ↦ same_at (a + 1) n parts.1 k (omega arith) (omega arith) t
            ]
        | inr e ↦
            elim (cases_eq a k) [
              | inl same ↦ absurd (both_ways (test k) (subst (λ v. test v ≡ false) same e) t)
              | inr ne ↦ same_at (a + 1) n (subst P (cond-false (test a) (a ∷ rest) rest e) h) k (omega arith) (omega arith) t
            ]
      ]

  pub same_number : (n : ℕ) → ((k : ℕ) → k < n → test k ≡ true → f k ≡ g k) → number_of (map f (filter test (numbers n))) ≡ number_of (map g (filter test (numbers n)))
  unfolding kept
  same_number n h = same_from 0 n (λ k l u t. h k (omega arith) t)

  pub same_members : (n : ℕ) → number_of (map f (filter test (numbers n))) ≡ number_of (map g (filter test (numbers n))) → (k : ℕ) → k < n → test k ≡ true → f k ≡ g k
  unfolding kept
  same_members n h k u t = same_at 0 n h k (omega arith) (omega arith) t

-- one more element
number_of-append : {X : Type 0} (f : X → Bool) (xs : List X) (x : X) → number_of (map f (xs ++ x ∷ [])) ≡ number_of (map f xs) + digit (f x) * 2 ^ length xs
number_of-append f [] x = omega arith
number_of-append f (y ∷ ys) x =
    let ih = number_of-append f ys x in
    let power = pow-suc 2 (length ys) in
    let two : digit (f x) * 2 ^ suc (length ys) ≡ 2 * (digit (f x) * 2 ^ length ys) =
    ap (λ p. digit (f x) * p) power ∙ sym (mul_assoc (digit (f x)) (2 ^ length ys) 2) ∙ mul_comm (digit (f x) * 2 ^ length ys) 2 in
    omega (arith, ih, two)

or_above : (k a : ℕ) → a < 2 ^ k → bit_or a (2 ^ k) ≡ a + 2 ^ k
or_above k a h =
    let block = or_block k 0 1 a 0 h (omega arith) in
    ap₂ bit_or (let e : a ≡ 0 * 2 ^ k + a = omega arith in e) (let e : 2 ^ k ≡ 1 * 2 ^ k + 0 = omega arith in e)
    ∙ block
    ∙ (let right = or_zero_r a in omega (arith, right))

-- a set bit above the others
pub number_of-push_set : {X : Type 0} (f : X → Bool) (xs : List X) (x : X) → f x ≡ true → number_of (map f (xs ++ x ∷ [])) ≡ bit_or (number_of (map f xs)) (2 ^ length xs)
number_of-push_set f xs x h =
    let e : digit (f x) * 2 ^ length xs ≡ 2 ^ length xs = ap (λ b. digit b * 2 ^ length xs) h ∙ omega arith in
    number_of-append f xs x ∙ ap (λ n. number_of (map f xs) + n) e ∙ sym (or_above (length xs) (number_of (map f xs)) (number_of_small f xs))

pub number_of-push_clear : {X : Type 0} (f : X → Bool) (xs : List X) (x : X) → f x ≡ false → number_of (map f (xs ++ x ∷ [])) ≡ number_of (map f xs)
number_of-push_clear f xs x h =
    let e : digit (f x) * 2 ^ length xs ≡ 0 = ap (λ b. digit b * 2 ^ length xs) h ∙ omega arith in
    number_of-append f xs x ∙ ap (λ n. number_of (map f xs) + n) e ∙ add-zero (number_of (map f xs))

-- a set whose first k elements are counted, and the next
module _ (f : ℕ → Bool) (xs : List ℕ) (k : ℕ) (within : k < length xs) (code : ℕ) (so_far : code ≡ number_of (map f (take k xs))) where
  next_is : take (k + 1) xs ≡ take k xs ++ get_or xs k 0 ∷ []
  next_is = take_more xs k 0 within

  front : length (take k xs) ≡ k
  front = length-take-le k xs (omega arith)

  pub counted_set : k < 64 → f (get_or xs k 0) ≡ true → bit_or code (1 * 2 ^ k % 2 ^ 64) ≡ number_of (map f (take (k + 1) xs))
  counted_set small h =
      ap₂ bit_or so_far (one_shl k 64 small ∙ ap (λ n. 2 ^ n) (sym front))
      ∙ sym (number_of-push_set f (take k xs) (get_or xs k 0) h)
      ∙ ap (λ ys. number_of (map f ys)) (sym next_is)

  pub counted_clear : f (get_or xs k 0) ≡ false → code ≡ number_of (map f (take (k + 1) xs))
  counted_clear h =
      so_far ∙ sym (number_of-push_clear f (take k xs) (get_or xs k 0) h) ∙ ap (λ ys. number_of (map f ys)) (sym next_is)
