-- Depths of memories: a power of two has one bit, whose place is the bits of its index.
use Rattle.sap_lemmas.proofs.Common.{◌≡◌, ◌∙◌, ℕ, zero, suc, ◌*◌, ◌/◌, ◌%◌, ◌^◌, ◌<◌, ◌≤◌, ◌⊎◌, Some, None, true, false, refl, ap, sym, subst, arith, inl, inr, count_ones, ◌==◌, cases_Bool, Decides-eqb, pow_below, pow-suc, pow_mono}
use Rattle.std.proofs.lemmas.Nat.{pow_pos, zero_from_ones, ones_le_self}
use lib.Count.{ones_step}
use Rattle.sap_names.specs.Widths.{bits_up_to}

ones_zero : count_ones 0 ≡ 0
ones_zero = let h = ones_le_self 0 in omega arith

ones_power : (k : ℕ) → count_ones (2 ^ k) ≡ 1
ones_power zero = let s = ones_step 1 in let z = ones_zero in omega arith
ones_power (suc k) =
    let p = pow-suc 2 k in
    let half : 2 ^ suc k / 2 ≡ 2 ^ k = omega arith in
    let s = ones_step (2 ^ suc k) in
    let r : count_ones (2 ^ suc k / 2) ≡ 1 = ap count_ones half ∙ ones_power k in
    omega arith

-- a number of one bit, by the place of that bit
one_bit : (k n : ℕ) → count_ones n ≡ 1 → 2 ^ k ≤ n → n < 2 * 2 ^ k → n ≡ 2 ^ k
one_bit zero n h low high = omega arith
one_bit (suc k) n h low high =
    let p = pow-suc 2 k in
    let s = ones_step n in
    elim (parity n) [
      | inl even ↦ (let half = one_bit k (n / 2) (omega arith) (omega arith) (omega arith) in omega arith)
      | inr odd ↦ absurd (let z = zero_from_ones (n / 2) (omega arith) in let q = pow_pos k in omega arith)
    ]
  where
    parity : (n : ℕ) → (n % 2 ≡ 0) ⊎ (n % 2 ≡ 1)
    parity n = grind arith

found : (b k : ℕ) → 1 ≤ k → k ≤ b → Some k ≡ bits_up_to b (2 ^ k)
found zero k low high = absurd (omega arith)
found (suc b) k low high = elim (cases_Bool (2 ^ k == 2 ^ suc b)) [
  | inl t ↦ rw t (ap (λ (n : ℕ). Some n) (same (order k (suc b)) ((Decides-eqb (2 ^ k) (2 ^ suc b)).0 t)))
  | inr f ↦ rw f (found b k low (less (order k (suc b)) f))
]
  where
    order : (i j : ℕ) → ((i < j) ⊎ (j < i)) ⊎ (i ≡ j)
    order i j = grind arith

    same : ((k < suc b) ⊎ (suc b < k)) ⊎ (k ≡ suc b) → 2 ^ k ≡ 2 ^ suc b → k ≡ suc b
    same (inl (inl l)) e = absurd (let p = pow_below k (suc b) l in omega arith)
    same (inl (inr m)) e = absurd (omega arith)
    same (inr s) e = s

    less : ((k < suc b) ⊎ (suc b < k)) ⊎ (k ≡ suc b) → (2 ^ k == 2 ^ suc b) ≡ false → k ≤ b
    less (inl (inl l)) f = omega arith
    less (inl (inr m)) f = absurd (omega arith)
    less (inr s) f = absurd (let t : (2 ^ k == 2 ^ suc b) ≡ true = (Decides-eqb (2 ^ k) (2 ^ suc b)).1 (ap (λ (n : ℕ). 2 ^ n) s) in cc)

missed : (b d : ℕ) → ((k : ℕ) → 1 ≤ k → k ≤ b → d ≡ 2 ^ k → ⊥) → None ≡ bits_up_to b d
missed zero d h = refl
missed (suc b) d h = elim (cases_Bool (d == 2 ^ suc b)) [
  | inl t ↦ absurd (h (suc b) (omega arith) (omega arith) ((Decides-eqb d (2 ^ suc b)).0 t))
  | inr f ↦ rw f (missed b d (λ k low high e. h k low (omega arith) e))
]

pub depth_bits : (d k : ℕ) → count_ones d ≡ 1 → 2 ≤ d → d ≤ 4096 → 2 ^ k ≤ d → d < 2 * 2 ^ k → Some k ≡ bits_up_to 12 d
depth_bits d zero one small large low high = absurd (omega arith)
depth_bits d (suc k) one small large low high =
    let e : d ≡ 2 ^ suc k = one_bit (suc k) d one low high in
    subst (λ (n : ℕ). Some (suc k) ≡ bits_up_to 12 n) (sym e) (found 12 (suc k) (omega arith) (within (order k)))
  where
    order : (i : ℕ) → (suc i ≤ 12) ⊎ (12 < suc i)
    order i = grind arith

    within : (suc k ≤ 12) ⊎ (12 < suc k) → suc k ≤ 12
    within (inl l) = l
    within (inr m) = absurd (let p = pow_below 12 (suc k) m in omega arith)

pub no_depth : (d : ℕ) → (count_ones d ≡ 1 → 2 ≤ d → d ≤ 4096 → ⊥) → None ≡ bits_up_to 12 d
no_depth d h = missed 12 d (λ k low high e.
    let small : 2 ^ 1 ≤ 2 ^ k = pow_mono low in
    let large : 2 ^ k ≤ 2 ^ 12 = pow_mono high in
    h (ap count_ones e ∙ ones_power k) (omega arith) (omega arith))
