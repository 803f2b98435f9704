-- Powers of two are the numbers with one bit set.
use Rattle.sap_lemmas.proofs.Common.{◌≡◌, ◌≢◌, ◌∙◌, ℕ, zero, suc, ◌+◌, ◌*◌, ◌/◌, ◌^◌, ◌<◌, ◌≤◌, ◌⊎◌, true, false, refl, ap, sym, arith, inl, inr, pow_below, common_steps, pow-suc, pow_mono, ◌==◌, ◌&&◌, not, nat_le, count_ones, and_left, and_right}
use Rattle.std.proofs.lemmas.Nat.{ones_cat, zero_from_ones, ones_le_self, pow_pos}
use Rattle.std.specs.Int.{is_power_of_two}
use Rattle.sap_vtext.specs.Faults.{HasIndex}
use Rattle.sap_vjudge.specs.Listed.{is_depth, is_other}

ones_zero : count_ones 0 ≡ 0
ones_zero = let h = ones_le_self 0 in omega arith

ones_one : count_ones 1 ≡ 1
ones_one = let h = ones_le_self 1 in by_cases (count_ones 1) refl h
  where
    by_cases : (n : ℕ) → count_ones 1 ≡ n → n ≤ 1 → n ≡ 1
    by_cases zero e h = absurd (let k = zero_from_ones 1 e in omega arith)
    by_cases (suc n) e h = omega arith

pub ones-pow : (b : ℕ) → count_ones (2 ^ b) ≡ 1
ones-pow b =
    let whole : 1 * 2 ^ b + 0 ≡ 2 ^ b = omega arith in
    ap count_ones (sym whole) ∙ ones_cat b 1 0 (pow_pos b) ∙ ap (λ (n : ℕ). n + count_ones 0) ones_one ∙ ap (λ (n : ℕ). 1 + n) ones_zero

parity : (n : ℕ) → (n ≡ (n / 2) * 2 ^ 1 + 0) ⊎ (n ≡ (n / 2) * 2 ^ 1 + 1)
parity n = grind arith

doubled : (n : ℕ) → n ≡ (n / 2) * 2 ^ 1 + 0 → count_ones n ≡ 1 → count_ones (n / 2) ≡ 1
doubled n even e =
    let c = ones_cat 1 (n / 2) 0 (pow_pos 1) in
    let s : count_ones n ≡ count_ones (n / 2) + count_ones 0 = ap count_ones even ∙ c in
    let z = ones_zero in
    omega arith

single : (n : ℕ) → n ≡ (n / 2) * 2 ^ 1 + 1 → count_ones n ≡ 1 → n ≡ 1
single n odd e =
    let one_less : 1 < 2 ^ 1 = omega arith in
    let c = ones_cat 1 (n / 2) 1 one_less in
    let s : count_ones n ≡ count_ones (n / 2) + count_ones 1 = ap count_ones odd ∙ c in
    let z = ones_one in
    let half : count_ones (n / 2) ≡ 0 = omega arith in
    let none = zero_from_ones (n / 2) half in
    omega arith

twice : (n b : ℕ) → n ≡ (n / 2) * 2 ^ 1 + 0 → n / 2 ≡ 2 ^ b → n ≡ 2 ^ suc b
twice n b even half = let p = pow-suc 2 b in omega arith

-- by how large it is at most
power_up_to : (m n : ℕ) → n ≤ m → count_ones n ≡ 1 → (b : ℕ) × (n ≡ 2 ^ b)
power_up_to m zero h e = absurd (let z = ones_zero in omega arith)
power_up_to zero (suc n) h e = absurd (omega arith)
power_up_to (suc m) (suc n) h e = elim (parity (suc n)) [
  | inl even ↦
      (let less : suc n / 2 ≤ m = omega arith in
      let r = power_up_to m (suc n / 2) less (doubled (suc n) even e) in
      (suc r.0, twice (suc n) r.0 even r.1))
  | inr odd ↦ (0, single (suc n) odd e)
]

pub power-some : (n : ℕ) → is_power_of_two n ≡ true → (b : ℕ) × (n ≡ 2 ^ b)
power-some n h = power_up_to n n (omega arith) (grind (arith, common_steps))

pub power-is : (b : ℕ) → is_power_of_two (2 ^ b) ≡ true
power-is b = let h = ones-pow b in grind (arith, common_steps)

pub pow_inj : (b u : ℕ) → 2 ^ b ≡ 2 ^ u → u ≡ b
pow_inj b u h = by_order (order b u)
  where
    order : (i j : ℕ) → ((i < j) ⊎ (j < i)) ⊎ (j ≡ i)
    order i j = grind arith

    by_order : ((b < u) ⊎ (u < b)) ⊎ (u ≡ b) → u ≡ b
    by_order (inl (inl less)) = absurd (let k = pow_below b u less in omega arith)
    by_order (inl (inr more)) = absurd (let k = pow_below u b more in omega arith)
    by_order (inr same) = same

pub is_depth-HasIndex : (depth : ℕ) → is_depth depth ≡ true → HasIndex depth
is_depth-HasIndex depth h =
    let p = power-some depth (and_left (is_power_of_two depth) (nat_le 2 depth && nat_le depth 4096) h) in
    let r = and_right (is_power_of_two depth) (nat_le 2 depth && nat_le depth 4096) h in
    bounded p.0 p.1 (grind (arith, common_steps)) (grind (arith, common_steps))
  where
    bounded : (b : ℕ) → depth ≡ 2 ^ b → 2 ≤ depth → depth ≤ 4096 → HasIndex depth
    bounded zero e low high = absurd (omega arith)
    bounded (suc b) e low high = (suc b, (omega arith, at_most (order (suc b)), e))
      where
        order : (i : ℕ) → (i ≤ 12) ⊎ (12 < i)
        order i = grind arith

        at_most : (suc b ≤ 12) ⊎ (12 < suc b) → suc b ≤ 12
        at_most (inl within) = within
        at_most (inr past) = absurd (let k = pow_below 12 (suc b) past in omega arith)

pub HasIndex-is_depth : (depth : ℕ) → HasIndex depth → is_depth depth ≡ true
HasIndex-is_depth depth h =
    let low : 2 ^ 1 ≤ 2 ^ h.0 = pow_mono h.1.0 in
    let high : 2 ^ h.0 ≤ 2 ^ 12 = pow_mono h.1.1 in
    let e = h.1.2 in
    let p : is_power_of_two depth ≡ true = ap is_power_of_two e ∙ power-is h.0 in
    let small : 2 ≤ depth = omega arith in
    let large : depth ≤ 4096 = omega arith in
    grind (arith, common_steps)

pub is_other-some : (depth u : ℕ) → is_other depth u ≡ true → (b : ℕ) × (depth ≡ 2 ^ b) × (u ≢ b)
is_other-some depth u h =
    let p = power-some depth (and_left (is_power_of_two depth) (not (depth == 2 ^ u)) h) in
    let r = and_right (is_power_of_two depth) (not (depth == 2 ^ u)) h in
    (p.0, p.1, λ same. apart (p.1 ∙ ap (λ (i : ℕ). 2 ^ i) (sym same)) r)
  where
    apart : depth ≡ 2 ^ u → not (depth == 2 ^ u) ≡ true → ⊥
    apart e n = grind (arith, common_steps)

pub is_other-from : (b u : ℕ) → u ≢ b → is_other (2 ^ b) u ≡ true
is_other-from b u h =
    let p = power-is b in
    let apart : 2 ^ b ≢ 2 ^ u = λ e. h (pow_inj b u e) in
    grind (arith, common_steps)

-- an index of more than 64 bits is that of no depth up to 2 ^ 64
no_index : (depth width : ℕ) → depth ≤ 2 ^ 64 → 64 < width → (depth == 2 ^ width) ≡ false
no_index depth width h k = let more = pow_below 64 width k in grind (arith, common_steps)

pub no_index-le : (depth width : ℕ) → depth ≤ 2 ^ 64 → 64 < width → nat_le width 64 ≡ (depth == 2 ^ width)
no_index-le depth width h k = let e = no_index depth width h k in grind (arith, common_steps)
