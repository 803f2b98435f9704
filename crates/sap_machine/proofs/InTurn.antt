-- Slices, one after another.
use Rattle.std.proofs.Common.{◌≡◌, ◌⊎◌, inl, inr, ℕ, zero, suc, ◌+◌, ◌%◌, refl, sym, ap, subst, ◌∙◌, arith}
use Rattle.sap_machine.specs.declared.user.User.{User}
use Rattle.sap_machine.specs.declared.user.User.TheVariants.{A, B}
use Rattle.sap_machine.specs.Table.{UserState, begun, step, steps}
use Rattle.sap_machine.specs.Slices.{instructions, after_slices, other, holder, sliced}
use Rattle.sap_machine.specs.Laws.{SlicesInTurn}
use Rattle.sap_machine.proofs.Users.{of_user, of_both}

-- one step behind others
pub step_behind : (n : ℕ) (s : UserState) → step (steps n s) ≡ steps (suc n) s
step_behind zero s = refl
step_behind (suc n) s = step_behind n (step s)

three_behind : (n : ℕ) (s : UserState) → steps 3 (steps n s) ≡ steps (3 + n) s
three_behind n s =
    ap (λ x. step (step x)) (step_behind n s) ∙ ap (λ x. step x) (step_behind (suc n) s) ∙ step_behind (suc (suc n)) s
    ∙ ap (λ n. steps n s) (let e : suc (suc (suc n)) ≡ 3 + n = omega arith in e)

by_parity : (n : ℕ) → ((holder n ≡ A) × (n % 2 ≡ 0)) ⊎ ((holder n ≡ B) × (n % 2 ≡ 1))
by_parity zero = inl (refl, refl)
by_parity (suc n) = elim (by_parity n) [
  | inl e ↦ inr (ap other e.0, (let r : n % 2 ≡ 0 = e.1 in let q : suc n % 2 ≡ 1 = omega arith in q))
  | inr e ↦ inl (ap other e.0, (let r : n % 2 ≡ 1 = e.1 in let q : suc n % 2 ≡ 0 = omega arith in q))
]

mine_more : (n : ℕ) → instructions (holder n) (suc n) ≡ 3 + instructions (holder n) n
mine_more n = elim (by_parity n) [
  | inl e ↦ subst (λ u. instructions u (suc n) ≡ 3 + instructions u n) (sym e.0) (let r : n % 2 ≡ 0 = e.1 in
      let q : instructions A (suc n) ≡ 3 + instructions A n = omega arith in q)
  | inr e ↦ subst (λ u. instructions u (suc n) ≡ 3 + instructions u n) (sym e.0) (let r : n % 2 ≡ 1 = e.1 in
      let q : instructions B (suc n) ≡ 3 + instructions B n = omega arith in q)
]

others_same : (n : ℕ) → instructions (other (holder n)) (suc n) ≡ instructions (other (holder n)) n
others_same n = elim (by_parity n) [
  | inl e ↦ subst (λ u. instructions (other u) (suc n) ≡ instructions (other u) n) (sym e.0) (let r : n % 2 ≡ 0 = e.1 in
      let q : instructions B (suc n) ≡ instructions B n = omega arith in q)
  | inr e ↦ subst (λ u. instructions (other u) (suc n) ≡ instructions (other u) n) (sym e.0) (let r : n % 2 ≡ 1 = e.1 in
      let q : instructions A (suc n) ≡ instructions A n = omega arith in q)
]

pub slice_mine : (n : ℕ) (word : ℕ → ℕ) → after_slices (holder n) word (suc n) ≡ steps 3 (after_slices (holder n) word n)
unfolding after_slices
slice_mine n word = ap (λ k. steps k (begun word)) (mine_more n) ∙ sym (three_behind (instructions (holder n) n) (begun word))

pub slice_other : (n : ℕ) (word : ℕ → ℕ) → after_slices (other (holder n)) word (suc n) ≡ after_slices (other (holder n)) word n
unfolding after_slices
slice_other n word = ap (λ k. steps k (begun word)) (others_same n)

sliced_mine : (h : User) (s : UserState) → sliced h h s ≡ steps 3 s
sliced_mine h s = of_user (λ h. sliced h h s ≡ steps 3 s) refl refl h

sliced_other : (h : User) (s : UserState) → sliced h (other h) s ≡ s
sliced_other h s = of_user (λ h. sliced h (other h) s ≡ s) refl refl h

next_slice : (u : User) (word : ℕ → ℕ) (n : ℕ) → after_slices u word (suc n) ≡ sliced (holder n) u (after_slices u word n)
next_slice u word n =
    of_both (λ u. after_slices u word (suc n) ≡ sliced (holder n) u (after_slices u word n)) (holder n)
    (slice_mine n word ∙ sym (sliced_mine (holder n) (after_slices (holder n) word n)))
    (slice_other n word ∙ sym (sliced_other (holder n) (after_slices (other (holder n)) word n))) u

pub no_slice : (u : User) (word : ℕ → ℕ) → after_slices u word 0 ≡ begun word
unfolding after_slices
no_slice u word = of_user (λ u. steps (instructions u 0) (begun word) ≡ begun word) refl refl u

pub slices_in_turn : SlicesInTurn
slices_in_turn u word = (no_slice u word, λ n. ap (after_slices u word) (let e : n + 1 ≡ suc n = omega arith in e) ∙ next_slice u word n)
