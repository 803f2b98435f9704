-- The premises of the laws are met.
use Rattle.sap_lemmas.proofs.Common.{◌≡◌, ℕ, zero, suc, ◌<◌, true, Bool, not, ◌&&◌, ◌||◌, refl, sym, subst, arith, ◌⊎◌, inl, inr, nat_lt, cases_Bool, common_steps}
use Rattle.sap_tree.specs.Prelude.{is_name, tokens, part_tokens, brackets, part_brackets, tag_tokens, tag_part_tokens, tag_brackets, tag_part_brackets, precedence_of, is_expression, are_expressions, is_tag, are_tags, is_simple, is_command, is_block, is_else, are_commands, command_depth, block_depth, else_depth, list_depth, is_state, are_states}
use Rattle.sap_lattice.specs.Prelude.{order_of, order_by, level_in, is_below, every, first, low_high}
use Rattle.sap_resolved.specs.Sized.Examples.{Lawful, Whole, NoFault}

pub no_fault : NoFault
no_fault = refl

pub whole : Whole
unfolding is_name precedence_of tokens part_tokens brackets part_brackets tag_tokens tag_part_tokens tag_brackets tag_part_brackets
    is_expression are_expressions is_tag are_tags is_simple is_command is_block is_else are_commands command_depth block_depth else_depth list_depth is_state are_states
whole = refl

two_levels : (x : ℕ) → x < 2 → (x ≡ 0) ⊎ (x ≡ 1)
two_levels zero h = inl refl
two_levels (suc zero) h = inr refl
two_levels (suc (suc x)) h = absurd (omega arith)

level_cases : (x : ℕ) → (level_in 2 x ≡ 0) ⊎ (level_in 2 x ≡ 1)
level_cases x = elim (cases_Bool (nat_lt x 2)) [
  | inl t ↦ rw t (two_levels x (grind (arith, common_steps, t)))
  | inr t ↦ rw t (inl refl)
]

-- a test of a level holds if it does at each
by_level : (P : ℕ → Type 0) → P 0 → P 1 → (x : ℕ) → P (level_in 2 x)
by_level P low high x = elim (level_cases x) [ inl e ↦ subst P (sym e) low | inr e ↦ subst P (sym e) high ]

abbrev below : ℕ → ℕ → Bool
below a b = is_below low_high.table a b

-- the join by the levels that its two numbers stand for
abbrev joined : ℕ → ℕ → ℕ
joined a b =
    first 2 (λ j. below a (level_in 2 j) && below b (level_in 2 j)
    && every 2 (λ u. not (below a (level_in 2 u) && below b (level_in 2 u)) || below (level_in 2 j) (level_in 2 u)))

-- and of two levels
by_levels : (P : ℕ → ℕ → Type 0) → P 0 0 → P 0 1 → P 1 0 → P 1 1 → (x y : ℕ) → P (level_in 2 x) (level_in 2 y)
by_levels P a b c d x y =
    by_level (λ i. P i (level_in 2 y)) (by_level (λ j. P 0 j) a b y) (by_level (λ j. P 1 j) c d y) x

pub lawful : Lawful
unfolding order_of order_by
lawful = record {
  least_of_all = by_level (λ x. below 0 x ≡ true) refl refl;
  self = by_level (λ x. below x x ≡ true) refl refl;
  trans = λ x y z. by_level (λ x. below x (level_in 2 y) ≡ true → below (level_in 2 y) (level_in 2 z) ≡ true → below x (level_in 2 z) ≡ true)
      (λ h k. by_level (λ z. below 0 z ≡ true) refl refl z)
      (by_level (λ y. below 1 y ≡ true → below y (level_in 2 z) ≡ true → below 1 (level_in 2 z) ≡ true) (λ h k. cc) (λ h k. k) y) x;
  left = by_levels (λ a b. below a (level_in 2 (joined a b)) ≡ true) refl refl refl refl;
  right = by_levels (λ a b. below b (level_in 2 (joined a b)) ≡ true) refl refl refl refl;
  least = λ x y z. by_level (λ c. below (level_in 2 x) c ≡ true → below (level_in 2 y) c ≡ true
      → below (level_in 2 (joined (level_in 2 x) (level_in 2 y))) c ≡ true)
      (by_levels (λ a b. below a 0 ≡ true → below b 0 ≡ true → below (level_in 2 (joined a b)) 0 ≡ true) (λ h k. refl) (λ h k. cc) (λ h k. cc)
      (λ h k. cc) x y)
      (by_levels (λ a b. below a 1 ≡ true → below b 1 ≡ true → below (level_in 2 (joined a b)) 1 ≡ true) (λ h k. refl) (λ h k. refl) (λ h k. refl)
      (λ h k. refl) x y) z;
  greatest_of_all = by_level (λ x. below x 1 ≡ true) refl refl;
  bottom_is_level = omega arith;
  top_is_level = omega arith;
  join_is_level = by_levels (λ a b. joined a b < 2) (omega arith) (omega arith) (omega arith) (omega arith);
}
