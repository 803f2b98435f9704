-- The children of a state in code, and what is taken of them.
use Rattle.std.proofs.Common.{◌≡◌, ℕ, ◌+◌, ◌-◌, ◌<◌, ◌≤◌, List, [], ◌∷◌, length, get_or, take, drop, true, ◌&&◌, refl, sym, ap, ◌∙◌, arith}
use Rattle.std.proofs.lemmas.List.{take_rest}
use Rattle.sap_bits.specs.declared.Op2.TheVariants.{Eq}
use Rattle.sap_maps.specs.Prelude.{Name, Term, constant, two, choose}
use Rattle.sap_meaning.specs.Program.{World, is_dynamic, state_node, and_node}
use Rattle.sap_meaning.specs.Program as program
use Rattle.sap_program.specs.Views.{block_of, group_of}
use Rattle.sap_program.specs.declared.program.State.{State, out-State}
use Rattle.sap_program.proofs.Shown.{state_of-out, group_of-none}
use Rattle.sap_tagged.specs.Prelude.{tag_key, Setting, var, bits, yes, enters, child_tag, child_enters, all_dynamic}

pub group_of-more : (n : ℕ) (s : State) (ss : List State)
    → group_of n (s ∷ ss) ≡ and_node (state_node (out-State s).number (block_of n (out-State s).body.items) (group_of n (out-State s).children.items)) (group_of n ss)
unfolding group_of
group_of-more n s ss = ap (λ (t : program.State). and_node t (group_of n ss)) (state_of-out n s)

-- lists by their length

empty_list : {A : Type 0} (xs : List A) → length xs < 1 → xs ≡ []
empty_list [] h = refl
empty_list (x ∷ xs) h = absurd (omega (arith, h))

one_list : {A : Type 0} (xs : List A) (x : A) → length xs < 2 → 1 ≤ length xs → x ≡ get_or xs 0 x → xs ≡ x ∷ []
one_list [] x h k i = absurd (omega (arith, k))
one_list (y ∷ ys) x h k i = let e : ys ≡ [] = empty_list ys (omega (arith, h)) in rw (e, i) refl

more_list : {A : Type 0} (xs : List A) (x : A) → 1 ≤ length xs → x ≡ get_or xs 0 x → xs ≡ x ∷ take (length xs - 1) (drop 1 xs)
more_list [] x h i = absurd (omega (arith, h))
more_list (y ∷ ys) x h i = ap (λ (z : _). z ∷ ys) (sym i) ∙ ap (λ (zs : _). x ∷ zs) (sym (take_rest (y ∷ ys) 1))

module _ (n : ℕ) (d : Setting) (u : ℕ) (seat : Term Name) where
  pub child_tag-none : (ss : List State) (i : ℕ) → length ss < 1 → child_tag d u seat (group_of n ss) i ≡ bits d d.world.order.bottom
  child_tag-none ss i h = rw (empty_list ss h, group_of-none n) refl

  pub child_tag-one : (ss : List State) (s : State) (i : ℕ) → length ss < 2 → 1 ≤ length ss → s ≡ get_or ss 0 s
      → child_tag d u seat (group_of n ss) i ≡ var d (tag_key (out-State s).number)
  child_tag-one ss s i h k e = rw (one_list ss s h k e, group_of-more n s [], group_of-none n) refl

  tag_step : (s r : State) (ss : List State) (i : ℕ)
      → child_tag d u seat (group_of n (s ∷ r ∷ ss)) i
      ≡ choose (two Eq seat (constant u i)) (var d (tag_key (out-State s).number)) (child_tag d u seat (group_of n (r ∷ ss)) (i + 1))
  tag_step s r ss i = rw (group_of-more n s (r ∷ ss), group_of-more n r ss) refl

  pub child_tag-more : (ss : List State) (s : State) (i : ℕ) → 2 ≤ length ss → s ≡ get_or ss 0 s
      → child_tag d u seat (group_of n ss) i ≡ choose (two Eq seat (constant u i)) (var d (tag_key (out-State s).number))
      (child_tag d u seat (group_of n (take (length ss - 1) (drop 1 ss))) (i + 1))
  child_tag-more [] s i h e = absurd (omega (arith, h))
  child_tag-more (r ∷ []) s i h e = absurd (omega (arith, h))
  child_tag-more (r ∷ t ∷ ss) s i h e =
      ap (λ (xs : List State). child_tag d u seat (group_of n xs) i) (ap (λ (x : State). x ∷ t ∷ ss) (sym e))
      ∙ tag_step s t ss i
      ∙ ap (λ (xs : List State). choose (two Eq seat (constant u i)) (var d (tag_key (out-State s).number))
      (child_tag d u seat (group_of n xs) (i + 1))) (sym (take_rest (r ∷ t ∷ ss) 1))

  pub child_enters-none : (pc : Term Name) (ss : List State) (i : ℕ) → length ss < 1 → child_enters d pc u seat (group_of n ss) i ≡ yes
  child_enters-none pc ss i h = rw (empty_list ss h, group_of-none n) refl

  pub child_enters-one : (pc : Term Name) (ss : List State) (s : State) (i : ℕ) → length ss < 2 → 1 ≤ length ss → s ≡ get_or ss 0 s
      → child_enters d pc u seat (group_of n ss) i ≡ enters d pc (out-State s).number
  child_enters-one pc ss s i h k e = rw (one_list ss s h k e, group_of-more n s [], group_of-none n) refl

  enters_step : (pc : Term Name) (s r : State) (ss : List State) (i : ℕ)
      → child_enters d pc u seat (group_of n (s ∷ r ∷ ss)) i
      ≡ choose (two Eq seat (constant u i)) (enters d pc (out-State s).number) (child_enters d pc u seat (group_of n (r ∷ ss)) (i + 1))
  enters_step pc s r ss i = rw (group_of-more n s (r ∷ ss), group_of-more n r ss) refl

  pub child_enters-more : (pc : Term Name) (ss : List State) (s : State) (i : ℕ) → 2 ≤ length ss → s ≡ get_or ss 0 s
      → child_enters d pc u seat (group_of n ss) i
      ≡ choose (two Eq seat (constant u i)) (enters d pc (out-State s).number) (child_enters d pc u seat (group_of n (take (length ss - 1) (drop 1 ss))) (i + 1))
  child_enters-more pc [] s i h e = absurd (omega (arith, h))
  child_enters-more pc (r ∷ []) s i h e = absurd (omega (arith, h))
  child_enters-more pc (r ∷ t ∷ ss) s i h e =
      ap (λ (xs : List State). child_enters d pc u seat (group_of n xs) i) (ap (λ (x : State). x ∷ t ∷ ss) (sym e))
      ∙ enters_step pc s t ss i
      ∙ ap (λ (xs : List State). choose (two Eq seat (constant u i)) (enters d pc (out-State s).number)
      (child_enters d pc u seat (group_of n xs) (i + 1))) (sym (take_rest (r ∷ t ∷ ss) 1))

pub all_dynamic-none : (n : ℕ) (w : World) (ss : List State) → length ss < 1 → all_dynamic w (group_of n ss) ≡ true
all_dynamic-none n w ss h = rw (empty_list ss h, group_of-none n) refl

pub all_dynamic-more : (n : ℕ) (w : World) (ss : List State) (s : State) → 1 ≤ length ss → s ≡ get_or ss 0 s
    → all_dynamic w (group_of n ss) ≡ (is_dynamic w (out-State s).number && all_dynamic w (group_of n (take (length ss - 1) (drop 1 ss))))
all_dynamic-more n w ss s h e = ap (λ (xs : List State). all_dynamic w (group_of n xs)) (more_list ss s h e) ∙ rw (group_of-more n s (take (length ss - 1) (drop 1 ss))) refl
