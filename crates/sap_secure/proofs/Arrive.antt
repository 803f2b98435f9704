-- Two runs that both arrive at a state look alike from there down.
use Rattle.sap_lemmas.proofs.Common.{◌≡◌, ℕ, Bool, true, false, ◌||◌, refl, sym, ◌∙◌, subst, nat_eq, inl, inr, ◌⊎◌, if◌then◌else◌, cases_Bool, eqb-true, or_cases, or_left, or_right}
use Rattle.sap_meaning.proofs.FineLemmas.{inside_among}
use Rattle.sap_lattice.specs.Order.{Laws}
use Rattle.sap_meaning.specs.Prelude.{within, World, is_dynamic, is_state, place, below, go_to, State, state_node, Group, no_node, and_node, own, Store, level, child, put_level, put_child, reset, After, Holds, effect, inside, number_of}
use Rattle.sap_meaning.proofs.Slots.{level_put, child_level_put, level_reset, child_reset, held_state}
use Rattle.sap_meaning.proofs.Trees.{Nth, lands, nth_fine}
use Rattle.sap_meaning.proofs.Keeps.{holds_level, holds_reset, holds_child}
use Rattle.sap_secure.proofs.Agreeing.{Agree, agree_flip, agree_next, agree_child, agree_reset, agree_state}
use Rattle.sap_secure.proofs.Apart.{inside_state}
use Rattle.sap_secure.proofs.Sites.{ProperStep, spot}
use Rattle.sap_secure.proofs.Walks.{path, from_nth, from_settled}
use Rattle.sap_secure.proofs.Still.{Scene, target_of, moved_child}

-- two results that look alike, the path included
pub record Arrived (w : World) (l p : ℕ) (q : Group) (s t : Store) : Type 0 where
  pub same : Agree w l s t
  pub path : path w l p q s ≡ path w l p q t

module _ (w : World) (laws : Laws w.order) (l : ℕ) (c : Scene w l) (site target : ℕ) (fine : ProperStep w c.site (go_to site target)) where
  moved : Store → Store
  moved s = reset w target (put_child c.site.parent (place w target) s)

  agree_moved : (s t : Store) → Agree w l s t → Agree w l (moved s) (moved t)
  unfolding moved
  agree_moved s t r =
      let f = λ (u : Store). agree_next w laws l _ _ _ (agree_child w laws l u c.site.parent (place w target))
      (agree_reset w laws l (put_child c.site.parent (place w target) u) target) in
      agree_next w laws l _ _ _ (agree_flip w laws l _ _ (f s)) (agree_next w laws l _ _ _ r (f t))

  holds_moved : (s : Store) → Holds w s → Holds w (moved s)
  unfolding moved
  holds_moved s h = holds_reset w _ target
      (holds_child w s c.site.parent (place w target) (lands w c.site.parent c.site.siblings c.site.around.fine c.site.around.count target fine.0) h)

  -- a child at or below the target is the first
  child_moved : (x : ℕ) (s : Store) → (nat_eq x target || below w target x) ≡ true → child x (moved s) ≡ 0
  unfolding moved
  child_moved x s h = child_reset w x target (put_child c.site.parent (place w target) s) ∙ both (nat_eq x target) (below w target x) h
    where
      both : (a b : Bool) → (a || b) ≡ true → (if a then 0 else if b then 0 else child x (put_child c.site.parent (place w target) s)) ≡ 0
      both true b h = refl
      both false true h = refl
      both false false h = cc

  -- dynamic states below the target are at the bottom
  level_moved : (x : ℕ) (s : Store) → below w target x ≡ true → is_dynamic w x ≡ true → level w (own x) (moved s) ≡ w.order.bottom
  unfolding moved
  level_moved x s h d = level_reset w (own x) target (put_child c.site.parent (place w target) s) ∙ rw (h, d) refl

  arrived : ℕ → Store → Store
  arrived pc s = if is_dynamic w target then put_level w (own target) pc (moved s) else moved s

  target_state : is_state w target ≡ true
  target_state = inside_state w c.site.siblings 0 c.site.siblings c.site.around.fine target (inside_among c.site.siblings target fine.0)

  -- x is the target or below it
  spanned : (a : State) → Nth c.site.siblings (place w target) a → number_of a ≡ target → (x : ℕ) → inside (and_node a no_node) x ≡ true
      → (nat_eq x target || below w target x) ≡ true
  spanned (state_node e b k) nth name x h =
      let f = nth_fine w c.site.siblings 0 c.site.siblings (place w target) (state_node e b k) nth c.site.around.fine in
      elim (or_cases (nat_eq x e) _ h) [
        | inl i ↦ or_left _ _ (subst (λ y. nat_eq x y ≡ true) name i)
        | inr i ↦ or_right (nat_eq x target) _ (subst (λ y. below w y x ≡ true) name (sym (f.0.numbers x) ∙ elim (or_cases (inside k x) false i) [ inl j ↦ j | inr j ↦ cc ]))
      ]

  spanned_state : (a : State) → Nth c.site.siblings (place w target) a → (x : ℕ) → inside (and_node a no_node) x ≡ true → is_state w x ≡ true
  spanned_state (state_node e b k) nth x h =
      let f = nth_fine w c.site.siblings 0 c.site.siblings (place w target) (state_node e b k) nth c.site.around.fine in
      elim (or_cases (nat_eq x e) _ h) [
        | inl i ↦ rw (eqb-true x e i) f.0.kind
        | inr i ↦ inside_state w k 0 k f.1 x (elim (or_cases (inside k x) false i) [ inl j ↦ j | inr j ↦ cc ])
      ]

  same_path : (a : State) → Nth c.site.siblings (place w target) a → (s t : Store) → Agree w l s t → Holds w s → Holds w t
      → child c.site.parent s ≡ place w target → child c.site.parent t ≡ place w target
      → ((x : ℕ) → inside (and_node a no_node) x ≡ true → child x s ≡ child x t)
      → ((x : ℕ) → inside (and_node a no_node) x ≡ true → is_dynamic w x ≡ true → level w (own x) s ≡ level w (own x) t)
      → path w l c.site.parent c.site.siblings s ≡ path w l c.site.parent c.site.siblings t
  same_path a nth s t like hs ht here there f d =
      rw (here, there) (from_nth w l c.site.siblings (place w target) (place w target) a s nth
      ∙ from_settled w laws l (and_node a no_node) 0 (place w target) s t like hs ht (λ x i. held_state w x (spanned_state a nth x i)) f d
      ∙ sym (from_nth w l c.site.siblings (place w target) (place w target) a t nth))

  seat : (u : Store) → child c.site.parent (moved u) ≡ place w target
  unfolding moved
  seat u = moved_child w laws l c site target fine u

  arrive : (pc : ℕ) (s t : Store) → Holds w s → Holds w t → Agree w l s t → Arrived w l c.site.parent c.site.siblings (arrived pc s) (arrived pc t)
  unfolding arrived
  arrive pc s t hs ht like = elim (cases_Bool (is_dynamic w target)) [
    | inl d ↦ rw d (
        let into = λ (u : Store). agree_state w laws l u target pc target_state d in
        let one = agree_next w laws l _ _ _ (agree_flip w laws l _ _ (into (moved s))) (agree_next w laws l _ _ _ (agree_moved s t like) (into (moved t))) in
        let two = holds_level w (moved s) (own target) pc (holds_moved s hs) (λ no. cc) in
        let three = holds_level w (moved t) (own target) pc (holds_moved t ht) (λ no. cc) in
        record {
          same = one;
          path = same_path a.0 a.1 (put_level w (own target) pc (moved s)) (put_level w (own target) pc (moved t)) one two three
              (child_level_put w c.site.parent (own target) pc (moved s) ∙ seat s) (child_level_put w c.site.parent (own target) pc (moved t) ∙ seat t)
              (λ x i. child_level_put w x (own target) pc (moved s) ∙ child_moved x s (spanned a.0 a.1 a.2 x i)
              ∙ sym (child_level_put w x (own target) pc (moved t) ∙ child_moved x t (spanned a.0 a.1 a.2 x i)))
              (λ x i y. wrote x y (or_cases _ _ (spanned a.0 a.1 a.2 x i)));
        })
    | inr d ↦ rw d (record {
      same = agree_moved s t like;
      path = same_path a.0 a.1 (moved s) (moved t) (agree_moved s t like) (holds_moved s hs) (holds_moved t ht) (seat s) (seat t)
          (λ x i. child_moved x s (spanned a.0 a.1 a.2 x i) ∙ sym (child_moved x t (spanned a.0 a.1 a.2 x i)))
          (λ x i y. still x d y (or_cases _ _ (spanned a.0 a.1 a.2 x i)));
    })
  ]
    where
      a : (a : State) × Nth c.site.siblings (place w target) a × (number_of a ≡ target)
      a = target_of w laws l c site target fine

      at_target : (x : ℕ) (u : Store) → nat_eq x target ≡ true → level w (own x) (put_level w (own target) pc (moved u)) ≡ pc
      at_target x u e = level_put w (own x) (own target) pc (moved u) ∙ rw e refl

      off_target : (x : ℕ) (u : Store) → nat_eq x target ≡ false → level w (own x) (put_level w (own target) pc (moved u)) ≡ level w (own x) (moved u)
      off_target x u e = level_put w (own x) (own target) pc (moved u) ∙ rw e refl

      wrote : (x : ℕ) → is_dynamic w x ≡ true → ((nat_eq x target ≡ true) ⊎ (below w target x ≡ true))
          → level w (own x) (put_level w (own target) pc (moved s)) ≡ level w (own x) (put_level w (own target) pc (moved t))
      wrote x y (inl e) = at_target x s e ∙ sym (at_target x t e)
      wrote x y (inr e) = elim (cases_Bool (nat_eq x target)) [
        | inl f ↦ at_target x s f ∙ sym (at_target x t f)
        | inr f ↦ off_target x s f ∙ (level_moved x s e y ∙ sym (level_moved x t e y)) ∙ sym (off_target x t f)
      ]

      still : (x : ℕ) → is_dynamic w target ≡ false → is_dynamic w x ≡ true → ((nat_eq x target ≡ true) ⊎ (below w target x ≡ true))
          → level w (own x) (moved s) ≡ level w (own x) (moved t)
      still x d y (inl e) = let y' = rw (eqb-true x target e) at y in cc
      still x d y (inr e) = level_moved x s e y ∙ sym (level_moved x t e y)

  -- a goto that succeeds in both runs
  pub goto_pair : (pc : ℕ) (enter : ℕ → ℕ → Store → After) (b d s t : Store) → Holds w s → Holds w t → Agree w l s t
      → Arrived w l c.site.parent c.site.siblings (effect (within w (spot c.site) enter) (go_to site target) pc b s).store (effect (within w (spot c.site) enter) (go_to site target) pc d t).store
  unfolding effect arrived moved
  goto_pair pc enter b d s t hs ht like = arrive pc s t hs ht like
