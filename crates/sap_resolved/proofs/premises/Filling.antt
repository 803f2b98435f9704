-- Filling in what hangs leaves all else of a program as it was.
use Rattle.sap_lemmas.proofs.Common.{◌≡◌, ℕ, suc, ◌<◌, Bool, false, ◌||◌, refl, sym, ap, ◌∙◌, subst, nat_eq, or_equal}
use Rattle.sap_meaning.specs.Prelude.{World, Step, assign, go_to, fall_to_child, Command, lone, try, if_else, try_then, case_of, Arms, last_arm, and_arm, Block, end_block, command_then, State, state_node, Group, no_node, and_node, Home, step_assigns, block_assigns, group_assigns, among, step_hangs, hangs, step_retags, block_retags, group_retags, FineTerm, size, inside, transfers, NoTransfer, Open, Closes, Final, ClosingArms, FineStep, FineNode, FineState, FineGroup, number_of, FineCommand, step_writes, step_reaching, reaching, block_reaching, state_reaches, group_reaches, OnceStep, Once, OnceArms, OnceBlock, OnceState, OnceGroup, body_of, EveryInBlock}
use Rattle.sap_resolved.specs.Fill.{filled_step, filled_hang, filled, filled_arms, filled_block, filled_state, filled_group}
use Rattle.sap_resolved.specs.WellNamed.{WellNamedStep, WellNamedGroup}
use Rattle.sap_meaning.proofs.WalksLemmas.{every_mapped, every_mapped_block, asks_mapped}
use Rattle.sap_resolved.proofs.FillLemmas.{every_unfilled_group, gathered_filled, gathered_filled_block, gathered_filled_group}

module _ (w : World) where
  -- numbers of states
  pub among_filled : (p : ℕ) (g : Group) (x : ℕ) → among (filled_group w p g) x ≡ among g x
  among_filled p no_node x = refl
  among_filled p (and_node (state_node s b k) g) x = ap (λ (r : Bool). nat_eq x s || r) (among_filled p g x)

  pub inside_filled : (p : ℕ) (g : Group) (x : ℕ) → inside (filled_group w p g) x ≡ inside g x
  inside_filled p no_node x = refl
  inside_filled p (and_node (state_node s b k) g) x =
      ap (λ (r : Bool). nat_eq x s || r) (or_equal _ _ _ _ (inside_filled s k x) (inside_filled p g x))

  pub size_filled : (p : ℕ) (g : Group) → size (filled_group w p g) ≡ size g
  size_filled p no_node = refl
  size_filled p (and_node (state_node s b k) g) = ap suc (size_filled p g)

  number_filled : (p : ℕ) (t : State) → number_of (filled_state w p t) ≡ number_of t
  number_filled p (state_node s b g) = refl

  -- what a body does, at any place
  module _ (at : Home) where
    transfers_filled : (k : Step) → transfers (filled_step w at k) ≡ transfers k
    transfers_filled (assign site x e) = refl
    transfers_filled _ = refl

    open_filled : (c : Command) → Open c → Open (filled w at c)
    open_filled c h =
        every_mapped (filled_step w at) (filled_hang w at) NoTransfer NoTransfer
        (asks_mapped (filled_step w at) (filled_hang w at) (λ k. transfers k ≡ false) (λ k. transfers k ≡ false) (λ e. Unit {0}) (λ e. Unit {0})
        (λ k f. transfers_filled k ∙ f) (λ e u. u)) c h

    mutual
      final_filled : (c : Command) → Final c → Final (filled w at c)
      final_filled (lone k) h = transfers_filled k ∙ h
      final_filled (try k hang b) h = (transfers_filled k ∙ h.0, closes_filled b h.1)
      final_filled (if_else hang e a b) h = (closes_filled a h.0, closes_filled b h.1)
      final_filled (try_then k hang a b) h = (transfers_filled k ∙ h.0, closes_filled a h.1, closes_filled b h.2)
      final_filled (case_of hang e arms) h = closing_filled arms h

      closing_filled : (arms : Arms) → ClosingArms arms → ClosingArms (filled_arms w at arms)
      closing_filled (last_arm b) h = closes_filled b h
      closing_filled (and_arm constants b arms) h = (closes_filled b h.0, closing_filled arms h.1)

      closes_filled : (b : Block) → Closes b → Closes (filled_block w at b)
      closes_filled end_block h = h
      closes_filled (command_then c end_block) h = final_filled c h
      closes_filled (command_then c (command_then d ds)) h = (open_filled c h.0, closes_filled (command_then d ds) h.1)

    step_assigns_filled : (k : Step) (x : ℕ) → step_assigns (filled_step w at k) x ≡ step_assigns k x
    step_assigns_filled (assign site y e) x = refl
    step_assigns_filled _ x = refl

    block_assigns_filled : (b : Block) (x : ℕ) → block_assigns (filled_block w at b) x ≡ block_assigns b x
    block_assigns_filled b x = gathered_filled_block w false ◌||◌ (λ k. step_assigns k x) (λ k. step_assigns k x) at (λ k. step_assigns_filled k x) b

    step_writes_filled : (k : Step) (x : ℕ) → step_writes (filled_step w at k) x ≡ step_writes k x
    step_writes_filled (assign site y e) x = refl
    step_writes_filled _ x = refl

    step_retags_filled : (k : Step) (x : ℕ) → step_retags (filled_step w at k) x ≡ step_retags k x
    step_retags_filled (assign site y e) x = refl
    step_retags_filled _ x = refl

    block_retags_filled : (b : Block) (x : ℕ) → block_retags (filled_block w at b) x ≡ block_retags b x
    block_retags_filled b x = gathered_filled_block w false ◌||◌ (λ k. step_retags k x) (λ k. step_retags k x) at (λ k. step_retags_filled k x) b

    -- where a fall leads to the same
    module _ (f g : ℕ → Bool) (same : (m : ℕ) → f m ≡ g m) where
      step_reaching_filled : (k : Step) (m : ℕ) → step_reaching f (filled_step w at k) m ≡ step_reaching g k m
      step_reaching_filled (fall_to_child site hang) m = same m
      step_reaching_filled _ m = refl

      reaching_filled : (c : Command) (m : ℕ) → reaching f (filled w at c) m ≡ reaching g c m
      reaching_filled c m = gathered_filled w false ◌||◌ (λ k. step_reaching f k m) (λ k. step_reaching g k m) at (λ k. step_reaching_filled k m) c

      block_reaching_filled : (b : Block) (m : ℕ) → block_reaching f (filled_block w at b) m ≡ block_reaching g b m
      block_reaching_filled b m = gathered_filled_block w false ◌||◌ (λ k. step_reaching f k m) (λ k. step_reaching g k m) at (λ k. step_reaching_filled k m) b

    -- a child among the same children, siblings and all
    module _ (q j g i : Group) (siblings : (x : ℕ) → among j x ≡ among q x) (children : size i ≡ size g) where
      fine_step_filled : (k : Step) → FineStep w q g k → FineStep w j i (filled_step w at k)
      fine_step_filled (go_to site target) h = siblings target ∙ h
      fine_step_filled (fall_to_child site hang) h = subst (λ (n : ℕ). 0 < n) (sym children) h
      fine_step_filled _ h = h

      fine_block_filled : (b : Block) → EveryInBlock (FineCommand w q g) b → EveryInBlock (FineCommand w j i) (filled_block w at b)
      fine_block_filled b h =
          every_mapped_block (filled_step w at) (filled_hang w at) (FineCommand w q g) (FineCommand w j i)
          (asks_mapped (filled_step w at) (filled_hang w at) (FineStep w q g) (FineStep w j i) (FineTerm w) (FineTerm w) fine_step_filled (λ e t. t)) b h

    -- what hangs, where the children are the same and assign the same
    module _ (s : ℕ) (g i : Group) (children : (x : ℕ) → among i x ≡ among g x) (assigned : (x : ℕ) → group_assigns i x ≡ group_assigns g x) where
      step_hangs_filled : (k : Step) (x : ℕ) → step_hangs s i (filled_step w at k) x ≡ step_hangs s g k x
      step_hangs_filled (fall_to_child site hang) x = or_equal _ _ _ _ (children x) (assigned x)
      step_hangs_filled _ x = refl

      pub hangs_filled : (c : Command) (x : ℕ) → hangs s i (filled w at c) x ≡ hangs s g c x
      hangs_filled c x = gathered_filled w false ◌||◌ (λ k. step_hangs s i k x) (λ k. step_hangs s g k x) at (λ k. step_hangs_filled k x) c

  -- what is filled is named as before
  named_step_unfilled : (at : Home) (k : Step) → WellNamedStep w (filled_step w at k) → WellNamedStep w k
  named_step_unfilled at (assign site x e) h = h
  named_step_unfilled at _ h = h

  pub named_group_unfilled : (p : ℕ) (g : Group) → WellNamedGroup w (filled_group w p g) → WellNamedGroup w g
  named_group_unfilled p g h = every_unfilled_group w (WellNamedStep w) (WellNamedStep w) (FineTerm w) named_step_unfilled p g h

  -- what the bodies of states do
  pub group_assigns_filled : (p : ℕ) (g : Group) (x : ℕ) → group_assigns (filled_group w p g) x ≡ group_assigns g x
  group_assigns_filled p g x = gathered_filled_group w false ◌||◌ (λ t. block_assigns (body_of t) x) (λ t. block_assigns (body_of t) x) (λ q t. body_assigns q t x) p g
    where
      body_assigns : (q : ℕ) (t : State) (y : ℕ) → block_assigns (body_of (filled_state w q t)) y ≡ block_assigns (body_of t) y
      body_assigns q (state_node s b k) y = block_assigns_filled (record { state = s; parent = q; children = k }) b y

  group_retags_filled : (p : ℕ) (g : Group) (x : ℕ) → group_retags (filled_group w p g) x ≡ group_retags g x
  group_retags_filled p g x = gathered_filled_group w false ◌||◌ (λ t. block_retags (body_of t) x) (λ t. block_retags (body_of t) x) (λ q t. body_retags q t x) p g
    where
      body_retags : (q : ℕ) (t : State) (y : ℕ) → block_retags (body_of (filled_state w q t)) y ≡ block_retags (body_of t) y
      body_retags q (state_node s b k) y = block_retags_filled (record { state = s; parent = q; children = k }) b y

  mutual
    state_reaches_filled : (p : ℕ) (t : State) (m : ℕ) → state_reaches (filled_state w p t) m ≡ state_reaches t m
    state_reaches_filled p (state_node s b g) m =
        block_reaching_filled (record { state = s; parent = p; children = g }) (group_reaches (filled_group w s g)) (group_reaches g)
        (λ n. group_reaches_filled s g n) b m

    group_reaches_filled : (p : ℕ) (g : Group) (m : ℕ) → group_reaches (filled_group w p g) m ≡ group_reaches g m
    group_reaches_filled p no_node m = refl
    group_reaches_filled p (and_node t g) m = or_equal _ _ _ _ (state_reaches_filled p t m) (group_reaches_filled p g m)

  module _ (at : Home) (p : ℕ) (g : Group) where
    abbrev Same : Block → Type 0
    Same b = (m : ℕ) → block_reaching (group_reaches (filled_group w p g)) (filled_block w at b) m ≡ block_reaching (group_reaches g) b m

    same_reach : (b : Block) → Same b
    same_reach b m = block_reaching_filled at (group_reaches (filled_group w p g)) (group_reaches g) (λ n. group_reaches_filled p g n) b m

    -- where a fall leads to what has to hold there
    module _ (below behind : Type 0) (lead : below → behind) where
      once_step_filled : (k : Step) → OnceStep below k → OnceStep behind (filled_step w at k)
      once_step_filled (fall_to_child site hang) h = lead h
      once_step_filled _ h = h

      mutual
        once_filled : (c : Command) → Once g below c → Once (filled_group w p g) behind (filled w at c)
        once_filled (lone k) h = once_step_filled k h
        once_filled (try k hang b) h = (once_step_filled k h.0, once_block_filled b h.1, λ m. rw (step_writes_filled at k m, same_reach b m) (h.2 m))
        once_filled (if_else hang e a b) h = (once_block_filled a h.0, once_block_filled b h.1)
        once_filled (try_then k hang a b) h = (
          once_step_filled k h.0,
          once_block_filled a h.1,
          once_block_filled b h.2,
          λ m. rw (step_reaching_filled at (group_reaches (filled_group w p g)) (group_reaches g) (λ n. group_reaches_filled p g n) k m, same_reach a m) (h.3 m),
          λ m. rw (step_writes_filled at k m, same_reach b m) (h.4 m),
        )
        once_filled (case_of hang e arms) h = once_arms_filled arms h

        once_arms_filled : (arms : Arms) → OnceArms g below arms → OnceArms (filled_group w p g) behind (filled_arms w at arms)
        once_arms_filled (last_arm b) h = once_block_filled b h
        once_arms_filled (and_arm constants b arms) h = (once_block_filled b h.0, once_arms_filled arms h.1)

        once_block_filled : (b : Block) → OnceBlock g below b → OnceBlock (filled_group w p g) behind (filled_block w at b)
        once_block_filled end_block h = h
        once_block_filled (command_then c cs) h = (
          once_filled c h.0,
          once_block_filled cs h.1,
          λ m. rw (reaching_filled at (group_reaches (filled_group w p g)) (group_reaches g) (λ n. group_reaches_filled p g n) c m, same_reach cs m) (h.2 m),
        )

  mutual
    once_state_filled : (p : ℕ) (t : State) → OnceState t → OnceState (filled_state w p t)
    once_state_filled p (state_node s b g) h =
        once_block_filled (record { state = s; parent = p; children = g }) s g (OnceGroup g) (OnceGroup (filled_group w s g)) (λ once. once_group_filled s g once) b h

    pub once_group_filled : (p : ℕ) (g : Group) → OnceGroup g → OnceGroup (filled_group w p g)
    once_group_filled p no_node h = h
    once_group_filled p (and_node t g) h = (once_state_filled p t h.0, once_group_filled p g h.1)

  -- what a program has from a well-formed design
  mutual
    fine_state_filled : (p : ℕ) (q : Group) (n : ℕ) (t : State) → FineState w q n t → FineState w (filled_group w p q) n (filled_state w p t)
    fine_state_filled p q n (state_node s b g) h =
        let at : Home = record { state = s; parent = p; children = g } in
        let node : FineNode w q n s b g = h.0 in
        let node' : FineNode w (filled_group w p q) n s (filled_block w at b) (filled_group w s g) = record {
          kind = node.kind;
          placed = node.placed;
          count = node.count ∙ sym (size_filled s g);
          numbers = λ x. inside_filled s g x ∙ node.numbers x;
          itself = node.itself;
          declared = node.declared;
          steps = fine_block_filled at q (filled_group w p q) g (filled_group w s g) (among_filled p q) (size_filled s g) b node.steps;
          closes = closes_filled at b node.closes;
          retags_itself = or_equal _ _ _ _ (block_retags_filled at b s) (group_retags_filled s g s) ∙ node.retags_itself;
          retags_below = λ x i. block_retags_filled at b x ∙ node.retags_below x (sym (inside_filled s g x) ∙ i);
        } in
        (node', fine_group_filled s g 0 g h.1)

    pub fine_group_filled : (p : ℕ) (q : Group) (n : ℕ) (g : Group) → FineGroup w q n g → FineGroup w (filled_group w p q) n (filled_group w p g)
    fine_group_filled p q n no_node h = h
    fine_group_filled p q n (and_node t g) h = (
      fine_state_filled p q n t h.0,
      fine_group_filled p q (suc n) g h.1,
      λ x i. rw (number_filled p t) (h.2 x (sym (inside_filled p g x) ∙ i)),
    )
