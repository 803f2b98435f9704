-- What registers, memories and states have apart.
use Rattle.sap_lemmas.proofs.Common.{◌≡◌, ℕ, suc, Bool, true, false, ◌||◌, refl, sym, ◌∙◌, nat_eq, inl, inr, and_left, eqb-true, false_from_ne_true, ne_eqb, or_cases, or_from, or_left, or_right}
use Rattle.sap_meaning.proofs.ProgramLemmas.{memory_no_state, register_no_memory, register_no_state}
use Rattle.sap_meaning.proofs.FineLemmas.{inside_among}
use Rattle.sap_meaning.specs.Prelude.{World, is_dynamic, entity, is_register, is_memory, is_state, Step, assign, write, retag_cell, go_to, fall_to_child, Command, Block, State, state_node, Group, no_node, and_node, among, step_assigns, block_assigns, state_assigns, group_assigns, step_hangs, hangs, block_hangs, FineTerm, FineStep, FineCommand, FineState, FineGroup, inside, step_writes, writes, step_reaches, reaches, block_reaches, Every, EveryInBlock}
use Rattle.sap_meaning.specs.Touches.{assigns}
use Rattle.sap_meaning.proofs.WalksLemmas.{none_passes, none_passes_in_block, some_follows, some_follows_in_block, passes_follow, gathered_alike, gathered_in_block_alike}
use Rattle.sap_secure.proofs.Concerns.{parted_of, group_parted, step_concerns, concerns, block_concerns}

module _ (w : World) where
  pub register_apart : (x y : ℕ) → is_state w x ≡ true → is_register w y ≡ true → nat_eq x y ≡ false
  register_apart x y s r = ne_eqb x y (λ e. let r' = rw (← e) at r in let f = register_no_state (entity w x).kind r' in cc)

  pub memory_apart : (x y : ℕ) → is_state w x ≡ true → is_memory w y ≡ true → nat_eq x y ≡ false
  memory_apart x y s r = ne_eqb x y (λ e. let r' = rw (← e) at r in let f = memory_no_state (entity w x).kind r' in cc)

  pub cell_apart : (m y : ℕ) → is_memory w m ≡ true → is_register w y ≡ true → nat_eq m y ≡ false
  cell_apart m y s r = ne_eqb m y (λ e. let r' = rw (← e) at r in let f = register_no_memory (entity w m).kind r' in cc)

  pub state_no_register : (x : ℕ) → is_state w x ≡ true → is_register w x ≡ false
  state_no_register x s = false_from_ne_true _ (λ r. let f = register_no_state (entity w x).kind r in cc)

  pub state_no_memory : (x : ℕ) → is_state w x ≡ true → is_memory w x ≡ false
  state_no_memory x s = false_from_ne_true _ (λ r. let f = memory_no_state (entity w x).kind r in cc)

  pub no_state : (x : ℕ) → (is_register w x || is_memory w x) ≡ true → is_state w x ≡ false
  no_state x h = elim (or_cases _ _ h) [ inl r ↦ register_no_state (entity w x).kind r | inr m ↦ memory_no_state (entity w x).kind m ]

  -- what is neither register nor memory is assigned nowhere
  module _ (x : ℕ) (r : is_register w x ≡ false) (m : is_memory w x ≡ false) where
    step_unassigned : (q j : Group) (k : Step) → FineStep w q j k → step_assigns k x ≡ false
    step_unassigned q j (assign site y e) fine = ne_eqb x y (λ h. let yes : is_register w y ≡ true = fine.0 in let r' = rw h at r in cc)
    step_unassigned q j (write site n i e) fine = ne_eqb x n (λ h. let yes : is_memory w n ≡ true = fine.0 in let m' = rw h at m in cc)
    step_unassigned q j _ fine = refl

    pub unassigned : (q j : Group) (c : Command) → Every (FineCommand w q j) c → assigns c x ≡ false
    unassigned q j c fine = none_passes (FineStep w q j) (FineTerm w) (λ k. step_assigns k x) (step_unassigned q j) c fine

    pub block_unassigned : (q j : Group) (b : Block) → EveryInBlock (FineCommand w q j) b → block_assigns b x ≡ false
    block_unassigned q j b fine = none_passes_in_block (FineStep w q j) (FineTerm w) (λ k. step_assigns k x) (step_unassigned q j) b fine

    mutual
      pub state_unassigned : (q : Group) (n : ℕ) (t : State) → FineState w q n t → state_assigns t x ≡ false
      state_unassigned q n (state_node e b g) fine = or_from _ _ (block_unassigned q g b fine.0.steps) (group_unassigned g 0 g fine.1)

      pub group_unassigned : (q : Group) (n : ℕ) (g : Group) → FineGroup w q n g → group_assigns g x ≡ false
      group_unassigned q n no_node fine = refl
      group_unassigned q n (and_node t g) fine = or_from _ _ (state_unassigned q n t fine.0) (group_unassigned q (suc n) g fine.1)

  -- an enforced memory that concerns a body is reached
  module _ (m : ℕ) (mem : is_memory w m ≡ true) (d : is_dynamic w m ≡ false) (e : ℕ) (g : Group) (own : nat_eq m e ≡ false) (kids : among g m ≡ false) where
    step_hung : (q j : Group) (k : Step) → FineStep w q j k → step_concerns w e g k m ≡ true → step_reaches g k m ≡ true
    step_hung q j (assign site y e') fine h = let no = cell_apart m y mem fine.0 in cc
    step_hung q j (write site n i e') fine h = h
    step_hung q j (fall_to_child site hang) fine h = sym (group_parted w m (parted_of w m mem d) g) ∙ rw kids at h
    step_hung q j _ fine h = cc

    pub hung : (q j : Group) (c : Command) → Every (FineCommand w q j) c → concerns w e g c m ≡ true → reaches g c m ≡ true
    hung q j c fine h = some_follows (FineStep w q j) (FineTerm w) (λ k. step_concerns w e g k m) (λ k. step_reaches g k m) (step_hung q j) c fine h

    pub block_hung : (q j : Group) (b : Block) → EveryInBlock (FineCommand w q j) b → block_concerns w e g b m ≡ true → block_reaches g b m ≡ true
    block_hung q j b fine h = some_follows_in_block (FineStep w q j) (FineTerm w) (λ k. step_concerns w e g k m) (λ k. step_reaches g k m) (step_hung q j) b fine h

  -- a state that is neither the body's own nor a child hangs on nothing
  module _ (x : ℕ) (s : is_state w x ≡ true) (e : ℕ) (g : Group) (own : nat_eq x e ≡ false) (kids : among g x ≡ false) (free : group_assigns g x ≡ false) where
    pub step_unhung : (q : Group) (k : Step) → FineStep w q g k → step_hangs e g k x ≡ false
    step_unhung q (assign site y t) fine = register_apart x y s fine.0
    step_unhung q (write site m i t) fine = memory_apart x m s fine.0
    step_unhung q (go_to site target) fine = own
    step_unhung q (fall_to_child site hang) fine = or_from _ _ kids free
    step_unhung q _ fine = refl

    pub unhung : (q : Group) (c : Command) → Every (FineCommand w q g) c → hangs e g c x ≡ false
    unhung q c fine = none_passes (FineStep w q g) (FineTerm w) (λ k. step_hangs e g k x) (step_unhung q) c fine

    pub block_unhung : (q : Group) (b : Block) → EveryInBlock (FineCommand w q g) b → block_hangs e g b x ≡ false
    block_unhung q b fine = none_passes_in_block (FineStep w q g) (FineTerm w) (λ k. step_hangs e g k x) (step_unhung q) b fine

  -- what writes, reaches
  module _ (g : Group) (m : ℕ) where
    step_within : (k : Step) → step_writes k m ≡ true → step_reaches g k m ≡ true
    step_within (write site n i e) h = h
    step_within (retag_cell site n d t) h = h
    step_within _ h = cc

    pub writes_within : (c : Command) → writes c m ≡ true → reaches g c m ≡ true
    writes_within c h = passes_follow (λ k. step_writes k m) (λ k. step_reaches g k m) step_within c h

-- a register or memory that hangs on a block is assigned in it or in a body below
module _ (e : ℕ) (g : Group) (x : ℕ) (own : nat_eq x e ≡ false) (kids : among g x ≡ false) where
  abbrev Found : Bool → Bool → Type 0
  Found h a = h ≡ true → (a || group_assigns g x) ≡ true

  either_side : (h i a b : Bool) → Found h a → Found i b → Found (h || i) (a || b)
  either_side true i false b f k j = or_right b (group_assigns g x) (f refl)
  either_side false i false b f k j = k j
  either_side _ i true b f k j = refl

  step_found : (k : Step) → Found (step_hangs e g k x) (step_assigns k x)
  step_found (assign site y t) h = or_left _ _ h
  step_found (write site m i t) h = or_left _ _ h
  step_found (fall_to_child site hang) h = rw kids at h
  step_found _ h = cc

  pub found : (c : Command) → Found (hangs e g c x) (assigns c x)
  found c = gathered_alike false ◌||◌ false ◌||◌ Found (λ h. cc) either_side (λ k. step_hangs e g k x) (λ k. step_assigns k x) step_found c

  pub block_found : (b : Block) → Found (block_hangs e g b x) (block_assigns b x)
  block_found b = gathered_in_block_alike false ◌||◌ false ◌||◌ Found (λ h. cc) either_side (λ k. step_hangs e g k x) (λ k. step_assigns k x) step_found b

module _ (w : World) where
  -- and are states
  pub inside_state : (q : Group) (n : ℕ) (g : Group) → FineGroup w q n g → (x : ℕ) → inside g x ≡ true → is_state w x ≡ true
  inside_state q n no_node fine x h = cc
  inside_state q n (and_node (state_node c b k) g) fine x h = elim (or_cases (nat_eq x c) _ h) [
    | inl e ↦ rw (eqb-true x c e) fine.0.0.kind
    | inr e ↦ elim (or_cases (inside k x) (inside g x) e) [
      | inl i ↦ and_left _ _ (sym (fine.0.0.numbers x) ∙ i)
      | inr i ↦ inside_state q (suc n) g fine.1 x i
    ]
  ]

  pub apart_of : (q : Group) (n : ℕ) (g : Group) → FineGroup w q n g → (x : ℕ) → is_state w x ≡ false → among g x ≡ false
  apart_of q n g fine x s = false_from_ne_true (among g x) (λ h. let k = inside_state q n g fine x (inside_among g x h) in cc)
