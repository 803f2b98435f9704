-- What concerns a command: what hangs on it; but an enforced memory only where it, or a body that it may fall into, writes a cell.
use Rattle.sap_lemmas.proofs.Common.{◌≡◌, ℕ, Bool, true, false, not, ◌&&◌, ◌||◌, refl, sym, ap, ◌∙◌, nat_eq, if◌then◌else◌, or_equal, and_from}
use Rattle.sap_meaning.specs.Prelude.{World, is_dynamic, is_memory, Step, assign, write, go_to, fall_to_child, Command, Arms, Block, State, state_node, Group, no_node, and_node, some_in_arms, some_in_block, among, block_assigns, state_assigns, group_assigns, step_hangs, hangs, block_hangs, block_reaches, state_reaches, group_reaches}
use Rattle.sap_meaning.specs.Walks.{some}

-- an enforced memory
abbrev pub parted : World → ℕ → Bool
parted w x = is_memory w x && not (is_dynamic w x)

abbrev pub state_concerns : World → State → ℕ → Bool
state_concerns w (state_node s b g) x = if parted w x then block_reaches g b x else block_assigns b x || group_assigns g x

abbrev pub group_concerns : World → Group → ℕ → Bool
group_concerns w no_node x = false
group_concerns w (and_node t g) x = state_concerns w t x || group_concerns w g x

abbrev pub step_concerns : World → ℕ → Group → Step → ℕ → Bool
step_concerns w s g (assign site y e) x = nat_eq x y
step_concerns w s g (write site m i e) x = nat_eq x m
step_concerns w s g (go_to site target) x = nat_eq x s
step_concerns w s g (fall_to_child site hang) x = among g x || group_concerns w g x
step_concerns w s g _ x = false

abbrev pub concerns : World → ℕ → Group → Command → ℕ → Bool
concerns w s g c x = some (λ k. step_concerns w s g k x) c

abbrev pub arms_concern : World → ℕ → Group → Arms → ℕ → Bool
arms_concern w s g arms x = some_in_arms (λ k. step_concerns w s g k x) arms

abbrev pub block_concerns : World → ℕ → Group → Block → ℕ → Bool
block_concerns w s g b x = some_in_block (λ k. step_concerns w s g k x) b

module _ (w : World) (x : ℕ) where
  pub parted_of : is_memory w x ≡ true → is_dynamic w x ≡ false → parted w x ≡ true
  parted_of m d = and_from (is_memory w x) (not (is_dynamic w x)) m (rw d refl)

  and_not : (a b : Bool) → b ≡ true → (a && not b) ≡ false
  and_not true b h = rw h refl
  and_not false b h = refl

  pub dynamic_whole : is_dynamic w x ≡ true → parted w x ≡ false
  dynamic_whole d = and_not (is_memory w x) (is_dynamic w x) d

  -- of an enforced memory
  pub group_parted : parted w x ≡ true → (g : Group) → group_concerns w g x ≡ group_reaches g x
  group_parted p no_node = refl
  group_parted p (and_node (state_node s b k) g) =
      or_equal (state_concerns w (state_node s b k) x) (group_concerns w g x) (state_reaches (state_node s b k) x) (group_reaches g x) (rw p refl) (group_parted p g)

  -- of what is none
  module _ (p : parted w x ≡ false) where
    group_whole : (g : Group) → group_concerns w g x ≡ group_assigns g x
    group_whole no_node = refl
    group_whole (and_node (state_node s b k) g) =
        or_equal (state_concerns w (state_node s b k) x) (group_concerns w g x) (state_assigns (state_node s b k) x) (group_assigns g x) (rw p refl) (group_whole g)

    step_whole : (s : ℕ) (g : Group) (k : Step) → step_concerns w s g k x ≡ step_hangs s g k x
    step_whole s g (fall_to_child site hang) = ap (λ (r : Bool). among g x || r) (group_whole g)
    step_whole s g _ = refl

    pub whole : (s : ℕ) (g : Group) (c : Command) → concerns w s g c x ≡ hangs s g c x
    whole s g c = ap (λ (p : Step → Bool). some p c) (λ i k. step_whole s g k i)

    pub block_whole : (s : ℕ) (g : Group) (b : Block) → block_concerns w s g b x ≡ block_hangs s g b x
    block_whole s g b = ap (λ (p : Step → Bool). some_in_block p b) (λ i k. step_whole s g k i)

with_both : (a b c : Bool) → (a ≡ true → b ≡ c) → (a && b) ≡ true → (a && c) ≡ true
with_both true b c f h = sym (f refl) ∙ h
with_both false b c f h = h

module _ (w : World) (s : ℕ) (g : Group) where
  -- what is dynamic concerns a command where it hangs on it
  pub concerned : (c : Command) (x : ℕ) → (is_dynamic w x && hangs s g c x) ≡ true → (is_dynamic w x && concerns w s g c x) ≡ true
  concerned c x h = with_both (is_dynamic w x) (hangs s g c x) (concerns w s g c x) (λ d. sym (whole w x (dynamic_whole w x d) s g c)) h

  pub hanging : (c : Command) (x : ℕ) → (is_dynamic w x && concerns w s g c x) ≡ true → (is_dynamic w x && hangs s g c x) ≡ true
  hanging c x h = with_both (is_dynamic w x) (concerns w s g c x) (hangs s g c x) (λ d. whole w x (dynamic_whole w x d) s g c) h

  pub block_hanging : (b : Block) (x : ℕ) → (is_dynamic w x && block_concerns w s g b x) ≡ true → (is_dynamic w x && block_hangs s g b x) ≡ true
  block_hanging b x h = with_both (is_dynamic w x) (block_concerns w s g b x) (block_hangs s g b x) (λ d. block_whole w x (dynamic_whole w x d) s g b) h

  pub group_hanging : (x : ℕ) → (is_dynamic w x && group_concerns w g x) ≡ true → (is_dynamic w x && group_assigns g x) ≡ true
  group_hanging x h = with_both (is_dynamic w x) (group_concerns w g x) (group_assigns g x) (λ d. group_whole w x (dynamic_whole w x d) g) h
