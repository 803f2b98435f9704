-- What runs leave alone.
use Rattle.sap_lemmas.proofs.Common.{◌≡◌, ℕ, zero, suc, Bool, true, false, ◌&&◌, ◌||◌, refl, sym, ap, ◌∙◌, nat_eq, inl, inr, cases_Bool, false_from_ne_true, or_cases, or_from, or_left, or_right, neither_left, neither_right, test_of_same}
use Rattle.sap_meaning.proofs.FineLemmas.{inside_among}
use Rattle.sap_maps.specs.Term.{Term}
use Rattle.sap_meaning.specs.Prelude.{within, World, is_dynamic, is_memory, is_state, place, below, Step, assign, write, retag, retag_cell, go_to, fall_to_child, Command, lone, try, if_else, try_then, case_of, Arms, last_arm, and_arm, Block, end_block, command_then, State, state_node, Group, no_node, and_node, Slot, own, start, next, Store, owner, home, level, child, same_slot, put_number, put_level, put_child, raised, raise, lowered, reset, After, stay, value, tag, Home, guard, test, among, step_hangs, touches, raised_alone, group_assigns, step_retags, retags, block_retags, state_retags, group_retags, effect, attempt, select, branch, does, does_block, does_state, does_child, attempt_then, does_arms, FineTerm, FineStep, FineCommand, FineState, FineGroup, transfers, Open, inside, step_writes, writes, Every, EveryInArms, EveryInBlock, Asks}
use Rattle.sap_meaning.proofs.Slots.{slot_same, home_next, home_start, owner_home}
use Rattle.sap_meaning.proofs.Keeps.{branch_all, choose_all}
use Rattle.sap_meaning.proofs.WalksLemmas.{none_passes}
use Rattle.sap_secure.proofs.Apart.{register_apart, memory_apart, state_no_register, state_no_memory, group_unassigned, step_unhung}
use Rattle.sap_secure.proofs.Sites.{Site, spot, Proper, ProperStep, Any, none_each, none_in_block, known_both, known_in_block}

-- what is not touched does not hang
pub untouched : (d a : Bool) → a ≡ false → (d && a) ≡ false
untouched true a h = h
untouched false a h = refl

-- the level of z and the current child of q
pub record Kept (w : World) (z : Slot) (q : ℕ) (s t : Store) : Type 0 where
  pub level : level w z t ≡ level w z s
  pub seat : child q t ≡ child q s

pub kept_self : (w : World) (z : Slot) (q : ℕ) (s : Store) → Kept w z q s s
kept_self w z q s = record { level = refl; seat = refl }

pub kept_next : (w : World) (z : Slot) (q : ℕ) (s t u : Store) → Kept w z q s t → Kept w z q t u → Kept w z q s u
kept_next w z q s t u h k = record { level = k.level ∙ h.level; seat = k.seat ∙ h.seat }

pub kept_number : (w : World) (z : Slot) (q : ℕ) (s : Store) (y : Slot) (n : ℕ) → Kept w z q s (put_number y n s)
unfolding put_number
kept_number w z q s y n = record { level = refl; seat = refl }

pub kept_level : (w : World) (z : Slot) (q : ℕ) (s : Store) (y : Slot) (t : ℕ) → same_slot (home w z) (home w y) ≡ false → Kept w z q s (put_level w y t s)
unfolding put_level
kept_level w z q s y t h = record { level = rw h refl; seat = refl }

pub kept_raise : (w : World) (z : Slot) (q : ℕ) (s : Store) (h : ℕ → Bool) (a : ℕ) → raised h (home w z) ≡ false → Kept w z q s (raise w.order h a s)
unfolding raise
kept_raise w z q s h a e = record { level = rw e refl; seat = refl }

pub kept_child : (w : World) (z : Slot) (q : ℕ) (s : Store) (p n : ℕ) → nat_eq q p ≡ false → Kept w z q s (put_child p n s)
unfolding put_child
kept_child w z q s p n h = record { level = refl; seat = rw h refl }

pub kept_reset : (w : World) (z : Slot) (q : ℕ) (s : Store) (target : ℕ) → lowered w target (home w z) ≡ false
    → (nat_eq q target || below w target q) ≡ false → Kept w z q s (reset w target s)
unfolding reset
kept_reset w z q s target h k = record {
  level = rw h refl;
  seat =
      rw (neither_left (nat_eq q target) (below w target q) k, neither_right (nat_eq q target) (below w target q) k) refl;
}

module _ (w : World) (z : Slot) (q : ℕ) where
  pub kept_attempt : (at : Home) (enter : ℕ → ℕ → Store → After) (k : Step) (hang : ℕ → Bool) (h : ℕ → Store → After) (pc : ℕ) (s : Store)
      → raised hang (home w z) ≡ false → ((b t : Store) → Kept w z q t (effect (within w at enter) k pc b t).store)
      → ((p : ℕ) (t : Store) → Kept w z q t (h p t).store) → Kept w z q s (attempt (within w at enter) k hang h pc s).store
  unfolding attempt
  kept_attempt at enter k hang h pc s off g f =
      let up = kept_raise w z q s hang (guard w at k s) off in
      elim (cases_Bool (test w at k pc s)) [ inl t ↦ rw t (kept_next w z q _ _ _ up (g s _)) | inr t ↦ rw t (kept_next w z q _ _ _ up (f _ _)) ]

  pub kept_attempt_then : (at : Home) (enter : ℕ → ℕ → Store → After) (k : Step) (hang : ℕ → Bool) (f g : ℕ → Store → After) (pc : ℕ) (s : Store) → raised hang (home w z) ≡ false
      → ((b t : Store) → Kept w z q t (effect (within w at enter) k pc b t).store) → ((p : ℕ) (t : Store) → Kept w z q t (f p t).store) → ((p : ℕ) (t : Store) → Kept w z q t (g p t).store)
      → Kept w z q s (attempt_then (within w at enter) k hang f g pc s).store
  unfolding attempt_then
  kept_attempt_then at enter k hang f g pc s off e a b =
      let up = kept_raise w z q s hang (guard w at k s) off in
      elim (cases_Bool (test w at k pc s)) [
        | inl t ↦ rw t (kept_next w z q _ _ _ up (kept_next w z q _ _ _ (e s _) (a _ _)))
        | inr t ↦ rw t (kept_next w z q _ _ _ up (b _ _))
      ]

  pub kept_pick : (e : Term ℕ) (hang : ℕ → Bool) (pick : ℕ → ℕ → Store → After) (pc : ℕ) (s : Store) → raised hang (home w z) ≡ false
      → ((v p : ℕ) (t : Store) → Kept w z q t (pick v p t).store)
      → Kept w z q s (select w e hang pick pc s).store
  unfolding select
  kept_pick e hang pick pc s off f = kept_next w z q _ _ _ (kept_raise w z q s hang (tag w e s) off) (f _ _ _)

  pub kept_select : (e : Term ℕ) (hang : ℕ → Bool) (a b : ℕ → Store → After) (pc : ℕ) (s : Store) → raised hang (home w z) ≡ false
      → ((p : ℕ) (t : Store) → Kept w z q t (a p t).store) → ((p : ℕ) (t : Store) → Kept w z q t (b p t).store) → Kept w z q s (select w e hang (branch a b) pc s).store
  unfolding select
  kept_select e hang a b pc s off f g =
      kept_next w z q _ _ _ (kept_raise w z q s hang (tag w e s) off) (branch_all (λ r. Kept w z q (raise w.order hang (tag w e s) s) r.store) a b _ _ _ (f _ _) (g _ _))

module _ (w : World) (z : Slot) (q : ℕ) (at : Home) (enter : ℕ → ℕ → Store → After) where
  -- z does not hang on the command
  abbrev pub Off : Command → Type 0
  Off (lone k) = raised (raised_alone w at k) (home w z) ≡ false
  Off c = raised (touches w at c) (home w z) ≡ false

  -- Where z hangs on no command, commands keep what each of their steps keeps.
  module _ (P : Step → Type 0) (off : (c : Command) → Every (Asks P Any) c → Off c)
      (step : (k : Step) → P k → (pc : ℕ) (b t : Store) → Kept w z q t (effect (within w at enter) k pc b t).store) where
    mutual
      unfolding does does_arms does_block

      pub walk_kept : (c : Command) → Every (Asks P Any) c → (pc : ℕ) (t : Store) → Kept w z q t (does (within w at enter) c pc t).store
      walk_kept (lone k) h pc t =
          kept_attempt w z q at enter k (raised_alone w at k) (λ p t. stay t) pc t (off (lone k) h) (λ b r. step k h pc b r) (λ p t. kept_self w z q t)
      walk_kept (try k hang b) h pc t =
          kept_attempt w z q at enter k (touches w at (try k hang b)) (does_block (within w at enter) b) pc t (off (try k hang b) h)
          (λ b' r. step k h.0 pc b' r) (λ p t. walk_list b h.1 p t)
      walk_kept (if_else hang e a b) h pc t =
          kept_select w z q e (touches w at (if_else hang e a b)) (does_block (within w at enter) a) (does_block (within w at enter) b) pc t (off (if_else hang e a b) h)
          (λ p t. walk_list a h.1 p t) (λ p t. walk_list b h.2 p t)
      walk_kept (try_then k hang a b) h pc t =
          kept_attempt_then w z q at enter k (touches w at (try_then k hang a b)) (does_block (within w at enter) a) (does_block (within w at enter) b) pc t
          (off (try_then k hang a b) h) (λ b' r. step k h.0 pc b' r) (λ p t. walk_list a h.1 p t) (λ p t. walk_list b h.2 p t)
      walk_kept (case_of hang e arms) h pc t =
          kept_pick w z q e (touches w at (case_of hang e arms)) (does_arms (within w at enter) arms) pc t (off (case_of hang e arms) h) (λ v p t. walk_arms arms h.1 v p t)

      walk_arms : (arms : Arms) → EveryInArms (Asks P Any) arms → (v pc : ℕ) (t : Store) → Kept w z q t (does_arms (within w at enter) arms v pc t).store
      walk_arms (last_arm b) h v pc t = walk_list b h pc t
      walk_arms (and_arm cs b arms) h v pc t =
          choose_all (λ r. Kept w z q t r.store) cs (does_block (within w at enter) b) (does_arms (within w at enter) arms) v pc t (walk_list b h.0 pc t) (walk_arms arms h.1 v pc t)

      pub walk_list : (b : Block) → EveryInBlock (Asks P Any) b → (pc : ℕ) (t : Store) → Kept w z q t (does_block (within w at enter) b pc t).store
      walk_list end_block h pc t = kept_self w z q t
      walk_list (command_then c cs) h pc t = kept_next w z q _ _ _ (walk_kept c h.0 pc t) (walk_list cs h.1 pc _)

-- open commands in the body of a state
module _ (w : World) (i : Site w) (q : ℕ) where
  -- the state x, at the place or below it
  module _ (x : ℕ) (s : is_state w x ≡ true) where
    pub open_step : (k : Step) → ProperStep w i k → transfers k ≡ false → step_retags k x ≡ false → (pc : ℕ) (b t : Store)
        → Kept w (own x) q t (effect (within w (spot i) i.enter) k pc b t).store
    unfolding effect
    open_step (assign site y e) fine plain un pc b t =
        kept_next w (own x) q _ _ _ (kept_number w (own x) q t (own y) _) (kept_level w (own x) q _ (own y) _ (register_apart w x y s fine.0.0))
    open_step (write site m j e) fine plain un pc b t = elim (cases_Bool (is_dynamic w m)) [
      | inl d ↦ rw d (kept_next w (own x) q _ _ _ (kept_raise w (own x) q t (λ y. nat_eq y m) _ (memory_apart w x m s fine.0.0)) (kept_number w (own x) q _ (next m _) _))
      | inr d ↦ rw d (kept_number w (own x) q t (next m _) _)
    ]
    open_step (retag site y n) fine plain un pc b t = kept_next w (own x) q _ _ _ (kept_number w (own x) q t (own y) _) (kept_level w (own x) q _ (own y) _ un)
    open_step (retag_cell site m j n) fine plain un pc b t =
        kept_next w (own x) q _ _ _ (kept_number w (own x) q t (next m _) _) (kept_level w (own x) q _ (next m _) _ (cells_apart m (value w j b)))
      where
        cells_apart : (m j : ℕ) → same_slot (own x) (home w (next m j)) ≡ false
        cells_apart m j = elim (cases_Bool (is_dynamic w m)) [ inl d ↦ rw d refl | inr d ↦ rw d refl ]
    open_step _ fine plain un pc b t = cc

    step_off : (k : Step) → ProperStep w i k → transfers k ≡ false → step_hangs i.state i.kids k x ≡ false
    step_off (assign site y e) fine plain = register_apart w x y s fine.0.0
    step_off (write site m j e) fine plain = memory_apart w x m s fine.0.0
    step_off (go_to site target) fine plain = cc
    step_off (fall_to_child site hang) fine plain = cc
    step_off _ fine plain = refl

    alone_off : (k : Step) → transfers k ≡ false → raised_alone w (spot i) k x ≡ false
    alone_off (go_to site target) plain = cc
    alone_off (fall_to_child site hang) plain = cc
    alone_off _ plain = refl

    -- an open command's steps, which don't retag x
    abbrev OpenStep : Step → Type 0
    OpenStep k = ProperStep w i k × ((transfers k ≡ false) × ((u : Unit {0}) → step_retags k x ≡ false))

    open_off : (c : Command) → Every (Asks OpenStep Any) c → Off w (own x) q (spot i) i.enter c
    open_off (lone k) all = alone_off k all.1.0
    open_off c all = untouched (is_dynamic w x) _ (none_passes OpenStep Any (λ k. step_hangs i.state i.kids k x) (λ k h. step_off k h.0 h.1.0) c all)

    pub open_kept : (c : Command) → Proper w i c → Open c → retags c x ≡ false → (pc : ℕ) (t : Store) → Kept w (own x) q t (does (within w (spot i) i.enter) c pc t).store
    open_kept c fine plain un pc t =
        walk_kept w (own x) q (spot i) i.enter OpenStep open_off (λ k h pc b r. open_step k h.0 h.1.0 (h.1.1 tt) pc b r) c
        (known_both (ProperStep w i) (λ k. (transfers k ≡ false) × ((u : Unit {0}) → step_retags k x ≡ false)) (FineTerm w) Any c fine
        (known_both (λ k. transfers k ≡ false) (λ k. (u : Unit {0}) → step_retags k x ≡ false) Any Any c plain
        (none_each (λ (u : Unit {0}) (k : Step). step_retags k x) c (λ u. un)))) pc t

  -- a cell z of the enforced memory m
  module _ (m : ℕ) (mem : is_memory w m ≡ true) (d : is_dynamic w m ≡ false) (z : Slot) (cell : (h : ℕ → Bool)
      → raised h (home w z) ≡ false) (at : owner z ≡ m) (unmixed : (x : ℕ) → same_slot (home w z) (own x) ≡ false) where
    pub cell_step : (k : Step) → transfers k ≡ false → step_writes k m ≡ false → (pc : ℕ) (b t : Store) → Kept w z q t (effect (within w (spot i) i.enter) k pc b t).store
    unfolding effect
    cell_step (assign site y e) plain un pc b t = kept_next w z q _ _ _ (kept_number w z q t (own y) _) (kept_level w z q _ (own y) _ (unmixed y))
    cell_step (write site n j e) plain un pc b t = elim (cases_Bool (is_dynamic w n)) [
      | inl y ↦ rw y (kept_next w z q _ _ _ (kept_raise w z q t (λ y. nat_eq y n) _ (cell (λ y. nat_eq y n))) (kept_number w z q _ (next n _) _))
      | inr y ↦ rw y (kept_number w z q t (next n _) _)
    ]
    cell_step (retag site y n) plain un pc b t = kept_next w z q _ _ _ (kept_number w z q t (own y) _) (kept_level w z q _ (own y) _ (unmixed y))
    cell_step (retag_cell site n j t') plain un pc b t = kept_next w z q _ _ _ (kept_number w z q t (next n _) _) (kept_level w z q _ (next n _) _ (other (value w j b)))
      where
        other : (j : ℕ) → same_slot (home w z) (home w (next n j)) ≡ false
        other j = false_from_ne_true _ (λ h.
            let e : owner (home w z) ≡ owner (home w (next n j)) = ap owner (slot_same (home w z) (home w (next n j)) h) in
            let f : m ≡ n = sym at ∙ sym (owner_home w z) ∙ e ∙ owner_home w (next n j) in
            let g : nat_eq m n ≡ true = rw f (test_of_same n) in cc)
    cell_step _ plain un pc b t = cc

    -- an open command's steps, which don't write m
    abbrev CellStep : Step → Type 0
    CellStep k = (transfers k ≡ false) × ((u : Unit {0}) → step_writes k m ≡ false)

    cell_off : (c : Command) → Every (Asks CellStep Any) c → Off w z q (spot i) i.enter c
    cell_off (lone k) all = cell (raised_alone w (spot i) k)
    cell_off c all = cell (touches w (spot i) c)

    pub cell_kept : (c : Command) → Open c → writes c m ≡ false → (pc : ℕ) (t : Store) → Kept w z q t (does (within w (spot i) i.enter) c pc t).store
    cell_kept c plain un pc t =
        walk_kept w z q (spot i) i.enter CellStep cell_off (λ k h pc b r. cell_step k h.0 (h.1 tt) pc b r) c
        (known_both (λ k. transfers k ≡ false) (λ k. (u : Unit {0}) → step_writes k m ≡ false) Any Any c plain
        (none_each (λ (u : Unit {0}) (k : Step). step_writes k m) c (λ u. un))) pc t

-- the parts of an enforced memory's cell
module _ (w : World) (i : Site w) (q m : ℕ) (mem : is_memory w m ≡ true) (d : is_dynamic w m ≡ false) (c : Command) (plain : Open c)
    (un : writes c m ≡ false) (pc : ℕ) (t : Store) where
  pub start_kept : (j : ℕ) → Kept w (start m j) q t (does (within w (spot i) i.enter) c pc t).store
  start_kept j = cell_kept w i q m mem d (start m j) (λ h. rw (home_start w m j d) refl) refl (λ x. rw (home_start w m j d) refl) c plain un pc t

  pub next_kept : (j : ℕ) → Kept w (next m j) q t (does (within w (spot i) i.enter) c pc t).store
  next_kept j = cell_kept w i q m mem d (next m j) (λ h. rw (home_next w m j d) refl) refl (λ x. rw (home_next w m j d) refl) c plain un pc t

-- and under the effect of a step
module _ (w : World) (i : Site w) (q m : ℕ) (mem : is_memory w m ≡ true) (d : is_dynamic w m ≡ false) (k : Step)
    (plain : transfers k ≡ false) (un : step_writes k m ≡ false) (pc : ℕ) (b t : Store) where
  pub start_effect : (j : ℕ) → Kept w (start m j) q t (effect (within w (spot i) i.enter) k pc b t).store
  start_effect j = cell_step w i q m mem d (start m j) (λ h. rw (home_start w m j d) refl) refl (λ x. rw (home_start w m j d) refl) k plain un pc b t

  pub next_effect : (j : ℕ) → Kept w (next m j) q t (effect (within w (spot i) i.enter) k pc b t).store
  next_effect j = cell_step w i q m mem d (next m j) (λ h. rw (home_next w m j d) refl) refl (λ x. rw (home_next w m j d) refl) k plain un pc b t

-- Commands in the bodies below a state e, whose parent is p.
module _ (w : World) (e p : ℕ) (s : is_state w e ≡ true) where
  -- x and all below it are other than e and p
  abbrev Beyond : ℕ → Type 0
  Beyond x = ((nat_eq e x || below w x e) ≡ false) × ((nat_eq p x || below w x p) ≡ false)

  abbrev pub Under : Group → Type 0
  Under g = (x : ℕ) → inside g x ≡ true → Beyond x

  -- in the body of the state c, with children k, in the group g of r
  module _ (c r : ℕ) (k g : Group) (enter : ℕ → ℕ → Store → After) (out : Under g) (own_out : nat_eq e c ≡ false)
      (kids_out : among k e ≡ false) (free : group_assigns k e ≡ false) (away : nat_eq p r ≡ false) (entering : (n pc : ℕ) (t : Store)
      → Kept w (own e) p t (enter n pc t).store) where
    abbrev Here : Home
    Here = record { state = c; parent = r; children = k }

    under_step : (j : Step) → FineStep w g k j → step_retags j e ≡ false → (pc : ℕ) (b t : Store) → Kept w (own e) p t (effect (within w Here enter) j pc b t).store
    unfolding effect
    under_step (assign site y t') fine un pc b t =
        kept_next w (own e) p _ _ _ (kept_number w (own e) p t (own y) _) (kept_level w (own e) p _ (own y) _ (register_apart w e y s fine.0))
    under_step (write site m j t') fine un pc b t = elim (cases_Bool (is_dynamic w m)) [
      | inl d ↦ rw d (kept_next w (own e) p _ _ _ (kept_raise w (own e) p t (λ y. nat_eq y m) _ (memory_apart w e m s fine.0)) (kept_number w (own e) p _ (next m _) _))
      | inr d ↦ rw d (kept_number w (own e) p t (next m _) _)
    ]
    under_step (retag site y n) fine un pc b t = kept_next w (own e) p _ _ _ (kept_number w (own e) p t (own y) _) (kept_level w (own e) p _ (own y) _ un)
    under_step (retag_cell site m j n) fine un pc b t =
        kept_next w (own e) p _ _ _ (kept_number w (own e) p t (next m _) _) (kept_level w (own e) p _ (next m _) _ (cells_apart m (value w j b)))
      where
        cells_apart : (m j : ℕ) → same_slot (own e) (home w (next m j)) ≡ false
        cells_apart m j = elim (cases_Bool (is_dynamic w m)) [ inl d ↦ rw d refl | inr d ↦ rw d refl ]
    under_step (go_to site target) fine un pc b t =
        let f = out target (inside_among g target fine) in
        let one = kept_child w (own e) p t r (place w target) away in
        let two = kept_reset w (own e) p (put_child r (place w target) t) target
        (unlowered (below w target e) (is_dynamic w e) (neither_right (nat_eq e target) (below w target e) f.0)) f.1 in
        let both = kept_next w (own e) p _ _ _ one two in
        elim (cases_Bool (is_dynamic w target)) [
          | inl d ↦ rw d (kept_next w (own e) p _ _ _ both (kept_level w (own e) p _ (own target) _ (neither_left (nat_eq e target) (below w target e) f.0)))
          | inr d ↦ rw d both
        ]
      where
        unlowered : (a b : Bool) → a ≡ false → (a && b) ≡ false
        unlowered true b h = cc
        unlowered false b h = refl
    under_step (fall_to_child site hang) fine un pc b t = entering _ _ t

    alone_free : (j : Step) → FineStep w g k j → raised_alone w Here j e ≡ false
    alone_free (go_to site target) fine = untouched (is_dynamic w e) _ own_out
    alone_free (fall_to_child site hang) fine = untouched (is_dynamic w e) _ (or_from _ _ kids_out free)
    alone_free _ fine = refl

    -- steps that don't retag e
    abbrev UnderStep : Step → Type 0
    UnderStep j = FineStep w g k j × ((u : Unit {0}) → step_retags j e ≡ false)

    under_off : (j : Command) → Every (Asks UnderStep Any) j → Off w (own e) p Here enter j
    under_off (lone j) all = alone_free j all.0
    under_off j all =
        untouched (is_dynamic w e) _
        (none_passes UnderStep Any (λ i. step_hangs c k i e) (λ i h. step_unhung w e s c k own_out kids_out free g i h.0) j all)

    pub under_kept : (j : Command) → Every (FineCommand w g k) j → retags j e ≡ false → (pc : ℕ) (t : Store) → Kept w (own e) p t (does (within w Here enter) j pc t).store
    under_kept j fine un pc t =
        walk_kept w (own e) p Here enter UnderStep under_off (λ j h pc b r. under_step j h.0 (h.1 tt) pc b r) j
        (known_both (FineStep w g k) (λ j. (u : Unit {0}) → step_retags j e ≡ false) (FineTerm w) Any j fine
        (none_each (λ (u : Unit {0}) (j : Step). step_retags j e) j (λ u. un))) pc t

    under_list : (b : Block) → EveryInBlock (FineCommand w g k) b → block_retags b e ≡ false → (pc : ℕ) (t : Store) → Kept w (own e) p t (does_block (within w Here enter) b pc t).store
    under_list b fine un pc t =
        walk_list w (own e) p Here enter UnderStep under_off (λ j h pc b r. under_step j h.0 (h.1 tt) pc b r) b
        (known_in_block (FineStep w g k) (λ j. (u : Unit {0}) → step_retags j e ≡ false) (FineTerm w) Any b fine
        (none_in_block (λ (u : Unit {0}) (j : Step). step_retags j e) b (λ u. un))) pc t

  outside : (g : Group) → Under g → among g e ≡ false
  outside g out = false_from_ne_true (among g e) (λ h. let f = neither_left (nat_eq e e) _ (out e (inside_among g e h)).0 in let k = test_of_same e in cc)

  mutual
    unfolding does_state does_child

    state_under : (t : State) (r : ℕ) (q : Group) (n : ℕ) → FineState w q n t → Under q
        → ((x : ℕ) → inside (and_node t no_node) x ≡ true → inside q x ≡ true) → nat_eq p r ≡ false → state_retags t e ≡ false
        → (pc : ℕ) (u : Store) → Kept w (own e) p u (does_state w t r pc u).store
    state_under (state_node c b k) r q n fine out within away un pc u =
        let below_out : Under k = λ x h. out x (within x (or_right (nat_eq x c) _ (or_left _ _ h))) in
        let here = out c (within c (or_left (nat_eq c c) _ (test_of_same c))) in
        under_list c r k q (does_child w k c) out (neither_left _ _ here.0) (outside k below_out)
        (group_unassigned w e (state_no_register w e s) (state_no_memory w e s) k 0 k fine.1) away
        (λ m z v. child_under k c k 0 fine.1 below_out (λ x h. h) (neither_left _ _ here.1) (neither_right (block_retags b e) _ un) m z v)
        b fine.0.steps (neither_left _ _ un) pc u

    pub child_under : (g : Group) (r : ℕ) (q : Group) (n : ℕ) → FineGroup w q n g → Under q
        → ((x : ℕ) → inside g x ≡ true → inside q x ≡ true) → nat_eq p r ≡ false → group_retags g e ≡ false → (m pc : ℕ) (u : Store)
        → Kept w (own e) p u (does_child w g r m pc u).store
    child_under no_node r q n fine out within away un m pc u = kept_self w (own e) p u
    child_under (and_node (state_node c b k) g) r q n fine out within away un zero pc u =
        state_under (state_node c b k) r q n fine.0 out (λ x h. within x (first x h)) away (neither_left _ _ un) pc u
      where
        first : (x : ℕ) → inside (and_node (state_node c b k) no_node) x ≡ true → inside (and_node (state_node c b k) g) x ≡ true
        first x h = elim (or_cases (nat_eq x c) _ h) [
          | inl i ↦ or_left _ _ i
          | inr i ↦ or_right (nat_eq x c) _ (elim (or_cases (inside k x) false i) [ inl j ↦ or_left _ _ j | inr j ↦ cc ])
        ]
    child_under (and_node (state_node c b k) g) r q n fine out within away un (suc m) pc u =
        child_under g r q (suc n) fine.1 out (λ x h. within x (or_right (nat_eq x c) _ (or_right (inside k x) _ h))) away
        (neither_right (state_retags (state_node c b k) e) _ un) m pc u
