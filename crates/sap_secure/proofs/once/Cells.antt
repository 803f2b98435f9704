-- The steps that a cycle comes to tell which cells it may change.
use Rattle.sap_lemmas.proofs.Common.{◌≡◌, ℕ, zero, suc, ◌+◌, ◌≤◌, Bool, true, false, ◌&&◌, List, [], ◌∷◌, ◌++◌, refl, sym, ◌∙◌, subst, arith, inl, inr, nat_eq, if◌then◌else◌, cases_Bool, ne_eqb}
use Rattle.sap_maps.specs.Term.{Term}
use Rattle.sap_meaning.specs.Prelude.{within, World, is_dynamic, root, place, Program, Step, assign, write, retag, retag_cell, go_to, fall_to_child, Command, lone, try, if_else, try_then, case_of, Arms, last_arm, and_arm, Block, end_block, command_then, State, state_node, Group, no_node, and_node, own, start, next, start_whole, next_whole, source, Store, number, level, child, put_number, put_level, put_child, raise, reset, settle, After, stay, and_then, value, tag, new_level, Home, guard, test, touches, root_touches, raised_alone, effect, attempt, attempt_then, select, branch, is_constant, does, does_arms, does_block, does_state, does_child, Tagged, set_inputs, root_fall, cycle, Resting, step_writes}
use Rattle.sap_secure.specs.Once.Steps.{onward, tried, tried_then, picked, chosen, steps, arms_steps, block_steps, state_steps, child_steps, root_steps, cycle_steps}
use Rattle.sap_secure.specs.Once.Once.{writes_to, CellStays, WritesOnce, UnwrittenStays, ChangesOneCell}
use Rattle.sap_secure.proofs.once.Counts.{writing, writes_to-cons, writes_to-append, split_one}

-- the next part of cell j of m keeps its number, and the level of its own
abbrev pub Same : ℕ → ℕ → Store → Store → Type 0
Same m j s t = (number (next m j) t ≡ number (next m j) s) × (t.level (next m j) ≡ s.level (next m j))

-- From s to t: where n is 0 no cell of m changes, and where it is 1 at most one does.
pub record Tracked (m n : ℕ) (s t : Store) : Type 0 where
  pub none : n ≡ 0 → (j : ℕ) → Same m j s t
  pub one : n ≤ 1 → (i : ℕ) × ((j : ℕ) → (j ≡ i → ⊥) → Same m j s t)

same_next : (m j : ℕ) (s t u : Store) → Same m j s t → Same m j t u → Same m j s u
same_next m j s t u a b = (b.0 ∙ a.0, b.1 ∙ a.1)

pub tracked_all : (m n : ℕ) (s t : Store) → ((j : ℕ) → Same m j s t) → Tracked m n s t
tracked_all m n s t f = record { none = λ h j. f j; one = λ h. (0, λ j i. f j) }

tracked_as : (m n k : ℕ) (s t : Store) → n ≡ k → Tracked m k s t → Tracked m n s t
tracked_as m n k s t e h = subst (λ (x : ℕ). Tracked m x s t) (sym e) h

tracked_both : (m n k : ℕ) (s t u : Store) → Tracked m n s t → Tracked m k t u → Tracked m (n + k) s u
tracked_both m n k s t u a b = record {
  none = λ h j.
      let x : n ≡ 0 = omega arith in
      let y : k ≡ 0 = omega arith in
      same_next m j s t u (a.none x j) (b.none y j);
  one = λ h. elim (split_one n k h) [
    | inl x ↦
        let y : k ≤ 1 = omega arith in
        ((b.one y).0, λ j i. same_next m j s t u (a.none x j) ((b.one y).1 j i))
    | inr y ↦
        let x : n ≤ 1 = omega arith in
        ((a.one x).0, λ j i. same_next m j s t u ((a.one x).1 j i) (b.none y j))
  ];
}

-- a raise leaves cells alone
raise_same : (w : World) (m : ℕ) (h : ℕ → Bool) (t : ℕ) (s : Store) (j : ℕ) → Same m j s (raise w.order h t s)
unfolding raise
raise_same w m h t s j = (refl, refl)

behind_same : (m n : ℕ) (s r t : Store) → ((j : ℕ) → Same m j s r) → Tracked m n r t → Tracked m n s t
behind_same m n s r t f h = tracked_as m n (0 + n) s t (omega arith) (tracked_both m 0 n s r t (tracked_all m 0 s r f) h)

behind_raise : (w : World) (m n : ℕ) (h : ℕ → Bool) (g : ℕ) (s t : Store) → Tracked m n (raise w.order h g s) t → Tracked m n s t
behind_raise w m n h g s t r = behind_same m n s (raise w.order h g s) t (raise_same w m h g s) r

-- so do an assignment or a retagging of a register or a state, and a goto
own_same : (w : World) (m x n t : ℕ) (s : Store) (j : ℕ) → Same m j s (put_level w (own x) t (put_number (own x) n s))
unfolding put_number put_level
own_same w m x n t s j = (refl, refl)

moved_same : (w : World) (m target parent : ℕ) (d : Bool) (t n : ℕ) (s : Store) (j : ℕ)
    → Same m j s (if d then put_level w (own target) t (reset w target (put_child parent n s)) else reset w target (put_child parent n s))
unfolding put_level put_child reset
moved_same w m target parent true t n s j = (refl, refl)
moved_same w m target parent false t n s j = (refl, refl)

-- the slot of another cell
apart : (m n i j : ℕ) → (nat_eq m n ≡ false → (nat_eq m n && nat_eq j i) ≡ false) × ((j ≡ i → ⊥) → (nat_eq m n && nat_eq j i) ≡ false)
apart m n i j = (λ h. rw h refl, λ h. elim (cases_Bool (nat_eq m n)) [ inl t ↦ rw t (ne_eqb j i h) | inr f ↦ rw f refl ])

write_same : (w : World) (m n i j v t : ℕ) (h : ℕ → Bool) (d : Bool) (s : Store) → (nat_eq m n && nat_eq j i) ≡ false
    → Same m j s (put_number (next n i) v (if d then raise w.order h t s else s))
unfolding put_number raise
write_same w m n i j v t h true s e = (rw e refl, refl)
write_same w m n i j v t h false s e = (rw e refl, refl)

retag_same : (w : World) (m n i j v t : ℕ) (s : Store) → (nat_eq m n && nat_eq j i) ≡ false → Same m j s (put_level w (next n i) t (put_number (next n i) v s))
unfolding put_number put_level
retag_same w m n i j v t s e = (rw e refl, elim (cases_Bool (is_dynamic w n)) [ inl d ↦ rw d refl | inr d ↦ rw (d, e) refl ])

abbrev EachTracked : ℕ → (ℕ → Store → List Step) → (ℕ → Store → After) → Type 0
EachTracked m f g = (pc : ℕ) (s : Store) → Tracked m (writes_to m (f pc s)) s (g pc s).store

module _ (w : World) (m : ℕ) (at : Home) (entered : ℕ → ℕ → Store → List Step)
    (below : (n : ℕ) → EachTracked m (entered n) (does_child w at.children at.state n)) where
  -- a write or a retagging of one cell
  at_cell : (n i : ℕ) (k : Step) (s t : Store) → step_writes k m ≡ nat_eq m n → ((j : ℕ) → (nat_eq m n && nat_eq j i) ≡ false → Same m j s t)
      → Tracked m (writing m k) s t
  at_cell n i k s t e f = elim (cases_Bool (nat_eq m n)) [
    | inl h ↦ tracked_as m (writing m k) 1 s t (rw (e, h) refl) (record { none = λ x. absurd (omega arith); one = λ x. (i, λ j d. f j ((apart m n i j).1 d)) })
    | inr h ↦ tracked_all m (writing m k) s t (λ j. f j ((apart m n i j).0 h))
  ]

  -- an effect on the store s
  effect_tracked : (k : Step) (pc : ℕ) (b s : Store)
      → Tracked m (writing m k + writes_to m (onward w at entered k pc b s)) s (effect (within w at (does_child w at.children at.state)) k pc b s).store
  unfolding effect
  effect_tracked (assign site x e) pc b s = tracked_all m _ s _ (λ j. own_same w m x _ _ s j)
  effect_tracked (write site n i e) pc b s =
      let t = w.order.join pc (w.order.join (tag w i b) (tag w e b)) in
      tracked_as m _ (writing m (write site n i e)) s _ (omega arith)
      (at_cell n (value w i b) (write site n i e) s _ refl
      (λ j h. write_same w m n (value w i b) j (value w e b) t (λ x. nat_eq x n) (is_dynamic w n) s h))
  effect_tracked (retag site x n) pc b s = tracked_all m _ s _ (λ j. own_same w m x _ _ s j)
  effect_tracked (retag_cell site n i t) pc b s =
      let v = if w.order.le (level w (start n (value w i b)) b) (new_level w t b) then number (start n (value w i b)) b else 0 in
      tracked_as m _ (writing m (retag_cell site n i t)) s _ (omega arith)
      (at_cell n (value w i b) (retag_cell site n i t) s _ refl (λ j h. retag_same w m n (value w i b) j v (new_level w t b) s h))
  effect_tracked (go_to site target) pc b s = tracked_all m _ s _ (λ j. moved_same w m target at.parent (is_dynamic w target) pc (place w target) s j)
  effect_tracked (fall_to_child site hang) pc b s = tracked_as m _ _ s _ (omega arith) (below _ _ s)

  either : (k : Step) (i : Bool) (xs ys : List Step) (s : Store) (p q : After) → Tracked m (writing m k + writes_to m xs) s p.store
      → Tracked m (writing m k + writes_to m ys) s q.store → Tracked m (writes_to m (k ∷ (if i then xs else ys))) s (if i then p else q).store
  either k true xs ys s p q c d = tracked_as m _ (writing m k + writes_to m xs) s p.store (writes_to-cons m k xs) c
  either k false xs ys s p q c d = tracked_as m _ (writing m k + writes_to m ys) s q.store (writes_to-cons m k ys) d

  attempt_tracked : (k : Step) (hangs : ℕ → Bool) (f : ℕ → Store → List Step) (h : ℕ → Store → After) → EachTracked m f h
      → EachTracked m (tried w at entered k hangs f) (attempt (within w at (does_child w at.children at.state)) k hangs h)
  unfolding tried attempt
  attempt_tracked k hangs f h c pc s =
      let g = guard w at k s in
      let r = raise w.order hangs g s in
      let inside = w.order.join pc g in
      either k (test w at k pc s) (onward w at entered k pc s r) (f inside r) s (effect (within w at (does_child w at.children at.state)) k pc s r) _
      (behind_raise w m _ hangs g s _ (effect_tracked k pc s r))
      (behind_raise w m _ hangs g s (h inside r).store
      (tracked_both m (writing m k) (writes_to m (f inside r)) r r (h inside r).store (tracked_all m _ r r (λ j. (refl, refl))) (c inside r)))

  one_of : (i : Bool) (x y : List Step) (r : Store) (p q : After) → Tracked m (writes_to m x) r p.store → Tracked m (writes_to m y) r q.store
      → Tracked m (writes_to m (if i then y else x)) r (if i then q else p).store
  one_of true x y r p q c d = d
  one_of false x y r p q c d = c

  select_tracked : (e : Term ℕ) (hangs : ℕ → Bool) (f g : ℕ → Store → List Step) (a b : ℕ → Store → After) → EachTracked m f a → EachTracked m g b
      → EachTracked m (chosen w e hangs f g) (select w e hangs (branch a b))
  unfolding chosen select
  select_tracked e hangs f g a b c d pc s =
      let t = tag w e s in
      let r = raise w.order hangs t s in
      let inside = w.order.join pc t in
      behind_raise w m _ hangs t s _ (one_of (nat_eq (value w e s) 0) (f inside r) (g inside r) r (a inside r) (b inside r) (c inside r) (d inside r))

  attempt_then_tracked : (k : Step) (hangs : ℕ → Bool) (f g : ℕ → Store → List Step) (a h : ℕ → Store → After) → EachTracked m f a → EachTracked m g h
      → EachTracked m (tried_then w at entered k hangs f g) (attempt_then (within w at (does_child w at.children at.state)) k hangs a h)
  unfolding tried_then attempt_then
  attempt_then_tracked k hangs f g a h c d pc s =
      let v = guard w at k s in
      let r = raise w.order hangs v s in
      let inside = w.order.join pc v in
      let on = onward w at entered k pc s r in
      let done = effect (within w at (does_child w at.children at.state)) k pc s r in
      let sum : writes_to m (on ++ f inside done.store) ≡ writes_to m on + writes_to m (f inside done.store) = writes_to-append m on (f inside done.store) in
      either k (test w at k pc s) (on ++ f inside done.store) (g inside r) s (and_then done (a inside)) _
      (behind_raise w m _ hangs v s _
      (tracked_as m (writing m k + writes_to m (on ++ f inside done.store)) ((writing m k + writes_to m on) + writes_to m (f inside done.store)) r _ (omega arith)
      (tracked_both m (writing m k + writes_to m on) (writes_to m (f inside done.store)) r done.store _ (effect_tracked k pc s r) (c inside done.store))))
      (behind_raise w m _ hangs v s (h inside r).store
      (tracked_both m (writing m k) (writes_to m (g inside r)) r r (h inside r).store (tracked_all m _ r r (λ j. (refl, refl))) (d inside r)))

  pick_tracked : (e : Term ℕ) (hangs : ℕ → Bool) (f : ℕ → ℕ → Store → List Step) (a : ℕ → ℕ → Store → After) → ((v : ℕ) → EachTracked m (f v) (a v))
      → EachTracked m (picked w e hangs f) (select w e hangs a)
  unfolding picked select
  pick_tracked e hangs f a c pc s = behind_raise w m _ hangs (tag w e s) s _ (c (value w e s) (w.order.join pc (tag w e s)) (raise w.order hangs (tag w e s) s))

  mutual
    unfolding steps arms_steps block_steps does does_arms does_block

    does_tracked : (c : Command) → EachTracked m (steps w at entered c) (does (within w at (does_child w at.children at.state)) c)
    does_tracked (lone k) pc s =
        attempt_tracked k (raised_alone w at k) (λ pc s. []) (λ pc s. stay s) (λ pc s. tracked_all m _ s s (λ j. (refl, refl))) pc s
    does_tracked (try k hang h) pc s =
        attempt_tracked k (touches w at (try k hang h)) (block_steps w at entered h) (does_block (within w at (does_child w at.children at.state)) h) (block_tracked h) pc s
    does_tracked (if_else hang e a b) pc s =
        select_tracked e (touches w at (if_else hang e a b)) (block_steps w at entered a) (block_steps w at entered b)
        (does_block (within w at (does_child w at.children at.state)) a) (does_block (within w at (does_child w at.children at.state)) b) (block_tracked a) (block_tracked b) pc s
    does_tracked (try_then k hang a b) pc s =
        attempt_then_tracked k (touches w at (try_then k hang a b)) (block_steps w at entered a) (block_steps w at entered b)
        (does_block (within w at (does_child w at.children at.state)) a) (does_block (within w at (does_child w at.children at.state)) b) (block_tracked a) (block_tracked b) pc s
    does_tracked (case_of hang e arms) pc s =
        pick_tracked e (touches w at (case_of hang e arms)) (arms_steps w at entered arms) (does_arms (within w at (does_child w at.children at.state)) arms) (arms_tracked arms) pc s

    arms_tracked : (arms : Arms) (v : ℕ) → EachTracked m (arms_steps w at entered arms v) (does_arms (within w at (does_child w at.children at.state)) arms v)
    arms_tracked (last_arm b) v pc s = block_tracked b pc s
    arms_tracked (and_arm cs b arms) v pc s =
        one_of (is_constant cs v) (arms_steps w at entered arms v pc s) (block_steps w at entered b pc s) s (does_arms (within w at (does_child w at.children at.state)) arms v pc s)
        (does_block (within w at (does_child w at.children at.state)) b pc s) (arms_tracked arms v pc s) (block_tracked b pc s)

    pub block_tracked : (b : Block) → EachTracked m (block_steps w at entered b) (does_block (within w at (does_child w at.children at.state)) b)
    block_tracked end_block pc s = tracked_all m _ s s (λ j. (refl, refl))
    block_tracked (command_then c cs) pc s =
        let t = (does (within w at (does_child w at.children at.state)) c pc s).store in
        tracked_as m _ (writes_to m (steps w at entered c pc s) + writes_to m (block_steps w at entered cs pc t)) s _
        (writes_to-append m (steps w at entered c pc s) (block_steps w at entered cs pc t))
        (tracked_both m _ _ s t _ (does_tracked c pc s) (block_tracked cs pc t))

module _ (w : World) (m : ℕ) where
  mutual
    unfolding state_steps child_steps does_state does_child

    state_tracked : (t : State) (parent : ℕ) → EachTracked m (state_steps w t parent) (does_state w t parent)
    state_tracked (state_node s b g) parent pc st =
        let at : Home = record { state = s; parent = parent; children = g } in
        block_tracked w m at (child_steps w g s) (λ n. child_tracked g s n) b pc st

    child_tracked : (g : Group) (parent n : ℕ) → EachTracked m (child_steps w g parent n) (does_child w g parent n)
    child_tracked no_node parent n pc st = tracked_all m _ st st (λ j. (refl, refl))
    child_tracked (and_node t g) parent zero pc st = state_tracked t parent pc st
    child_tracked (and_node t g) parent (suc n) pc st = child_tracked g parent n pc st

  root_tracked : (hangs : ℕ → Bool) (g : Group) (n : ℕ) (s : Store)
      → Tracked m (writes_to m (root_steps w hangs g n s)) s (root_fall w hangs (λ t. does_state w t (root w)) g n s).store
  unfolding root_steps root_fall
  root_tracked hangs no_node n s = tracked_all m _ s s (λ j. (refl, refl))
  root_tracked hangs (and_node (state_node c b k) g) zero s =
      let t = level w (own c) s in
      behind_raise w m _ hangs t s _ (state_tracked (state_node c b k) (root w) t (raise w.order hangs t s))
  root_tracked hangs (and_node (state_node c b k) g) (suc n) s = root_tracked hangs g n s

-- inputs leave cells alone
inputs_same : (w : World) (m : ℕ) (inputs : List Tagged) (s : Store) (j : ℕ) → Same m j s (set_inputs w inputs s)
unfolding set_inputs
inputs_same w m inputs s j = (refl, refl)

module _ (p : Program) (inputs : List Tagged) (s : Store) (resting : Resting p.world s) (m : ℕ) where
  cycle_tracked : (t : Store) × Tracked m (writes_to m (cycle_steps p inputs s)) s t × (settle t ≡ (cycle p inputs s).store)
  unfolding cycle_steps cycle
  cycle_tracked =
      let w = p.world in
      let begun = set_inputs w inputs s in
      let a = root_fall w (root_touches w p.states) (λ t. does_state w t (root w)) p.states (child (root w) begun) begun in (
        a.store,
        behind_same m _ s begun a.store (inputs_same w m inputs s) (root_tracked w m (root_touches w p.states) p.states (child (root w) begun) begun),
        refl,
      )

  module _ (j : ℕ) (t : Store) (same : Same m j s t) where
    level_stays : (w : World) → is_dynamic w m ≡ false → level w (start m j) s ≡ level w (next m j) s → level w (start m j) (settle t) ≡ level w (start m j) s
    unfolding settle
    level_stays w e rest = same_level (is_dynamic w m) e rest
      where
        same_level : (d : Bool) → d ≡ false → s.level (if d then start_whole m else start m j) ≡ s.level (if d then next_whole m else next m j)
            → t.level (source (if d then start_whole m else start m j)) ≡ s.level (if d then start_whole m else start m j)
        same_level true e rest = cc
        same_level false e rest = same.1 ∙ sym rest

  stays : (j : ℕ) (t : Store) → Same m j s t → CellStays p.world m j s (settle t)
  unfolding settle
  stays j t same = record {
    number = same.0 ∙ sym (resting.rests.numbers m j);
    level = λ e. level_stays j t same p.world e (resting.rests.levels m j);
  }

  pub unwritten_stays : writes_to m (cycle_steps p inputs s) ≡ 0 → (i : ℕ) → CellStays p.world m i s (cycle p inputs s).store
  unwritten_stays h i =
      subst (λ (t : Store). CellStays p.world m i s t) cycle_tracked.2 (stays i cycle_tracked.0 (cycle_tracked.1.none h i))

  pub one_cell : writes_to m (cycle_steps p inputs s) ≤ 1 → (i : ℕ) × ((j : ℕ) → (j ≡ i → ⊥) → CellStays p.world m j s (cycle p inputs s).store)
  one_cell h =
      let i = cycle_tracked.1.one h in
      (i.0, λ j d. subst (λ (t : Store). CellStays p.world m j s t) cycle_tracked.2 (stays j cycle_tracked.0 (i.1 j d)))

pub unwritten_stay : (p : Program) → UnwrittenStays p
unwritten_stay p = λ inputs s r m h i. unwritten_stays p inputs s r m h i

pub changes_one_cell : (p : Program) → WritesOnce p → ChangesOneCell p
changes_one_cell p once = λ inputs s r m. one_cell p inputs s r m (once inputs s m)
