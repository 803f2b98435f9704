-- In a fine program at most one step that a cycle comes to writes a memory.
use Rattle.sap_lemmas.proofs.Common.{◌≡◌, ℕ, zero, suc, ◌+◌, ◌≤◌, Bool, true, false, ◌&&◌, ◌||◌, List, [], ◌∷◌, ◌++◌, refl, sym, ◌∙◌, arith, inl, inr, nat_eq, if◌then◌else◌, cases_Bool, false_from_ne_true, or_from, neither_left, neither_right}
use Rattle.sap_maps.specs.Term.{Term}
use Rattle.sap_meaning.specs.Prelude.{within, World, root, Program, Step, write, retag_cell, fall_to_child, Command, lone, try, if_else, try_then, case_of, Arms, last_arm, and_arm, Block, end_block, command_then, State, state_node, Group, no_node, and_node, Store, own, level, child, raise, value, tag, Home, guard, test, touches, root_touches, raised_alone, does, does_child, effect, is_constant, set_inputs, FineProgram, step_writes, step_reaching, reaching, arms_reaching, block_reaching, state_reaches, group_reaches, OnceStep, Once, OnceArms, OnceBlock, OnceState, OnceGroup}
use Rattle.sap_meaning.proofs.Bools.{and_false}
use Rattle.sap_secure.specs.Once.Steps.{onward, tried, tried_then, picked, chosen, steps, arms_steps, block_steps, state_steps, child_steps, root_steps, cycle_steps}
use Rattle.sap_secure.specs.Once.Once.{writes_to, WritesOnce}
use Rattle.sap_secure.proofs.once.Counts.{writing, writes_to-cons, written, unwritten, Counted, counted_nothing, counted_weaker, counted_both}

-- a list of steps for each context and store
abbrev pub AllCounted : ℕ → Bool → (ℕ → Store → List Step) → Type 0
AllCounted m may f = (pc : ℕ) (s : Store) → Counted m may (f pc s)

module _ (w : World) (m : ℕ) (at : Home) (entered : ℕ → ℕ → Store → List Step)
    (beyond : Type 0) (below : beyond → (n : ℕ) → AllCounted m (group_reaches at.children m) (entered n)) where
  -- a step that writes leads to no other
  onward_nothing : (k : Step) (pc : ℕ) (b s : Store) → step_writes k m ≡ true → writes_to m (onward w at entered k pc b s) ≡ 0
  onward_nothing (fall_to_child site hang) pc b s h = cc
  onward_nothing _ pc b s h = refl

  onward_counted : (k : Step) → OnceStep beyond k → (pc : ℕ) (b s : Store) → Counted m (step_reaching (group_reaches at.children) k m) (onward w at entered k pc b s)
  onward_counted (write site n i e) once pc b s = counted_weaker m false (nat_eq m n) [] (λ h. refl) (counted_nothing m)
  onward_counted (retag_cell site n j t) once pc b s = counted_weaker m false (nat_eq m n) [] (λ h. refl) (counted_nothing m)
  onward_counted (fall_to_child site hang) once pc b s = below once _ _ _
  onward_counted _ once pc b s = counted_nothing m

  -- what may not be reached isn't written
  reached : (k : Step) → step_reaching (group_reaches at.children) k m ≡ false → step_writes k m ≡ false
  reached (write site n i e) h = h
  reached (retag_cell site n j t) h = h
  reached _ h = refl

  -- what comes behind a step
  module _ (k : Step) (once : OnceStep beyond k) (may : Bool) (apart : (step_writes k m && may) ≡ false) where
    behind : (b : Bool) (xs ys : List Step) → Counted m (step_reaching (group_reaches at.children) k m) xs → (step_writes k m ≡ true → writes_to m xs ≡ 0) → Counted m may ys
        → Counted m (step_reaching (group_reaches at.children) k m || may) (k ∷ (if b then xs else ys))
    behind true xs ys c z d =
        let sum : writes_to m (k ∷ xs) ≡ writing m k + writes_to m xs = writes_to-cons m k xs in
        record {
          none = λ h.
              let r = neither_left (step_reaching (group_reaches at.children) k m) may h in
              let x : writes_to m xs ≡ 0 = c.none r in
              let y : writing m k ≡ 0 = unwritten m k (reached k r) in
              omega arith;
          once = elim (cases_Bool (step_writes k m)) [
            | inl t ↦
                let x : writes_to m xs ≡ 0 = z t in
                let y : writing m k ≡ 1 = written m k t in
                omega arith
            | inr f ↦
                let x : writes_to m xs ≤ 1 = c.once in
                let y : writing m k ≡ 0 = unwritten m k f in
                omega arith
          ];
        }
    behind false xs ys c z d =
        let sum : writes_to m (k ∷ ys) ≡ writing m k + writes_to m ys = writes_to-cons m k ys in
        record {
          none = λ h.
              let x : writes_to m ys ≡ 0 = d.none (neither_right (step_reaching (group_reaches at.children) k m) may h) in
              let y : writing m k ≡ 0 = unwritten m k (reached k (neither_left (step_reaching (group_reaches at.children) k m) may h)) in
              omega arith;
          once = elim (cases_Bool (step_writes k m)) [
            | inl t ↦
                let n : may ≡ false = false_from_ne_true may (λ i. absurd (both t i)) in
                let x : writes_to m ys ≡ 0 = d.none n in
                let y : writing m k ≡ 1 = written m k t in
                omega arith
            | inr f ↦
                let x : writes_to m ys ≤ 1 = d.once in
                let y : writing m k ≡ 0 = unwritten m k f in
                omega arith
          ];
        }
      where
        both : step_writes k m ≡ true → may ≡ true → ⊥
        both t i = (let e : step_writes k m ≡ false = and_false (step_writes k m) may apart i in impossible (sym t ∙ e))
          where
            impossible : true ≡ false → ⊥
            impossible e = cc

    tried_counted : (hangs : ℕ → Bool) (handler : ℕ → Store → List Step) → AllCounted m may handler
        → AllCounted m (step_reaching (group_reaches at.children) k m || may) (tried w at entered k hangs handler)
    unfolding tried
    tried_counted hangs handler c pc s =
        let r = raise w.order hangs (guard w at k s) s in
        behind (test w at k pc s) (onward w at entered k pc s r) (handler (w.order.join pc (guard w at k s)) r) (onward_counted k once pc s r)
        (onward_nothing k pc s r) (c (w.order.join pc (guard w at k s)) r)

  chosen_counted : (e : Term ℕ) (hangs : ℕ → Bool) (a b : Bool) (xs ys : ℕ → Store → List Step) → AllCounted m a xs → AllCounted m b ys
      → AllCounted m (a || b) (chosen w e hangs xs ys)
  unfolding chosen
  chosen_counted e hangs a b xs ys c d pc s =
      let r = raise w.order hangs (tag w e s) s in
      let inside = w.order.join pc (tag w e s) in
      one_of (nat_eq (value w e s) 0) (xs inside r) (ys inside r) (c inside r) (d inside r)
    where
      one_of : (i : Bool) (xs ys : List Step) → Counted m a xs → Counted m b ys → Counted m (a || b) (if i then ys else xs)
      one_of true xs ys c d = counted_weaker m b (a || b) ys (neither_right a b) d
      one_of false xs ys c d = counted_weaker m a (a || b) xs (neither_left a b) c

  alone : (k : Step) → (step_writes k m && false) ≡ false
  alone k = elim (cases_Bool (step_writes k m)) [ inl t ↦ rw t refl | inr f ↦ rw f refl ]

  or_nothing : (a : Bool) → a ≡ false → (a || false) ≡ false
  or_nothing a h = rw h refl

  -- a step with an accepted part behind it
  then_counted : (k : Step) → OnceStep beyond k → (a b : Bool) → (step_reaching (group_reaches at.children) k m && a) ≡ false → (step_writes k m && b) ≡ false → (hangs : ℕ → Bool)
      → (f g : ℕ → Store → List Step) → AllCounted m a f → AllCounted m b g
      → AllCounted m (step_reaching (group_reaches at.children) k m || (a || b)) (tried_then w at entered k hangs f g)
  unfolding tried_then
  then_counted k once a b apart other hangs f g c d pc s =
      let r = raise w.order hangs (guard w at k s) s in
      let inside = w.order.join pc (guard w at k s) in
      let next = (effect (within w at (does_child w at.children at.state)) k pc s r).store in
      one_of (test w at k pc s) (onward w at entered k pc s r) (f inside next) (g inside r) (onward_counted k once pc s r) (onward_nothing k pc s r) (c inside next) (d inside r)
    where
      mine : Bool
      mine = step_reaching (group_reaches at.children) k m

      one_of : (i : Bool) (xs ys zs : List Step) → Counted m mine xs → (step_writes k m ≡ true → writes_to m xs ≡ 0) → Counted m a ys → Counted m b zs
          → Counted m (mine || (a || b)) (k ∷ (if i then xs ++ ys else zs))
      one_of true xs ys zs cx none cy cz =
          let first : Counted m mine (k ∷ xs) = counted_weaker m (mine || false) mine (k ∷ xs) (or_nothing mine)
          (behind k once false (alone k) true xs [] cx none (counted_nothing m)) in
          counted_weaker m (mine || a) (mine || (a || b)) (k ∷ (xs ++ ys)) (λ h. or_from mine a (neither_left mine (a || b) h) (neither_left a b (neither_right mine (a || b) h)))
          (counted_both m mine a (k ∷ xs) ys first cy apart)
      one_of false xs ys zs cx none cy cz =
          counted_weaker m (mine || b) (mine || (a || b)) (k ∷ zs) (λ h. or_from mine b (neither_left mine (a || b) h) (neither_right a b (neither_right mine (a || b) h)))
          (behind k once b other false xs zs cx none cz)

  picked_counted : (e : Term ℕ) (hangs : ℕ → Bool) (may : Bool) (pick : ℕ → ℕ → Store → List Step) → ((v : ℕ) → AllCounted m may (pick v))
      → AllCounted m may (picked w e hangs pick)
  unfolding picked
  picked_counted e hangs may pick c pc s = c (value w e s) (w.order.join pc (tag w e s)) (raise w.order hangs (tag w e s) s)

  arm_counted : (i a b : Bool) (xs ys : List Step) → Counted m a xs → Counted m b ys → Counted m (a || b) (if i then xs else ys)
  arm_counted true a b xs ys c d = counted_weaker m a (a || b) xs (neither_left a b) c
  arm_counted false a b xs ys c d = counted_weaker m b (a || b) ys (neither_right a b) d

  mutual
    unfolding steps arms_steps block_steps

    steps_counted : (c : Command) → Once at.children beyond c → AllCounted m (reaching (group_reaches at.children) c m) (steps w at entered c)
    steps_counted (lone k) once pc s =
        counted_weaker m (step_reaching (group_reaches at.children) k m || false) (step_reaching (group_reaches at.children) k m) _
        (or_nothing (step_reaching (group_reaches at.children) k m))
        (tried_counted k once false (alone k) (raised_alone w at k) (λ pc s. []) (λ pc s. counted_nothing m) pc s)
    steps_counted (try k hang h) once pc s =
        tried_counted k once.0 (block_reaching (group_reaches at.children) h m) (once.2 m) (touches w at (try k hang h)) (block_steps w at entered h)
        (block_counted h once.1) pc s
    steps_counted (if_else hang e a b) once pc s =
        chosen_counted e (touches w at (if_else hang e a b)) (block_reaching (group_reaches at.children) a m) (block_reaching (group_reaches at.children) b m)
        (block_steps w at entered a) (block_steps w at entered b) (block_counted a once.0) (block_counted b once.1) pc s
    steps_counted (try_then k hang a b) once pc s =
        then_counted k once.0 (block_reaching (group_reaches at.children) a m) (block_reaching (group_reaches at.children) b m) (once.3 m)
        (once.4 m) (touches w at (try_then k hang a b))
        (block_steps w at entered a) (block_steps w at entered b) (block_counted a once.1) (block_counted b once.2) pc s
    steps_counted (case_of hang e arms) once pc s =
        picked_counted e (touches w at (case_of hang e arms)) (arms_reaching (group_reaches at.children) arms m) (arms_steps w at entered arms) (arms_counted arms once) pc s

    arms_counted : (arms : Arms) → OnceArms at.children beyond arms → (v : ℕ) → AllCounted m (arms_reaching (group_reaches at.children) arms m) (arms_steps w at entered arms v)
    arms_counted (last_arm b) once v pc s = block_counted b once pc s
    arms_counted (and_arm cs b arms) once v pc s =
        arm_counted (is_constant cs v) (block_reaching (group_reaches at.children) b m) (arms_reaching (group_reaches at.children) arms m) (block_steps w at entered b pc s)
        (arms_steps w at entered arms v pc s) (block_counted b once.0 pc s) (arms_counted arms once.1 v pc s)

    pub block_counted : (b : Block) → OnceBlock at.children beyond b → AllCounted m (block_reaching (group_reaches at.children) b m) (block_steps w at entered b)
    block_counted end_block once pc s = counted_nothing m
    block_counted (command_then c cs) once pc s =
        counted_both m (reaching (group_reaches at.children) c m) (block_reaching (group_reaches at.children) cs m) (steps w at entered c pc s)
        (block_steps w at entered cs pc (does (within w at (does_child w at.children at.state)) c pc s).store) (steps_counted c once.0 pc s)
        (block_counted cs once.1 pc _) (once.2 m)

module _ (w : World) (m : ℕ) where
  mutual
    unfolding state_steps child_steps

    pub state_counted : (t : State) → OnceState t → (parent : ℕ) → AllCounted m (state_reaches t m) (state_steps w t parent)
    state_counted (state_node s b g) once parent pc st =
        let at : Home = record { state = s; parent = parent; children = g } in
        block_counted w m at (child_steps w g s) (OnceGroup g) (λ o i. group_counted g o s i) b once pc st

    group_counted : (g : Group) → OnceGroup g → (parent i : ℕ) → AllCounted m (group_reaches g m) (child_steps w g parent i)
    group_counted no_node once parent i pc st = counted_nothing m
    group_counted (and_node t g) once parent zero pc st =
        counted_weaker m (state_reaches t m) (state_reaches t m || group_reaches g m) _ (neither_left (state_reaches t m) (group_reaches g m))
        (state_counted t once.0 parent pc st)
    group_counted (and_node t g) once parent (suc i) pc st =
        counted_weaker m (group_reaches g m) (state_reaches t m || group_reaches g m) _ (neither_right (state_reaches t m) (group_reaches g m))
        (group_counted g once.1 parent i pc st)

  root_once : (hangs : ℕ → Bool) (g : Group) → OnceGroup g → (i : ℕ) (s : Store) → writes_to m (root_steps w hangs g i s) ≤ 1
  unfolding root_steps
  root_once hangs no_node once i s = omega arith
  root_once hangs (and_node (state_node c b k) g) once zero s =
      (state_counted (state_node c b k) once.0 (root w) (level w (own c) s) (raise w.order hangs (level w (own c) s) s)).once
  root_once hangs (and_node (state_node c b k) g) once (suc i) s = root_once hangs g once.1 i s

pub writes_once : (p : Program) → FineProgram p → WritesOnce p
unfolding cycle_steps
writes_once p fine inputs s m =
    let w = p.world in
    let begun = set_inputs w inputs s in
    root_once w m (root_touches w p.states) p.states fine.once (child (root w) begun) begun
