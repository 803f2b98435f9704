-- In a context or under a guard that is not at or below l, nothing changes that is.
use Rattle.sap_lemmas.proofs.Common.{◌≡◌, ℕ, zero, suc, ◌+◌, ◌<◌, Bool, true, false, ◌&&◌, ◌||◌, [], refl, sym, ◌∙◌, arith, nat_eq, inl, inr, ◌⊎◌, cases_Bool, and_from, eqb-true, false_from_ne_true, or_cases, or_left, or_right, and_left, and_right, test_of_same}
use Rattle.sap_meaning.proofs.ProgramLemmas.{state_no_value}
use Rattle.sap_meaning.proofs.FineLemmas.{inside_among}
use Rattle.sap_lattice.specs.Order.{Laws}
use Rattle.sap_maps.specs.Term.{Term}
use Rattle.sap_meaning.specs.Prelude.{within, World, entity, is_dynamic, is_input, is_register, is_memory, is_state, authority, children, place, Step, assign, write, retag, retag_cell, go_to, fall_to_child, Command, lone, try, if_else, try_then, case_of, Arms, last_arm, and_arm, Block, end_block, command_then, State, state_node, Group, no_node, and_node, LevelTerm, Slot, own, start, next, start_whole, next_whole, Store, owner, home, level, child, put_child, raised, raise, reset, held, After, stay, Holds, value, tag, new_level, told, Home, guard, test, among, step_hangs, touches, raised_alone, effect, attempt, select, branch, does, does_block, does_state, does_child, attempt_then, does_arms, High, seen}
use Rattle.sap_meaning.proofs.Slots.{owner_home, raised_hangs, held_register, held_state}
use Rattle.sap_meaning.proofs.Trees.{Nth, lands}
use Rattle.sap_meaning.proofs.Keeps.{OfDynamic, Keeps, branch_all, raise_keeps, holds_raise, does_holds, block_holds, alone_dynamic, child_holds, choose_all, effect_holds}
use Rattle.sap_secure.proofs.Levels.{high_above, high_left, high_right, low_join, same_high, seen_nothing}
use Rattle.sap_secure.proofs.Agreeing.{compared, Agree, sole_own, sole_cell, agree_self, agree_next, agree_over, agree_hidden, agree_raise, raise_high, raise_to, agree_child, agree_reset, agree_state}
use Rattle.sap_secure.proofs.Concerns.{parted, dynamic_whole, block_whole, concerned, step_concerns, concerns, block_concerns, state_concerns, group_concerns, arms_concern}
use Rattle.sap_secure.proofs.Apart.{block_hung, block_found, inside_state, no_state}
use Rattle.sap_secure.proofs.Sites.{Around, Site, spot, Proper, ProperBlock, ProperStep, Disjoint, fine_command, fine_block, kids_around, node, not_own, no_kid, proper_body, ProperArms}
use Rattle.sap_secure.proofs.Frames.{start_kept, next_kept}

-- what commands can raise or write
abbrev pub changing : World → Slot → Bool
changing w (own x) = is_input w x || is_register w x
changing w (next m i) = is_memory w m
changing w _ = false

-- the cell as the cycle began
abbrev pub begun : Slot → Slot
begun (own x) = own x
begun (start m i) = start m i
begun (next m i) = start m i
begun (start_whole m) = start_whole m
begun (next_whole m) = next_whole m

pub owner_begun : (z : Slot) → owner (begun z) ≡ owner z
owner_begun (own x) = refl
owner_begun _ = refl

pub changing_compared : (w : World) (z : Slot) → changing w z ≡ true → compared w z ≡ true
changing_compared w (own x) h = h
changing_compared w (next m i) h = h
changing_compared w _ h = cc

pub raised_changing : (w : World) (hang : ℕ → Bool) (y : Slot) → compared w y ≡ true → raised hang (home w y) ≡ true → changing w y ≡ true
raised_changing w hang (start m i) g h = elim (cases_Bool (is_dynamic w m)) [ inl d ↦ (let h' = rw d at h in cc) | inr d ↦ (let h' = rw d at h in cc) ]
raised_changing w hang (start_whole m) g h = cc
raised_changing w hang (next_whole m) g h = cc
raised_changing w hang _ g h = g

pub raises_home : (w : World) (hang : ℕ → Bool) (z : Slot) → changing w z ≡ true → is_dynamic w (owner z) ≡ true → hang (owner z) ≡ true → raised hang (home w z) ≡ true
raises_home w hang (own x) g d h = h
raises_home w hang (next m i) g d h = rw d h
raises_home w hang _ g d h = cc

-- A slot is high, if it is dynamic; else its level is that with which the cycle began, or its authority is high.
abbrev pub Hush : World → ℕ → Slot → Store → Type 0
Hush w l z s = (is_dynamic w (owner z) ≡ true → High w.order l (level w z s))
    × (is_dynamic w (owner z) ≡ false → (level w (begun z) s ≡ level w z s) ⊎ High w.order l (authority w (owner z)))

-- so is each slot of those entities
abbrev pub Quiet : World → ℕ → (ℕ → Bool) → Store → Type 0
Quiet w l h s = (z : Slot) → changing w z ≡ true → h (owner z) ≡ true → Hush w l z s

-- the levels of the enforced ones among them are those with which the cycle began
abbrev pub Even : World → (ℕ → Bool) → Store → Type 0
Even w h s = (z : Slot) → changing w z ≡ true → is_dynamic w (owner z) ≡ false → h (owner z) ≡ true → level w (begun z) s ≡ level w z s

pub record Confined (w : World) (l : ℕ) (s : Store) (a : After) : Type 0 where
  pub same : Agree w l s a.store
  pub quiet : seen w.order l a.refused ≡ []

-- what children do in a high context
abbrev pub Entering : World → ℕ → Group → (ℕ → ℕ → Store → After) → Type 0
Entering w l g enter = (n pc : ℕ) (s : Store) → Holds w s → High w.order l pc → Quiet w l (group_concerns w g) s → Confined w l s (enter n pc s)

module _ (w : World) (laws : Laws w.order) (l : ℕ) where
  -- raises keep it
  pub hush_raise : (s : Store) (hang : ℕ → Bool) (a : ℕ) → OfDynamic w hang → (z : Slot) → Hush w l z s → Hush w l z (raise w.order hang a s)
  hush_raise s hang a dyn z q = (
    λ d. raise_high w laws l s hang a z (q.0 d),
    λ d. elim (q.1 d) [
      | inl e ↦ inl (raise_keeps w s hang a dyn (begun z) (rw (owner_begun z) d) ∙ e ∙ sym (raise_keeps w s hang a dyn z d))
      | inr h ↦ inr h
    ],
  )

  pub even_raise : (h hang : ℕ → Bool) (s : Store) (a : ℕ) → OfDynamic w hang → Even w h s → Even w h (raise w.order hang a s)
  even_raise h hang s a dyn e z g d i = raise_keeps w s hang a dyn (begun z) (rw (owner_begun z) d) ∙ e z g d i ∙ sym (raise_keeps w s hang a dyn z d)

  -- what is raised of what is quiet is high
  pub hushed : (h hang : ℕ → Bool) (s : Store) → ((x : ℕ) → hang x ≡ true → (is_dynamic w x && h x) ≡ true) → Quiet w l h s → (y : Slot)
      → compared w y ≡ true → raised hang (home w y) ≡ true → High w.order l (level w y s)
  hushed h hang s f quiet y g i =
      let k : hang (owner y) ≡ true = rw (owner_home w y) at (raised_hangs hang (home w y) i) in
      let j = f (owner y) k in
      (quiet y (raised_changing w hang y g i) (and_right (is_dynamic w (owner y)) _ j)).0 (and_left _ _ j)

  -- what is raised to a high level is quiet
  pub quiet_raise : (h hang : ℕ → Bool) (a : ℕ) (s : Store) → ((x : ℕ) → (is_dynamic w x && h x) ≡ true → hang x ≡ true) → OfDynamic w hang
      → High w.order l a → Even w h s → Quiet w l h (raise w.order hang a s)
  quiet_raise h hang a s inn dyn far e z g i =
      (λ d. raise_to w laws l s hang a z (raises_home w hang z g d (inn (owner z) (and_from _ _ d i))) far, λ d. inl (even_raise h hang s a dyn e z g d i))

  pub confined_self : (s : Store) → Confined w l s (stay s)
  confined_self s = record { same = agree_self w laws l s; quiet = refl }

  pub confined_from : (s r : Store) (a : After) → Agree w l s r → Confined w l r a → Confined w l s a
  confined_from s r a e c = record { same = agree_next w laws l s r a.store e c.same; quiet = c.quiet }

  -- what leaves a state that agrees with the one before keeps a slot quiet
  pub hush_next : (s t : Store) → Agree w l s t → (z : Slot) → changing w z ≡ true → Hush w l z s → Hush w l z t
  hush_next s t same z g q = (λ d. sym (same.cells z (changing_compared w z g)).low ∙ q.0 d, λ d. part z g d (q.1 d))
    where
      part : (z : Slot) → changing w z ≡ true → is_dynamic w (owner z) ≡ false → (level w (begun z) s ≡ level w z s) ⊎ High w.order l (authority w (owner z))
          → (level w (begun z) t ≡ level w z t) ⊎ High w.order l (authority w (owner z))
      part (next m j) g d (inr h) = inr h
      part (next m j) g d (inl e) = elim (cases_Bool (w.order.le (authority w m) l)) [
        | inl low ↦ inl (sym (same.tags (start m j) g d low) ∙ e ∙ same.tags (next m j) g d low)
        | inr high ↦ inr high
      ]
      part _ g d e = inl refl

  module _ (i : Site w) (entering : Entering w l i.kids i.enter) (holding : (n pc : ℕ) → Keeps w (i.enter n pc)) where
    abbrev At : Home
    At = spot i

    pub landing : (target : ℕ) → among i.siblings target ≡ true → place w target < children w i.parent
    landing = lands w i.parent i.siblings i.around.fine i.around.count

    pub keeps : (c : Command) → Proper w i c → (pc : ℕ) → Keeps w (does (within w At i.enter) c pc)
    keeps c fine pc = does_holds w At i.siblings landing i.enter holding c (fine_command w i c fine) pc

    pub keeps_block : (b : Block) → ProperBlock w i b → (pc : ℕ) → Keeps w (does_block (within w At i.enter) b pc)
    keeps_block b fine pc = block_holds w At i.siblings landing i.enter holding b (fine_block w i b fine) pc

    -- commands before those that touch the cells of a memory leave both parts as they were
    pub even_next : (c : Command) (cs : Block) → Disjoint w i c cs → (pc : ℕ) (s : Store) → Even w (block_concerns w i.state i.kids cs) s
        → Even w (block_concerns w i.state i.kids cs) (does (within w At i.enter) c pc s).store
    even_next c cs apart pc s e z g d h = part z g h d (e z g d h)
      where
        part : (z : Slot) → changing w z ≡ true → block_concerns w i.state i.kids cs (owner z) ≡ true → is_dynamic w (owner z) ≡ false
            → level w (begun z) s ≡ level w z s → level w (begun z) (does (within w (spot i) i.enter) c pc s).store ≡ level w z (does (within w (spot i) i.enter) c pc s).store
        part (next m j) g h d e = let a = apart m g d h in (start_kept w i 0 m g d c a.0 a.1 pc s j).level ∙ e ∙ sym (next_kept w i 0 m g d c a.0 a.1 pc s j).level
        part _ g h d e = refl

    -- a context or a guard that is high
    abbrev pub Up : ℕ → Step → Store → Type 0
    Up pc k b = High w.order l pc ⊎ High w.order l (guard w At k b)

    pub up_join : (pc : ℕ) (k : Step) (b : Store) → Up pc k b → High w.order l (w.order.join pc (guard w At k b))
    up_join pc k b (inl h) = high_left w.order laws l pc _ h
    up_join pc k b (inr h) = high_right w.order laws l pc _ h

    pub set_high : (site x : ℕ) (e : Term ℕ) (pc : ℕ) (b : Store) → is_dynamic w x ≡ false → test w At (assign site x e) pc b ≡ true
        → Up pc (assign site x e) b → High w.order l (level w (own x) b)
    set_high site x e pc b d t (inl h) = let t' = rw d at t in high_above w.order laws l pc _ (laws.trans _ _ _ (laws.left pc (tag w e b)) t') h
    set_high site x e pc b d t (inr h) = let h' = rw d at h in h'

    write_high : (site m : ℕ) (j e : Term ℕ) (pc : ℕ) (b : Store) → is_dynamic w m ≡ false → test w At (write site m j e) pc b ≡ true
        → Up pc (write site m j e) b → High w.order l (level w (start m (value w j b)) b)
    write_high site m j e pc b d t (inl h) =
        let t' = rw d at t in
        high_above w.order laws l pc _ (laws.trans _ _ _ (laws.left pc (w.order.join (tag w j b) (tag w e b))) t') h
    write_high site m j e pc b d t (inr h) =
        let t' = rw d at t in
        let h' = rw d at h in
        elim (cases_Bool (w.order.le (level w (start m (value w j b)) b) l)) [
          | inr y ↦ y
          | inl y ↦ (
              let a = laws.trans _ _ _ (laws.trans _ _ _ (laws.left (tag w j b) (tag w e b)) (laws.right pc (w.order.join (tag w j b) (tag w e b)))) t' in
              let no = low_join w.order laws l _ _ (laws.trans _ _ _ a y) y in cc)
        ]

    retag_high : (site x : ℕ) (n : LevelTerm) (pc : ℕ) (b : Store) → test w At (retag site x n) pc b ≡ true → Up pc (retag site x n) b → High w.order l (authority w x)
    retag_high site x n pc b t (inl h) = high_above w.order laws l pc _ (laws.trans _ _ _ (laws.left pc (told w n b)) (and_left _ _ t)) h
    retag_high site x n pc b t (inr h) = h

    cell_high : (site m : ℕ) (j : Term ℕ) (n : LevelTerm) (pc : ℕ) (b : Store) → test w At (retag_cell site m j n) pc b ≡ true
        → Up pc (retag_cell site m j n) b → High w.order l (authority w m)
    cell_high site m j n pc b t (inl h) = high_above w.order laws l pc _ (laws.trans _ _ _ (laws.left pc (w.order.join (told w n b) (tag w j b))) (and_left _ _ t)) h
    cell_high site m j n pc b t (inr h) = h

    pub held_target : (x : ℕ) → (is_register w x || is_state w x) ≡ true → held w (own x) ≡ true
    held_target x h = elim (or_cases _ _ h) [ inl r ↦ held_register w x r | inr s ↦ held_state w x s ]

    -- the effect of a step, from the raised store r
    pub step_confined : (k : Step) → ProperStep w i k → (pc : ℕ) (b r : Store)
        → ((z : Slot) → is_dynamic w (owner z) ≡ false → level w z r ≡ level w z b) → Holds w r
        → Quiet w l (step_concerns w i.state i.kids k) r → test w At k pc b ≡ true → Up pc k b → Confined w l r (effect (within w At i.enter) k pc b r)
    unfolding effect
    step_confined (assign site x e) fine pc b r kept holds quiet t up =
        let over = agree_over w laws l r (own x) (value w e b) in
        elim (cases_Bool (is_dynamic w x)) [
          | inl d ↦ rw d (
              let mine : High w.order l (level w (own x) r) = (quiet (own x) (or_right _ _ fine.0.0) (test_of_same x)).0 d in
              let high : High w.order l (w.order.join pc (tag w e b)) = high_left w.order laws l pc _ (pc_high d up) in
              record { same = over _ (sole_own w x) (λ _. same_high w.order laws l _ _ _ _ mine high) (λ no _. cc); quiet = refl })
          | inr d ↦ rw d (
              let was : High w.order l (level w (own x) r) = rw (kept (own x) d) (set_high site x e pc b d t up) in
              record { same = over _ (sole_own w x) (λ _. same_high w.order laws l _ _ _ _ was was) (λ _ _. refl); quiet = refl })
        ]
      where
        pc_high : is_dynamic w x ≡ true → Up pc (assign site x e) b → High w.order l pc
        pc_high d (inl h) = h
        pc_high d (inr h) = let h' = rw d at h in let low = laws.least_of_all l in cc
    step_confined (write site m j e) fine pc b r kept holds quiet t up = elim (cases_Bool (is_dynamic w m)) [
      | inl d ↦ rw d (
          let v = w.order.join pc (w.order.join (tag w j b) (tag w e b)) in
          let dyn : OfDynamic w (λ y. nat_eq y m) = λ y h. rw (eqb-true y m h) d in
          let cells : (y : Slot) → compared w y ≡ true → raised (λ y. nat_eq y m) (home w y) ≡ true → High w.order l (level w y r) =
          hushed (λ y. nat_eq y m) (λ y. nat_eq y m) r (λ y h. and_from _ _ (dyn y h) h) quiet in
          let high = raise_high w laws l r (λ y. nat_eq y m) v (next m (value w j b)) ((quiet (next m (value w j b)) fine.0.0 (test_of_same m)).0 d) in
          record {
            same = agree_next w laws l _ _ _ (agree_raise w laws l r (λ y. nat_eq y m) v dyn cells) (agree_hidden w laws l _ (next m (value w j b)) _ (λ _. high));
            quiet = refl;
          })
      | inr d ↦ rw d (
          let was : High w.order l (level w (next m (value w j b)) r) = cell_was d ((quiet (next m (value w j b)) fine.0.0 (test_of_same m)).1 d) in
          record { same = agree_hidden w laws l r (next m (value w j b)) _ (λ _. was); quiet = refl })
    ]
      where
        cell_was : is_dynamic w m ≡ false → (level w (start m (value w j b)) r ≡ level w (next m (value w j b)) r) ⊎ High w.order l (authority w m)
            → High w.order l (level w (next m (value w j b)) r)
        cell_was d (inl q) =
            let same : level w (start m (value w j b)) b ≡ level w (next m (value w j b)) r = sym (kept (start m (value w j b)) d) ∙ q in
            rw (← same) (write_high site m j e pc b d t up)
        cell_was d (inr h) = high_above w.order laws l _ _ (holds.above (next m (value w j b)) fine.0.0 d) h
    step_confined (retag site x n) fine pc b r kept holds quiet t up =
        let a = retag_high site x n pc b t up in
        let high : High w.order l (new_level w n b) =
        high_above w.order laws l (authority w x) (new_level w n b) (and_right (w.order.le (w.order.join pc (told w n b)) (authority w x)) _ t) a in
        let was = high_above w.order laws l _ _ (holds.above (own x) (held_target x fine.0.0) fine.0.1) a in
        record { same = agree_over w laws l r (own x) _ (new_level w n b) (sole_own w x) (λ _. same_high w.order laws l _ _ _ _ was high) (λ _ low. cc); quiet = refl }
    step_confined (retag_cell site m j n) fine pc b r kept holds quiet t up =
        let a = cell_high site m j n pc b t up in
        let high : High w.order l (new_level w n b) =
        high_above w.order laws l _ _ (and_right (w.order.le (w.order.join pc (w.order.join (told w n b) (tag w j b))) (authority w m)) _ t) a in
        let was = high_above w.order laws l _ _ (holds.above (next m (value w j b)) fine.0.0 fine.0.1) a in
        record {
          same = agree_over w laws l r (next m (value w j b)) _ (new_level w n b) (sole_cell w m _ fine.0.1)
              (λ _. same_high w.order laws l _ _ _ _ was high) (λ _ low. cc);
          quiet = refl;
        }
    step_confined (go_to site target) fine pc b r kept holds quiet t up =
        let two = agree_next w laws l _ _ _ (agree_child w laws l r i.parent (place w target)) (agree_reset w laws l (put_child i.parent (place w target) r) target) in
        elim (cases_Bool (is_dynamic w target)) [
          | inl d ↦ rw d (record {
            same = agree_next w laws l _ _ _ two
                (agree_state w laws l (reset w target (put_child i.parent (place w target) r)) target pc
                (inside_state w i.siblings 0 i.siblings i.around.fine target (inside_among i.siblings target fine.0)) d);
            quiet = refl;
          })
          | inr d ↦ rw d (record { same = two; quiet = refl })
        ]
    step_confined (fall_to_child site hang) fine pc b r kept holds quiet t up =
        entering (child i.state b) _ r holds (up_join pc (fall_to_child site hang) b up) (λ z g h. quiet z g (or_right (among i.kids (owner z)) _ h))

    -- from the raised store on, with the handler h
    pub attempt_confined : (k : Step) → ProperStep w i k → (hang : ℕ → Bool) (h : ℕ → Store → After) (pc : ℕ) (s : Store) → OfDynamic w hang
        → Holds w s → Quiet w l (step_concerns w i.state i.kids k) (raise w.order hang (guard w At k s) s) → Up pc k s
        → ((q : ℕ) → High w.order l q → Confined w l (raise w.order hang (guard w At k s) s) (h q (raise w.order hang (guard w At k s) s)))
        → Confined w l (raise w.order hang (guard w At k s) s) (attempt (within w At i.enter) k hang h pc s)
    unfolding attempt
    attempt_confined k fine hang h pc s dyn holds quiet up handler = elim (cases_Bool (test w At k pc s)) [
      | inl t ↦ rw t (step_confined k fine pc s _ (raise_keeps w s hang _ dyn) (holds_raise w s hang _ dyn holds) quiet t up)
      | inr t ↦ rw t (
          let high : High w.order l (w.order.join pc (guard w At k s)) = up_join pc k s up in
          let c = handler _ high in
          record { same = c.same; quiet = rw high c.quiet })
    ]

    -- the accepted part goes on from the store behind the effect
    pub attempt_then_confined : (k : Step) → ProperStep w i k → (hang : ℕ → Bool) (f g : ℕ → Store → After) (pc : ℕ) (s : Store) → OfDynamic w hang → Holds w s
        → Quiet w l (step_concerns w i.state i.kids k) (raise w.order hang (guard w At k s) s) → Up pc k s
        → ((q : ℕ) (u : Store) → High w.order l q → Holds w u → Agree w l (raise w.order hang (guard w At k s) s) u → Confined w l u (f q u))
        → ((q : ℕ) → High w.order l q → Confined w l (raise w.order hang (guard w At k s) s) (g q (raise w.order hang (guard w At k s) s)))
        → Confined w l (raise w.order hang (guard w At k s) s) (attempt_then (within w At i.enter) k hang f g pc s)
    unfolding attempt_then
    attempt_then_confined k fine hang f g pc s dyn holds quiet up accepted refused = elim (cases_Bool (test w At k pc s)) [
      | inl t ↦ rw t (
          let r = raise w.order hang (guard w At k s) s in
          let raised_holds = holds_raise w s hang (guard w At k s) dyn holds in
          let one = step_confined k fine pc s r (raise_keeps w s hang _ dyn) raised_holds quiet t up in
          let u = (effect (within w At i.enter) k pc s r).store in
          let two = accepted (w.order.join pc (guard w At k s)) u (up_join pc k s up)
          (effect_holds w At i.siblings landing i.enter holding k fine.0 pc s r t raised_holds) one.same in
          record { same = agree_next w laws l _ _ _ one.same two.same; quiet = seen_nothing w.order laws l _ _ one.quiet two.quiet })
      | inr t ↦ rw t (
          let high : High w.order l (w.order.join pc (guard w At k s)) = up_join pc k s up in
          let c = refused _ high in
          record { same = c.same; quiet = rw high c.quiet })
    ]

    pub select_confined : (e : Term ℕ) (hang : ℕ → Bool) (pick : ℕ → ℕ → Store → After) (pc : ℕ) (s : Store)
        → High w.order l (w.order.join pc (tag w e s))
        → ((v q : ℕ) → High w.order l q → Confined w l (raise w.order hang (tag w e s) s) (pick v q (raise w.order hang (tag w e s) s)))
        → Confined w l (raise w.order hang (tag w e s) s) (select w e hang pick pc s)
    unfolding select
    select_confined e hang pick pc s up f = f _ _ up

    pub touches_dynamic : (c : Command) → OfDynamic w (touches w At c)
    touches_dynamic c x h = and_left (is_dynamic w x) _ h

    pub alone_within : (k : Step) (x : ℕ) → raised_alone w At k x ≡ true → (is_dynamic w x && step_hangs i.state i.kids k x) ≡ true
    alone_within (go_to site target) x h = h
    alone_within (fall_to_child site hang) x h = h
    alone_within _ x h = cc

    pub quiet_left : (a b : ℕ → Bool) (s : Store) → Quiet w l (λ x. a x || b x) s → Quiet w l a s
    quiet_left a b s q z g h = q z g (or_left (a (owner z)) (b (owner z)) h)

    pub quiet_right : (a b : ℕ → Bool) (s : Store) → Quiet w l (λ x. a x || b x) s → Quiet w l b s
    quiet_right a b s q z g h = q z g (or_right (a (owner z)) (b (owner z)) h)

    pub quiet_kept : (h hang : ℕ → Bool) (a : ℕ) (s : Store) → OfDynamic w hang → Quiet w l h s → Quiet w l h (raise w.order hang a s)
    quiet_kept h hang a s dyn q z g e = hush_raise s hang a dyn z (q z g e)

    mutual
      unfolding does does_arms does_block

      pub does_confined : (c : Command) → Proper w i c → (pc : ℕ) (s : Store) → Holds w s → High w.order l pc
          → Quiet w l (concerns w i.state i.kids c) s → Confined w l s (does (within w At i.enter) c pc s)
      does_confined (lone k) fine pc s holds high quiet =
          let hang = raised_alone w At k in
          let dyn : OfDynamic w hang = alone_dynamic w At i.siblings landing i.enter holding k in
          let e = agree_raise w laws l s hang (guard w At k s) dyn
          (hushed (step_concerns w i.state i.kids k) hang s (λ x j. concerned w i.state i.kids (lone k) x (alone_within k x j)) quiet) in
          confined_from s _ _ e (attempt_confined k fine hang (λ q s. stay s) pc s dyn holds
          (quiet_kept (step_concerns w i.state i.kids k) hang (guard w At k s) s dyn quiet) (inl high) (λ q up. confined_self _))
      does_confined (try k hang h) fine pc s holds high quiet =
          let hung = touches w At (try k hang h) in
          let dyn : OfDynamic w hung = touches_dynamic (try k hang h) in
          let e = agree_raise w laws l s hung (guard w At k s) dyn (hushed (concerns w i.state i.kids (try k hang h)) hung s (concerned w i.state i.kids (try k hang h)) quiet) in
          let r' = raise w.order hung (guard w At k s) s in
          let q = quiet_kept (concerns w i.state i.kids (try k hang h)) hung (guard w At k s) s dyn quiet in
          confined_from s _ _ e (attempt_confined k fine.0 hung (does_block (within w At i.enter) h) pc s dyn holds
          (quiet_left (step_concerns w i.state i.kids k) (block_concerns w i.state i.kids h) r' q) (inl high)
          (λ r up. block_confined h fine.1 r _ (holds_raise w s hung _ dyn holds) up (quiet_right (step_concerns w i.state i.kids k) (block_concerns w i.state i.kids h) r' q)))
      does_confined (if_else hang e a b) fine pc s holds high quiet =
          let hung = touches w At (if_else hang e a b) in
          let dyn : OfDynamic w hung = touches_dynamic (if_else hang e a b) in
          let same = agree_raise w laws l s hung (tag w e s) dyn
          (hushed (concerns w i.state i.kids (if_else hang e a b)) hung s (concerned w i.state i.kids (if_else hang e a b)) quiet) in
          let r' = raise w.order hung (tag w e s) s in
          let q = quiet_kept (concerns w i.state i.kids (if_else hang e a b)) hung (tag w e s) s dyn quiet in
          confined_from s _ _ same (select_confined e hung (branch (does_block (within w At i.enter) a) (does_block (within w At i.enter) b)) pc s (high_left w.order laws l pc _ high)
          (λ v r up. branch_all (λ z. Confined w l (raise w.order hung (tag w e s) s) z) (does_block (within w At i.enter) a)
          (does_block (within w At i.enter) b) v r (raise w.order hung (tag w e s) s)
          (block_confined a fine.1 r _ (holds_raise w s hung _ dyn holds) up (quiet_left (block_concerns w i.state i.kids a) (block_concerns w i.state i.kids b) r' q))
          (block_confined b fine.2 r _ (holds_raise w s hung _ dyn holds) up (quiet_right (block_concerns w i.state i.kids a) (block_concerns w i.state i.kids b) r' q))))
      does_confined (try_then k hang a b) fine pc s holds high quiet =
          let hung = touches w At (try_then k hang a b) in
          let dyn : OfDynamic w hung = touches_dynamic (try_then k hang a b) in
          let e = agree_raise w laws l s hung (guard w At k s) dyn
          (hushed (concerns w i.state i.kids (try_then k hang a b)) hung s (concerned w i.state i.kids (try_then k hang a b)) quiet) in
          let r' = raise w.order hung (guard w At k s) s in
          let q = quiet_kept (concerns w i.state i.kids (try_then k hang a b)) hung (guard w At k s) s dyn quiet in
          let own = step_concerns w i.state i.kids k in
          let one = block_concerns w i.state i.kids a in
          let other = block_concerns w i.state i.kids b in
          let behind = quiet_right own (λ x. one x || other x) r' q in
          confined_from s _ _ e (attempt_then_confined k fine.0 hung (does_block (within w At i.enter) a) (does_block (within w At i.enter) b) pc s dyn holds
          (quiet_left own (λ x. one x || other x) r' q) (inl high)
          (λ r u up hold same. block_confined a fine.1 r u hold up (λ z g h. hush_next r' u same z g (quiet_left one other r' behind z g h)))
          (λ r up. block_confined b fine.2 r _ (holds_raise w s hung _ dyn holds) up (quiet_right one other r' behind)))
      does_confined (case_of hang e arms) fine pc s holds high quiet =
          let hung = touches w At (case_of hang e arms) in
          let dyn : OfDynamic w hung = touches_dynamic (case_of hang e arms) in
          let same = agree_raise w laws l s hung (tag w e s) dyn
          (hushed (concerns w i.state i.kids (case_of hang e arms)) hung s (concerned w i.state i.kids (case_of hang e arms)) quiet) in
          let q = quiet_kept (concerns w i.state i.kids (case_of hang e arms)) hung (tag w e s) s dyn quiet in
          confined_from s _ _ same (select_confined e hung (does_arms (within w At i.enter) arms) pc s (high_left w.order laws l pc _ high)
          (λ v r up. arms_confined arms fine.1 v r _ (holds_raise w s hung _ dyn holds) up q))

      pub arms_confined : (arms : Arms) → ProperArms w i arms → (v pc : ℕ) (s : Store) → Holds w s → High w.order l pc → Quiet w l (arms_concern w i.state i.kids arms) s
          → Confined w l s (does_arms (within w At i.enter) arms v pc s)
      arms_confined (last_arm b) fine v pc s holds high quiet = block_confined b fine pc s holds high quiet
      arms_confined (and_arm cs b arms) fine v pc s holds high quiet =
          choose_all (λ z. Confined w l s z) cs (does_block (within w At i.enter) b) (does_arms (within w At i.enter) arms) v pc s
          (block_confined b fine.0 pc s holds high (quiet_left (block_concerns w i.state i.kids b) (arms_concern w i.state i.kids arms) s quiet))
          (arms_confined arms fine.1 v pc s holds high (quiet_right (block_concerns w i.state i.kids b) (arms_concern w i.state i.kids arms) s quiet))

      pub block_confined : (b : Block) → ProperBlock w i b → (pc : ℕ) (s : Store) → Holds w s → High w.order l pc
          → Quiet w l (block_concerns w i.state i.kids b) s → Confined w l s (does_block (within w At i.enter) b pc s)
      block_confined end_block fine pc s holds high quiet = confined_self s
      block_confined (command_then c cs) fine pc s holds high quiet =
          let f = does_confined c fine.0 pc s holds high (quiet_left (concerns w i.state i.kids c) (block_concerns w i.state i.kids cs) s quiet) in
          let s' = (does (within w At i.enter) c pc s).store in
          let g = block_confined cs fine.1 pc s' (keeps c fine.0 pc s holds) high
          (λ z g h. hush_next s s' f.same z g (quiet z g (or_right (concerns w i.state i.kids c (owner z)) _ h))) in
          record { same = agree_next w laws l _ _ _ f.same g.same; quiet = seen_nothing w.order laws l _ _ f.quiet g.quiet }

-- a slot that changes belongs to no state
pub changing_no_state : (w : World) (z : Slot) → changing w z ≡ true → is_state w (owner z) ≡ false
changing_no_state w (own x) g = false_from_ne_true _ (λ s. let no = state_no_value (entity w x).kind s in cc)
changing_no_state w (next m j) g = no_state w m (or_right _ _ g)
changing_no_state w _ g = cc

module _ (w : World) (laws : Laws w.order) (l : ℕ) where
  -- what concerns a state's body, concerns the state
  body_concerned : (i : Site w) (x : ℕ) → is_state w x ≡ false → block_concerns w i.state i.kids i.body x ≡ true → state_concerns w (state_node i.state i.body i.kids) x ≡ true
  body_concerned i x st h = elim (cases_Bool (parted w x)) [
    | inl p ↦ rw p (block_hung w x (and_left (is_memory w x) _ p) (false_from_ne_true (is_dynamic w x) (λ d. let no = dynamic_whole w x d in
        cc)) i.state i.kids (not_own w i x st) (no_kid w i x st) i.siblings i.kids i.body (node w i).steps h)
    | inr p ↦ rw p (block_found i.state i.kids x (not_own w i x st) (no_kid w i x st) i.body (sym (block_whole w x p i.state i.kids i.body) ∙ h))
  ]

  pub body_quiet : (i : Site w) (s : Store) → Quiet w l (state_concerns w (state_node i.state i.body i.kids)) s → Quiet w l (block_concerns w i.state i.kids i.body) s
  body_quiet i s q z g h = q z g (body_concerned i (owner z) (changing_no_state w z g) h)

  pub body_even : (i : Site w) (s : Store) → Even w (state_concerns w (state_node i.state i.body i.kids)) s → Even w (block_concerns w i.state i.kids i.body) s
  body_even i s q z g d h = q z g d (body_concerned i (owner z) (changing_no_state w z g) h)

-- the state that is the n-th of a group, with what its children do
abbrev pub site_at : (w : World) (p n e : ℕ) (b : Block) (g q : Group) → Around w p q → Nth q n (state_node e b g) → Site w
site_at w p n e b g q around self = record { state = e; parent = p; index = n; body = b; kids = g; siblings = q; around = around; self = self; enter = does_child w g e }

module _ (w : World) (laws : Laws w.order) (l : ℕ) where
  pub kids_hold : (p : ℕ) (q : Group) → Around w p q → (n pc : ℕ) → Keeps w (does_child w q p n pc)
  kids_hold p q around n pc = child_holds w q p q 0 (lands w p q around.fine around.count) around.fine n pc

  mutual
    unfolding does_state does_child

    state_confined : (t : State) (p n : ℕ) (q : Group) → Around w p q → Nth q n t → (pc : ℕ) (s : Store) → Holds w s → High w.order l pc
        → Quiet w l (state_concerns w t) s → Confined w l s (does_state w t p pc s)
    state_confined (state_node e b g) p n q around self pc s holds high quiet =
        let i = site_at w p n e b g q around self in
        let kids = kids_around w i in
        block_confined w laws l i (λ m r t. from_confined g e g 0 kids (λ m a h. let e : 0 + m ≡ m = omega arith in rw e h) m r t)
        (kids_hold e g kids) b (proper_body w i) pc s holds high (body_quiet w laws l i s quiet)

    -- the states of the parent's group q from the k-th on
    from_confined : (g : Group) (p : ℕ) (q : Group) (k : ℕ) → Around w p q → ((m : ℕ) (a : State) → Nth g m a → Nth q (k + m) a)
        → (m pc : ℕ) (s : Store) → Holds w s → High w.order l pc → Quiet w l (group_concerns w g) s → Confined w l s (does_child w g p m pc s)
    from_confined no_node p q k around place m pc s holds high quiet = confined_self w laws l s
    from_confined (and_node t g) p q k around place zero pc s holds high quiet =
        state_confined t p (k + 0) q around (place zero t refl) pc s holds high (λ z j h. quiet z j (or_left _ _ h))
    from_confined (and_node t g) p q k around place (suc m) pc s holds high quiet =
        from_confined g p q (suc k) around (λ m a h. let e : suc k + m ≡ k + suc m = omega arith in
        rw e (place (suc m) a h)) m pc s holds high (λ z j h. quiet z j (or_right (state_concerns w t (owner z)) _ h))

  pub child_confined : (p : ℕ) (q : Group) → Around w p q → Entering w l q (does_child w q p)
  child_confined p q around m pc s = from_confined q p q 0 around (λ m a h. let e : 0 + m ≡ m = omega arith in rw e h) m pc s
