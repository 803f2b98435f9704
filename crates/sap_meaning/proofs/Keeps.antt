-- Every command keeps what every state keeps.
use Rattle.std.proofs.lemmas.Bool.{cond_both}
use Rattle.sap_lemmas.proofs.Common.{◌≡◌, ℕ, zero, suc, ◌<◌, Bool, true, false, List, refl, sym, ap, ◌∙◌, subst, arith, nat_eq, inl, inr, if◌then◌else◌, cases_Bool, eqb-true, common_steps, and_left, and_right}
use Rattle.sap_maps.specs.Term.{Term}
use Rattle.sap_meaning.specs.Program.{World, entity, is_dynamic, is_input, authority, children, place, below, Step, assign, write, retag, retag_cell, go_to, fall_to_child, Command, lone, try, if_else, try_then, case_of, Arms, last_arm, and_arm, Block, end_block, command_then, State, state_node, Group, no_node, and_node}
use Rattle.sap_meaning.specs.Store.{Slot, own, start, next, Store, owner, home, level, child, same_slot, put_number, put_level, put_child, raised, raise, lowered, reset, source, settle, held, After, stay}
use Rattle.sap_meaning.specs.Expressions.{tag, told}
use Rattle.sap_meaning.specs.Checks.{Home, guard, test}
use Rattle.sap_meaning.specs.Touches.{among, touches, raised_alone}
use Rattle.sap_meaning.specs.Does.{within, effect, attempt, attempt_then, select, branch, is_constant, choose_arm, does, does_arms, does_block, does_state, does_child}
use Rattle.sap_meaning.specs.Cycle.{Tagged, at_inputs, given, set_inputs}
use Rattle.sap_meaning.specs.State.{Holds, Rests, first}
pub use Rattle.sap_meaning.specs.Laws.{Keeps}
use Rattle.sap_meaning.specs.Fine.{FineStep, FineCommand, FineState, FineGroup}
use Rattle.sap_meaning.proofs.Trees.{lands}
use Rattle.sap_meaning.proofs.Slots.{slot_same, owner_home, home_start, home_next, level_raise, level_reset, level_settle, owner_source, raised_hangs, lowered_dynamic, held_source, held_register}
use Rattle.sap_meaning.specs.Walks.{Every, EveryInArms, EveryInBlock}

-- all that hangs is dynamic
abbrev pub OfDynamic : World → (ℕ → Bool) → Type 0
OfDynamic w h = (x : ℕ) → h x ≡ true → is_dynamic w x ≡ true

-- what holds of both blocks holds of the one that is picked
pub branch_all : (P : After → Type 0) (a b : ℕ → Store → After) (v p : ℕ) (t : Store) → P (a p t) → P (b p t) → P (branch a b v p t)
branch_all P a b v p t x y = cond_both (nat_eq v 0) (b p t) (a p t) P (λ e. y) (λ e. x)

-- and so for the arm and the others
pub choose_all : (P : After → Type 0) (cs : List ℕ) (a : ℕ → Store → After) (others : ℕ → ℕ → Store → After) (v p : ℕ) (t : Store) → P (a p t) → P (others v p t)
    → P (choose_arm cs a others v p t)
choose_all P cs a others v p t x y = cond_both (is_constant cs v) (a p t) (others v p t) P (λ e. x) (λ e. y)

module _ (w : World) where
  pub holds_number : (s : Store) (z : Slot) (n : ℕ) → Holds w s → Holds w (put_number z n s)
  unfolding put_number
  holds_number s z n r = record { above = r.above; seated = r.seated }

  pub holds_level : (s : Store) (z : Slot) (t : ℕ) → Holds w s → (is_dynamic w (owner z) ≡ false → w.order.le (authority w (owner z)) t ≡ true) → Holds w (put_level w z t s)
  unfolding put_level
  holds_level s z t r f = record { above = λ y g d. both y g d (same_slot (home w y) (home w z)) (λ h. slot_same _ _ h); seated = r.seated }
    where
      both : (y : Slot) → held w y ≡ true → is_dynamic w (owner y) ≡ false → (b : Bool) → (b ≡ true → home w y ≡ home w z)
          → w.order.le (authority w (owner y)) (if b then t else level w y s) ≡ true
      both y g d true at =
          let e : owner y ≡ owner z = sym (owner_home w y) ∙ ap owner (at refl) ∙ owner_home w z in
          subst (λ x. w.order.le (authority w x) t ≡ true) (sym e) (f (subst (λ x. is_dynamic w x ≡ false) e d))
      both y g d false at = r.above y g d

  -- what a raise leaves alone
  pub raise_keeps : (s : Store) (h : ℕ → Bool) (t : ℕ) → OfDynamic w h → (y : Slot) → is_dynamic w (owner y) ≡ false → level w y (raise w.order h t s) ≡ level w y s
  raise_keeps s h t dyn y d =
      level_raise w y h t s ∙ cond_both (raised h (home w y)) (w.order.join (level w y s) t) (level w y s) (λ v. v ≡ level w y s)
      (λ e. let no = dyn (owner y) (subst (λ x. h x ≡ true) (owner_home w y) (raised_hangs h (home w y) e)) in cc) (λ e. refl)

  pub holds_raise : (s : Store) (h : ℕ → Bool) (t : ℕ) → OfDynamic w h → Holds w s → Holds w (raise w.order h t s)
  unfolding raise
  holds_raise s h t dyn r = record { above = λ y g d. rw (raise_keeps s h t dyn y d) (r.above y g d); seated = r.seated }

  -- what a reset leaves alone
  pub reset_keeps : (s : Store) (target : ℕ) (y : Slot) → is_dynamic w (owner y) ≡ false → level w y (reset w target s) ≡ level w y s
  reset_keeps s target y d =
      level_reset w y target s ∙ cond_both (lowered w target (home w y)) w.order.bottom (level w y s) (λ v. v ≡ level w y s)
      (λ e. let no = subst (λ x. is_dynamic w x ≡ true) (owner_home w y) (lowered_dynamic w target (home w y) e) in cc) (λ e. refl)

  pub holds_reset : (s : Store) (target : ℕ) → Holds w s → Holds w (reset w target s)
  unfolding reset
  holds_reset s target r = record { above = λ y g d. rw (reset_keeps s target y d) (r.above y g d); seated = λ p h. both p h (nat_eq p target) (below w target p) }
    where
      both : (p : ℕ) → 0 < children w p → (a b : Bool) → (if a then 0 else if b then 0 else child p s) < children w p
      both p h true b = h
      both p h false true = h
      both p h false false = r.seated p h

  pub holds_child : (s : Store) (p n : ℕ) → n < children w p → Holds w s → Holds w (put_child p n s)
  unfolding put_child
  holds_child s p n f r = record { above = r.above; seated = λ q h. both q h (nat_eq q p) refl }
    where
      both : (q : ℕ) → 0 < children w q → (a : Bool) → nat_eq q p ≡ a → (if a then n else child q s) < children w q
      both q h true e = let k : q ≡ p = grind (arith, common_steps, e) in subst (λ x. n < children w x) (sym k) f
      both q h false e = r.seated q h

  pub holds_settle : (s : Store) → Holds w s → Holds w (settle s)
  unfolding settle
  holds_settle s r = record { above = λ y g d. rw (level_settle w y s) (both y g d); seated = r.seated }
    where
      both : (y : Slot) → held w y ≡ true → is_dynamic w (owner y) ≡ false → w.order.le (authority w (owner y)) (level w (source y) s) ≡ true
      both y g d = rw (← owner_source y) (r.above (source y) (held_source w y g) (rw (owner_source y) d))

  pub inputs_keep : (s : Store) (inputs : List Tagged) → ((x : ℕ) → is_input w x ≡ true → is_dynamic w x ≡ true) → (y : Slot)
      → is_dynamic w (owner y) ≡ false → level w y (set_inputs w inputs s) ≡ level w y s
  unfolding set_inputs
  inputs_keep s inputs f (own x) d = elim (cases_Bool (is_input w x)) [ inl i ↦ (let no = f x i in cc) | inr i ↦ rw i refl ]
  inputs_keep s inputs f (start m i) d = subst (λ z. at_inputs w (λ x. (given w inputs x).level) s.level z ≡ s.level z) (sym (home_start w m i d)) refl
  inputs_keep s inputs f (next m i) d = subst (λ z. at_inputs w (λ x. (given w inputs x).level) s.level z ≡ s.level z) (sym (home_next w m i d)) refl
  inputs_keep s inputs f _ d = refl

  pub holds_inputs : (s : Store) (inputs : List Tagged) → ((x : ℕ) → is_input w x ≡ true → is_dynamic w x ≡ true) → Holds w s → Holds w (set_inputs w inputs s)
  unfolding set_inputs
  holds_inputs s inputs f r = record { above = λ y g d. rw (inputs_keep s inputs f y d) (r.above y g d); seated = r.seated }

  pub first_holds : ((x : ℕ) → is_dynamic w x ≡ false → w.order.le (authority w x) (entity w x).declared ≡ true) → Holds w (first w)
  unfolding first
  first_holds f = record { above = λ z g d. rw (owner_home w z, d) (f (owner z) d); seated = λ p h. h }

  pub settle_rests : (s : Store) → Rests w (settle s)
  unfolding settle
  settle_rests s = record { numbers = λ m i. refl; levels = λ m i. level_settle w (start m i) s ∙ sym (level_settle w (next m i) s) }

module _ (w : World) (at : Home) (q : Group) (landing : (target : ℕ) → among q target ≡ true → place w target < children w at.parent)
    (enter : ℕ → ℕ → Store → After) (entering : (n pc : ℕ) → Keeps w (enter n pc)) where
  pub effect_holds : (k : Step) → FineStep w q at.children k → (pc : ℕ) (b s : Store) → test w at k pc b ≡ true → Holds w s → Holds w (effect (within w at enter) k pc b s).store
  unfolding effect
  effect_holds (assign site x e) fine pc b s t r = holds_level w _ (own x) _ (holds_number w s (own x) _ r) (λ d. rw d (r.above (own x) (held_register w x fine.0) d))
  effect_holds (write site m i e) fine pc b s t r = elim (cases_Bool (is_dynamic w m)) [
    | inl d ↦ rw d (holds_number w _ _ _ (holds_raise w s (λ x. nat_eq x m) _ (λ x h. subst (λ y. is_dynamic w y ≡ true) (sym (eqb-true x m h)) d) r))
    | inr d ↦ rw d (holds_number w s _ _ r)
  ]
  effect_holds (retag site x n) fine pc b s t r = holds_level w _ (own x) _ (holds_number w s (own x) _ r) (λ d. and_right _ _ t)
  effect_holds (retag_cell site m j n) fine pc b s t r =
      holds_level w _ (next m _) _ (holds_number w s (next m _) _ r) (λ d. and_right (w.order.le (w.order.join pc (w.order.join (told w n b) (tag w j b))) (authority w m)) _ t)
  effect_holds (go_to site target) fine pc b s t r =
      let moved = holds_reset w _ target (holds_child w s at.parent (place w target) (landing target fine) r) in
      elim (cases_Bool (is_dynamic w target)) [ inl d ↦ rw d (holds_level w _ (own target) pc moved (λ no. cc)) | inr d ↦ rw d moved ]
  effect_holds (fall_to_child site hang) fine pc b s t r = entering _ _ s r

  pub attempt_holds : (k : Step) → FineStep w q at.children k → (hang : ℕ → Bool) (h : ℕ → Store → After) → OfDynamic w hang
      → ((p : ℕ) → Keeps w (h p)) → (pc : ℕ) → Keeps w (attempt (within w at enter) k hang h pc)
  unfolding attempt
  attempt_holds k fine hang h dyn f pc s r =
      let up = holds_raise w s hang (guard w at k s) dyn r in
      elim (cases_Bool (test w at k pc s)) [ inl t ↦ rw t (effect_holds k fine pc s _ t up) | inr t ↦ rw t (f _ _ up) ]

  pub attempt_then_holds : (k : Step) → FineStep w q at.children k → (hang : ℕ → Bool) (f g : ℕ → Store → After) → OfDynamic w hang
      → ((p : ℕ) → Keeps w (f p)) → ((p : ℕ) → Keeps w (g p)) → (pc : ℕ) → Keeps w (attempt_then (within w at enter) k hang f g pc)
  unfolding attempt_then
  attempt_then_holds k fine hang f g dyn kf kg pc s r =
      let up = holds_raise w s hang (guard w at k s) dyn r in
      elim (cases_Bool (test w at k pc s)) [ inl t ↦ rw t (kf _ _ (effect_holds k fine pc s _ t up)) | inr t ↦ rw t (kg _ _ up) ]

  pub select_holds : (e : Term ℕ) (hang : ℕ → Bool) (pick : ℕ → ℕ → Store → After) → OfDynamic w hang → ((v p : ℕ) → Keeps w (pick v p))
      → (pc : ℕ) → Keeps w (select w e hang pick pc)
  unfolding select
  select_holds e hang pick dyn f pc s r = f _ _ _ (holds_raise w s hang (tag w e s) dyn r)

  pub alone_dynamic : (k : Step) → OfDynamic w (raised_alone w at k)
  alone_dynamic (go_to site target) x h = and_left (is_dynamic w x) _ h
  alone_dynamic (fall_to_child site hang) x h = and_left (is_dynamic w x) _ h
  alone_dynamic _ x h = cc

  mutual
    unfolding does does_arms does_block

    pub does_holds : (c : Command) → Every (FineCommand w q at.children) c → (pc : ℕ) → Keeps w (does (within w at enter) c pc)
    does_holds (lone k) fine pc s r = attempt_holds k fine (raised_alone w at k) (λ p t. stay t) (alone_dynamic k) (λ p t h. h) pc s r
    does_holds (try k hang h) fine pc s r = attempt_holds k fine.0 (touches w at (try k hang h)) (does_block (within w at enter) h)
        (λ x i. and_left (is_dynamic w x) _ i) (λ p t i. block_holds h fine.1 p t i) pc s r
    does_holds (if_else hang e a b) fine pc s r =
        select_holds e (touches w at (if_else hang e a b)) (branch (does_block (within w at enter) a) (does_block (within w at enter) b)) (λ x i. and_left (is_dynamic w x) _ i)
        (λ v p t i. branch_all (λ z. Holds w z.store) (does_block (within w at enter) a) (does_block (within w at enter) b) v p t (block_holds a fine.1 p t i) (block_holds b fine.2 p t i)) pc s r
    does_holds (try_then k hang a b) fine pc s r =
        attempt_then_holds k fine.0 (touches w at (try_then k hang a b)) (does_block (within w at enter) a) (does_block (within w at enter) b) (λ x i. and_left (is_dynamic w x) _ i)
        (λ p t i. block_holds a fine.1 p t i) (λ p t i. block_holds b fine.2 p t i) pc s r
    does_holds (case_of hang e arms) fine pc s r =
        select_holds e (touches w at (case_of hang e arms)) (does_arms (within w at enter) arms) (λ x i. and_left (is_dynamic w x) _ i) (λ v p t i. arms_hold arms fine.1 v p t i) pc s r

    pub arms_hold : (arms : Arms) → EveryInArms (FineCommand w q at.children) arms → (v pc : ℕ) → Keeps w (does_arms (within w at enter) arms v pc)
    arms_hold (last_arm b) fine v pc s r = block_holds b fine pc s r
    arms_hold (and_arm cs b arms) fine v pc s r =
        choose_all (λ z. Holds w z.store) cs (does_block (within w at enter) b) (does_arms (within w at enter) arms) v pc s (block_holds b fine.0 pc s r) (arms_hold arms fine.1 v pc s r)

    pub block_holds : (b : Block) → EveryInBlock (FineCommand w q at.children) b → (pc : ℕ) → Keeps w (does_block (within w at enter) b pc)
    block_holds end_block fine pc s r = r
    block_holds (command_then c cs) fine pc s r = block_holds cs fine.1 pc _ (does_holds c fine.0 pc s r)

abbrev pub Lands : World → (parent : ℕ) → Group → Type 0
Lands w p q = (target : ℕ) → among q target ≡ true → place w target < children w p

module _ (w : World) where
  mutual
    unfolding does_state does_child

    pub state_holds : (t : State) (p : ℕ) (q : Group) (n : ℕ) → Lands w p q → FineState w q n t → (pc : ℕ) → Keeps w (does_state w t p pc)
    state_holds (state_node e b g) p q n landing fine pc s r =
        block_holds w (record { state = e; parent = p; children = g }) q landing (does_child w g e)
        (λ m z s r. child_holds g e g 0 (lands w e g fine.1 fine.0.count) fine.1 m z s r) b fine.0.steps pc s r

    pub child_holds : (g : Group) (p : ℕ) (q : Group) (n : ℕ) → Lands w p q → FineGroup w q n g → (m pc : ℕ) → Keeps w (does_child w g p m pc)
    child_holds no_node p q n landing fine m pc s r = r
    child_holds (and_node t g) p q n landing fine zero pc s r = state_holds t p q n landing fine.0 pc s r
    child_holds (and_node t g) p q n landing fine (suc m) pc s r = child_holds g p q (suc n) landing fine.1 m pc s r
