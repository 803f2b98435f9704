-- Numbers stay within their widths, and levels levels.
use Rattle.std.proofs.lemmas.Bool.{cond_both}
use Rattle.sap_lemmas.proofs.Common.{◌≡◌, ℕ, zero, suc, ◌<◌, ◌^◌, Bool, true, false, List, [], ◌∷◌, get_or, refl, sym, subst, arith, nat_lt, inl, inr, if◌then◌else◌, pow_pos, cases_Bool, common_steps}
use Rattle.sap_lattice.specs.Order.{Laws}
use Rattle.sap_maps.specs.Term.{Term, constant, read, one, part}
use Rattle.sap_maps.proofs.Terms.{term_within}
use Rattle.sap_meaning.specs.Program.{World, Program, Entity, nothing, kind_is_input, is_dynamic, is_input, width, root, LevelTerm, fixed, of, at_place, both, Step, assign, write, retag, retag_cell, go_to, fall_to_child, Command, lone, try, if_else, try_then, case_of, Arms, last_arm, and_arm, Block, end_block, command_then, State, state_node, Group, no_node, and_node}
use Rattle.sap_meaning.specs.Store.{Slot, own, start, next, start_whole, next_whole, Store, owner, home, number, level, child, same_slot, put_number, put_level, put_child, raised, raise, lowered, reset, source, settle, After, stay}
use Rattle.sap_meaning.specs.Expressions.{value, tag, level_at, new_level, width_of}
use Rattle.sap_meaning.specs.Checks.{Home, guard, test, child_level}
use Rattle.sap_meaning.specs.Touches.{touches, raised_alone, root_touches}
use Rattle.sap_meaning.specs.Does.{within, effect, attempt, attempt_then, select, branch, does, does_arms, does_block, does_state, does_child}
use Rattle.sap_meaning.specs.Cycle.{Tagged, inputs_before, given, at_inputs, set_inputs, root_fall, cycle}
use Rattle.sap_meaning.specs.State.{Fits, first, first_number, input_widths, AllFit, InputsFit}
use Rattle.sap_meaning.specs.Fine.{FineLevel, FineStep, FineCommand, FineState, FineGroup, FineProgram}
use Rattle.sap_meaning.specs.Sized.{SizedTerm, SizedStep, SizedState, SizedGroup, SizedProgram, SizedCommand}
use Rattle.sap_meaning.specs.Laws.{NumbersFit}
use Rattle.sap_meaning.proofs.Slots.{slot_same, owner_source}
use Rattle.sap_meaning.proofs.Keeps.{branch_all, choose_all}
use Rattle.sap_meaning.specs.Walks.{Every, EveryInArms, EveryInBlock}

module _ (w : World) (laws : Laws w.order) where
  abbrev Level : ℕ → Type 0
  Level t = t < w.order.count

  value_fits : (e : Term ℕ) → SizedTerm w e → (s : Store) → Fits w s → value w e s < 2 ^ width_of w e
  value_fits e sized s f = term_within (width w) (λ x. number (own x) s) (λ m i. number (start m i) s) e sized.0 (λ x. f.numbers (own x)) (λ m i. f.numbers (start m i))

  tag_fits : (e : Term ℕ) (s : Store) → Fits w s → Level (tag w e s)
  tag_fits (constant u n) s f = laws.bottom_is_level
  tag_fits (read x) s f = f.levels _
  tag_fits (one op a) s f = tag_fits a s f
  tag_fits (part a hi lo) s f = tag_fits a s f
  tag_fits _ s f = laws.join_is_level _ _

  place_fits : (n : ℕ) → Level (level_at w.order n)
  place_fits n = cond_both (nat_lt n w.order.count) n w.order.top Level (λ e. grind (arith, common_steps, e)) (λ e. laws.top_is_level)

  level_fits : (n : LevelTerm) → FineLevel w n → (s : Store) → Fits w s → Level (new_level w n s)
  level_fits (fixed n) fine s f = fine
  level_fits (of e) fine s f = tag_fits e s f
  level_fits (at_place e) fine s f = place_fits (value w e s)
  level_fits (both a b) fine s f = laws.join_is_level _ _

  picked : (i : Bool) (n m u : ℕ) → n < u → m < u → (if i then n else m) < u
  picked true n m u h k = h
  picked false n m u h k = k

  fits_number : (s : Store) (z : Slot) (n : ℕ) → n < 2 ^ width w (owner z) → Fits w s → Fits w (put_number z n s)
  unfolding put_number
  fits_number s z n h f = record { numbers = λ y. part y (same_slot y z) (slot_same y z); levels = f.levels }
    where
      part : (y : Slot) (i : Bool) → (i ≡ true → y ≡ z) → (if i then n else number y s) < 2 ^ width w (owner y)
      part y true at = subst (λ x. n < 2 ^ width w (owner x)) (sym (at refl)) h
      part y false at = f.numbers y

  fits_level : (s : Store) (z : Slot) (t : ℕ) → Level t → Fits w s → Fits w (put_level w z t s)
  unfolding put_level
  fits_level s z t h f = record { numbers = f.numbers; levels = λ y. picked (same_slot y (home w z)) _ _ _ h (f.levels y) }

  fits_raise : (s : Store) (h : ℕ → Bool) (t : ℕ) → Fits w s → Fits w (raise w.order h t s)
  unfolding raise
  fits_raise s h t f = record { numbers = f.numbers; levels = λ y. picked (raised h y) _ _ _ (laws.join_is_level _ _) (f.levels y) }

  fits_child : (s : Store) (p n : ℕ) → Fits w s → Fits w (put_child p n s)
  unfolding put_child
  fits_child s p n f = record { numbers = f.numbers; levels = f.levels }

  fits_reset : (s : Store) (target : ℕ) → Fits w s → Fits w (reset w target s)
  unfolding reset
  fits_reset s target f = record { numbers = f.numbers; levels = λ y. picked (lowered w target y) _ _ _ laws.bottom_is_level (f.levels y) }

  fits_settle : (s : Store) → Fits w s → Fits w (settle s)
  unfolding settle
  fits_settle s f = record { numbers = λ y. subst (λ x. number (source y) s < 2 ^ width w x) (owner_source y) (f.numbers (source y)); levels = λ y. f.levels (source y) }

  abbrev Fitting : (Store → After) → Type 0
  Fitting f = (s : Store) → Fits w s → Fits w (f s).store

  zero_fits : (u : ℕ) → 0 < 2 ^ u
  zero_fits u = pow_pos u

  module _ (at : Home) (q : Group) (enter : ℕ → ℕ → Store → After) (entering : (n pc : ℕ) → Level pc → Fitting (enter n pc)) where
    child_level_fits : (g : Group) (n : ℕ) (s : Store) → Fits w s → Level (child_level w g n s)
    child_level_fits no_node n s f = laws.bottom_is_level
    child_level_fits (and_node (state_node c b k) g) zero s f = f.levels _
    child_level_fits (and_node (state_node c b k) g) (suc n) s f = child_level_fits g n s f

    effect_fits : (k : Step) → FineStep w q at.children k → SizedStep w k → (pc : ℕ) (b s : Store) → Level pc → Fits w b → Fits w s → Fits w (effect (within w at enter) k pc b s).store
    unfolding effect
    effect_fits (assign site x e) fine sized pc b s lp fb f =
        fits_level _ (own x) _ (picked (is_dynamic w x) _ _ _ (laws.join_is_level _ _) (f.levels _))
        (fits_number s (own x) _ (subst (λ (u : ℕ). value w e b < 2 ^ u) sized.1 (value_fits e sized.0 b fb)) f)
    effect_fits (write site m i e) fine sized pc b s lp fb f = elim (cases_Bool (is_dynamic w m)) [
      | inl d ↦ rw d (fits_number _ (next m (value w i b)) _ (subst (λ (u : ℕ). value w e b < 2 ^ u) sized.3 (value_fits e sized.2 b fb)) (fits_raise s _ _ f))
      | inr d ↦ rw d (fits_number s (next m (value w i b)) _ (subst (λ (u : ℕ). value w e b < 2 ^ u) sized.3 (value_fits e sized.2 b fb)) f)
    ]
    effect_fits (retag site x n) fine sized pc b s lp fb f =
        fits_level _ (own x) _ (level_fits n fine.2 b fb)
        (fits_number s (own x) _ (picked (w.order.le (level w (own x) b) (new_level w n b)) _ _ _ (fb.numbers (own x)) (zero_fits (width w x))) f)
    effect_fits (retag_cell site m j n) fine sized pc b s lp fb f =
        fits_level _ (next m (value w j b)) _ (level_fits n fine.3 b fb)
        (fits_number s (next m (value w j b)) _ (picked (w.order.le (level w (start m (value w j b)) b) (new_level w n b))
        _ _ _ (fb.numbers (start m (value w j b))) (zero_fits (width w m))) f)
    effect_fits (go_to site target) fine sized pc b s lp fb f =
        let moved = fits_reset _ target (fits_child s at.parent _ f) in
        elim (cases_Bool (is_dynamic w target)) [ inl d ↦ rw d (fits_level _ (own target) pc lp moved) | inr d ↦ rw d moved ]
    effect_fits (fall_to_child site hang) fine sized pc b s lp fb f = entering _ _ (laws.join_is_level _ _) s f

    attempt_fits : (k : Step) → FineStep w q at.children k → SizedStep w k → (hang : ℕ → Bool) (h : ℕ → Store → After)
        → ((p : ℕ) → Level p → Fitting (h p)) → (pc : ℕ) → Level pc → Fitting (attempt (within w at enter) k hang h pc)
    unfolding attempt
    attempt_fits k fine sized hang h g pc lp s f =
        let up = fits_raise s hang (guard w at k s) f in
        elim (cases_Bool (test w at k pc s)) [ inl t ↦ rw t (effect_fits k fine sized pc s _ lp f up) | inr t ↦ rw t (g _ (laws.join_is_level _ _) _ up) ]

    attempt_then_fits : (k : Step) → FineStep w q at.children k → SizedStep w k → (hang : ℕ → Bool) (a b : ℕ → Store → After)
        → ((p : ℕ) → Level p → Fitting (a p)) → ((p : ℕ) → Level p → Fitting (b p))
        → (pc : ℕ) → Level pc → Fitting (attempt_then (within w at enter) k hang a b pc)
    unfolding attempt_then
    attempt_then_fits k fine sized hang a b fa fb pc lp s f =
        let up = fits_raise s hang (guard w at k s) f in
        elim (cases_Bool (test w at k pc s)) [
          | inl t ↦ rw t (fa _ (laws.join_is_level _ _) _ (effect_fits k fine sized pc s _ lp f up))
          | inr t ↦ rw t (fb _ (laws.join_is_level _ _) _ up)
        ]

    select_fits : (e : Term ℕ) (hang : ℕ → Bool) (pick : ℕ → ℕ → Store → After) → ((v p : ℕ) → Level p → Fitting (pick v p)) → (pc : ℕ) → Fitting (select w e hang pick pc)
    unfolding select
    select_fits e hang pick g pc s f = g _ _ (laws.join_is_level _ _) _ (fits_raise s hang (tag w e s) f)

    mutual
      unfolding does does_arms does_block

      does_fits : (c : Command) → Every (FineCommand w q at.children) c → Every (SizedCommand w) c → (pc : ℕ) → Level pc → Fitting (does (within w at enter) c pc)
      does_fits (lone k) fine sized pc lp s f = attempt_fits k fine sized (raised_alone w at k) (λ p t. stay t) (λ p lq t h. h) pc lp s f
      does_fits (try k hang h) fine sized pc lp s f =
          attempt_fits k fine.0 sized.0 (touches w at (try k hang h)) (does_block (within w at enter) h) (λ p lq t i. block_fits h fine.1 sized.1 p lq t i) pc lp s f
      does_fits (if_else hang e a b) fine sized pc lp s f =
          select_fits e (touches w at (if_else hang e a b)) (branch (does_block (within w at enter) a) (does_block (within w at enter) b))
          (λ v p lq t i. branch_all (λ z. Fits w z.store) (does_block (within w at enter) a) (does_block (within w at enter) b) v p t
          (block_fits a fine.1 sized.1 p lq t i) (block_fits b fine.2 sized.2 p lq t i)) pc s f
      does_fits (try_then k hang a b) fine sized pc lp s f =
          attempt_then_fits k fine.0 sized.0 (touches w at (try_then k hang a b)) (does_block (within w at enter) a) (does_block (within w at enter) b)
          (λ p lq t i. block_fits a fine.1 sized.1 p lq t i) (λ p lq t i. block_fits b fine.2 sized.2 p lq t i) pc lp s f
      does_fits (case_of hang e arms) fine sized pc lp s f =
          select_fits e (touches w at (case_of hang e arms)) (does_arms (within w at enter) arms) (λ v p lq t i. arms_fit arms fine.1 sized.1 v p lq t i) pc s f

      arms_fit : (arms : Arms) → EveryInArms (FineCommand w q at.children) arms → EveryInArms (SizedCommand w) arms → (v pc : ℕ) → Level pc
          → Fitting (does_arms (within w at enter) arms v pc)
      arms_fit (last_arm b) fine sized v pc lp s f = block_fits b fine sized pc lp s f
      arms_fit (and_arm cs b arms) fine sized v pc lp s f =
          choose_all (λ z. Fits w z.store) cs (does_block (within w at enter) b) (does_arms (within w at enter) arms) v pc s
          (block_fits b fine.0 sized.0 pc lp s f) (arms_fit arms fine.1 sized.1 v pc lp s f)

      pub block_fits : (b : Block) → EveryInBlock (FineCommand w q at.children) b → EveryInBlock (SizedCommand w) b → (pc : ℕ) → Level pc
          → Fitting (does_block (within w at enter) b pc)
      block_fits end_block fine sized pc lp s f = f
      block_fits (command_then c cs) fine sized pc lp s f = block_fits cs fine.1 sized.1 pc lp _ (does_fits c fine.0 sized.0 pc lp s f)

  mutual
    unfolding does_state does_child

    state_fits : (t : State) (p : ℕ) (q : Group) (n : ℕ) → FineState w q n t → SizedState w t → (pc : ℕ) → Level pc → Fitting (does_state w t p pc)
    state_fits (state_node e b g) p q n fine sized pc lp s f =
        block_fits (record { state = e; parent = p; children = g }) q (does_child w g e)
        (λ m z lz s f. child_fits g e g 0 fine.1 sized.1 m z lz s f) b fine.0.steps sized.0 pc lp s f

    child_fits : (g : Group) (p : ℕ) (q : Group) (n : ℕ) → FineGroup w q n g → SizedGroup w g → (m pc : ℕ) → Level pc → Fitting (does_child w g p m pc)
    child_fits no_node p q n fine sized m pc lp s f = f
    child_fits (and_node t g) p q n fine sized zero pc lp s f = state_fits t p q n fine.0 sized.0 pc lp s f
    child_fits (and_node t g) p q n fine sized (suc m) pc lp s f = child_fits g p q (suc n) fine.1 sized.1 m pc lp s f

  root_fits : (hang : ℕ → Bool) (p : ℕ) (g : Group) (q : Group) (n : ℕ) → FineGroup w q n g → SizedGroup w g → (m : ℕ) → Fitting (root_fall w hang (λ t. does_state w t p) g m)
  unfolding root_fall
  root_fits hang p no_node q n fine sized m s f = f
  root_fits hang p (and_node (state_node c b k) g) q n fine sized zero s f = state_fits (state_node c b k) p q n fine.0 sized.0 _ (f.levels _) _ (fits_raise s hang _ f)
  root_fits hang p (and_node t g) q n fine sized (suc m) s f = root_fits hang p g q (suc n) fine.1 sized.1 m s f

abbrev pub Fit : ℕ → ℕ → Tagged → Type 0
Fit count u t = (t.number < 2 ^ u) × (t.level < count)

head_fits : (count u : ℕ) (us : List ℕ) (ts : List Tagged) (d : Tagged) → AllFit count (u ∷ us) ts → Fit count u (get_or ts 0 d)
head_fits count u us [] d h = absurd h
head_fits count u us (t ∷ ts) d h = (h.0, h.1)

tail_fits : (count u : ℕ) (us : List ℕ) (ts : List Tagged) (d : Tagged) (n v : ℕ)
    → ((rest : List Tagged) → AllFit count us rest → Fit count v (get_or rest n d)) → AllFit count (u ∷ us) ts → Fit count v (get_or ts (suc n) d)
tail_fits count u us [] d n v f h = absurd h
tail_fits count u us (t ∷ ts) d n v f h = f ts h.2

-- an input gets a number within its width, and a level
pub given_fits : (count : ℕ) (d : Tagged) (es : List Entity) (ts : List Tagged) → AllFit count (input_widths es) ts → (x : ℕ)
    → kind_is_input (get_or es x nothing).kind ≡ true → Fit count (get_or es x nothing).width (get_or ts (inputs_before es x) d)
given_fits count d [] ts fit zero i = cc
given_fits count d [] ts fit (suc x) i = cc
given_fits count d (e ∷ es) ts fit zero i = head_fits count e.width (input_widths es) ts d (rw i at fit)
given_fits count d (e ∷ es) ts fit (suc x) i = elim (cases_Bool (kind_is_input e.kind)) [
  | inl y ↦ rw y (tail_fits count e.width (input_widths es) ts d (inputs_before es x) (get_or es x nothing).width (λ rest h. given_fits count d es rest h x i) (rw y at fit))
  | inr y ↦ rw y (given_fits count d es ts (rw y at fit) x i)
]

fits_inputs : (w : World) (inputs : List Tagged) (s : Store) → InputsFit w inputs → Fits w s → Fits w (set_inputs w inputs s)
unfolding set_inputs
fits_inputs w inputs s fit f = record { numbers = numbers; levels = levels }
  where
    here : (x : ℕ) → is_input w x ≡ true → Fit w.order.count (width w x) (given w inputs x)
    here x i = given_fits w.order.count (record { number = 0; level = w.order.bottom }) w.entities inputs fit x i

    numbers : (z : Slot) → at_inputs w (λ x. (given w inputs x).number) s.number z < 2 ^ width w (owner z)
    numbers (own x) = elim (cases_Bool (is_input w x)) [ inl i ↦ rw i ((here x i).0) | inr i ↦ rw i (f.numbers (own x)) ]
    numbers (start m i) = f.numbers (start m i)
    numbers (next m i) = f.numbers (next m i)
    numbers (start_whole m) = f.numbers (start_whole m)
    numbers (next_whole m) = f.numbers (next_whole m)

    levels : (z : Slot) → at_inputs w (λ x. (given w inputs x).level) s.level z < w.order.count
    levels (own x) = elim (cases_Bool (is_input w x)) [ inl i ↦ rw i ((here x i).1) | inr i ↦ rw i (f.levels (own x)) ]
    levels (start m i) = f.levels (start m i)
    levels (next m i) = f.levels (next m i)
    levels (start_whole m) = f.levels (start_whole m)
    levels (next_whole m) = f.levels (next_whole m)

first_fits : (p : Program) → Laws p.world.order → SizedProgram p → Fits p.world (first p.world)
unfolding first
first_fits p laws sized = record { numbers = numbers; levels = λ z. picked p.world laws (is_dynamic p.world (owner z)) _ _ _ laws.bottom_is_level (sized.declared (owner z)) }
  where
    numbers : (z : Slot) → first_number p.world z < 2 ^ width p.world (owner z)
    numbers (own x) = sized.initials x
    numbers (start m i) = pow_pos (width p.world m)
    numbers (next m i) = pow_pos (width p.world m)
    numbers (start_whole m) = pow_pos (width p.world m)
    numbers (next_whole m) = pow_pos (width p.world m)

cycle_fits : (p : Program) → FineProgram p → SizedProgram p → (inputs : List Tagged) (s : Store) → InputsFit p.world inputs → Fits p.world s → Fits p.world (cycle p inputs s).store
unfolding cycle
cycle_fits p fine sized inputs s fit f =
    fits_settle p.world fine.order _ (root_fits p.world fine.order (root_touches p.world p.states) (root p.world) p.states p.states 0
    fine.states sized.states (child (root p.world) (set_inputs p.world inputs s)) (set_inputs p.world inputs s) (fits_inputs p.world inputs s fit f))

pub numbers_law : NumbersFit
numbers_law p fine sized = (first_fits p fine.order sized, λ inputs s fit f. cycle_fits p fine sized inputs s fit f)
