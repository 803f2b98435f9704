-- The lists in the program of a design have exactly what hangs.
use Rattle.sap_lemmas.proofs.Common.{◌≡◌, ℕ, suc, ◌+◌, ◌<◌, ◌≤◌, Bool, true, false, ◌&&◌, ◌||◌, List, [], ◌∷◌, length, Option, Some, None, nat_eq, nat_lt, refl, sym, ap, ◌∙◌, arith, get_or_past, inl, inr, bytes_eq, option_map, cases_Bool, eqb-true, false_from_ne_true, or_cases, and_right, or_equal}
use Rattle.sap_resolved.proofs.FillLemmas.{table_length, table_at}
use Rattle.sap_resolved.proofs.TreeWalks.{steps_of_block}
use Rattle.sap_meaning.proofs.WalksLemmas.{some_gives, some_in_block_gives, every_with_in_block, every_mapped_block}
use Rattle.sap_meaning.specs.Prelude.{Every, Asks, EveryInBlock, World, is_dynamic, root, listed, Step, Group, Home, among, step_assigns, block_assigns, state_assigns, group_assigns, step_hangs, hangs, touches, root_touches, ExactStep, ExactCommand, ExactGroup, ExactProgram}
use Rattle.sap_meaning.specs.Fine.{ExactState}
use Rattle.sap_meaning.specs.Program as program
use Rattle.sap_tree.specs.Syntax.{SimpleCommand, assign, write, go_to, fall_to_child, CommandBlock, StateTree, state_node, StateList, no_state, and_state, DesignTree}
use Rattle.sap_lattice.specs.Levels.{Levels}
use Rattle.sap_names.specs.declared.entity.Entity as declared_entity
use Rattle.sap_names.specs.Entities.{number_of, entities_of}
use Rattle.sap_resolved.specs.Worlds.{states_in, states_below, group_entities, world_of}
use Rattle.sap_shape.specs.Sites.{Surroundings, block_sites, state_sites}
use Rattle.sap_resolved.specs.Resolve.{step_of, block_of, state_of, group_of}
use Rattle.sap_resolved.specs.Terms.{known, entity_number}
use Rattle.sap_resolved.specs.Fill.{table, filled_step, filled_hang, filled, filled_block, filled_state, filled_group, program_of}
use Rattle.sap_resolved.proofs.Lookup.{entities_length}
use Rattle.sap_resolved.proofs.premises.Filling.{among_filled, group_assigns_filled, hangs_filled}
use Rattle.sap_resolved.proofs.premises.Places.{part_within, group_count}
use Rattle.sap_resolved.proofs.premises.Worlds.{laid}

listed_is : (n : ℕ) (test : ℕ → Bool) → ((x : ℕ) → test x ≡ true → x < n) → (x : ℕ) → listed (table n test) x ≡ test x
listed_is n test below x = elim (cases_Bool (nat_lt x n)) [
  | inl t ↦ (let k : x < n = grind (arith) in table_at n test x k)
  | inr t ↦
      let k : n ≤ x = grind (arith) in
      let l = table_length n test in
      let i : length (table n test) ≤ x = omega arith in
      get_or_past (table n test) x false i ∙ sym (false_from_ne_true (test x) (λ j. let m = below x j in omega arith))
]

-- a number that stands for a name is below that of the root, where there are entities at all
one_more : (l : ℕ) (o : Option ℕ) (n : ℕ) → ((m : ℕ) → o ≡ Some m → m < l) → option_map (λ m. m + 1) o ≡ Some n → n < suc l
one_more l None n f k = cc
one_more l (Some m) n f k = let r : m < l = f m refl in let s : m + 1 ≡ n = cc in omega arith

number_within : (es : List declared_entity.Entity) (name : List ℕ) (n : ℕ) → number_of es name ≡ Some n → n < length es
number_within [] name n h = cc
number_within (e ∷ es) name n h = elim (cases_Bool (bytes_eq e.name.name name)) [
  | inl t ↦ (let i : Some 0 ≡ Some n = rw t at h in let j : 0 ≡ n = cc in omega arith)
  | inr t ↦ one_more (length es) (number_of es name) n (λ m i. number_within es name m i) (rw t at h)
]

known_within : (l : ℕ) (o : Option ℕ) → 0 < l → ((n : ℕ) → o ≡ Some n → n < l) → known o < l
known_within l None h f = h
known_within l (Some n) h f = f n refl

entity_within : (es : List declared_entity.Entity) (name : List ℕ) → 0 < length es → entity_number es name < length es
entity_within es name h = known_within (length es) (number_of es name) h (number_within es name)

module _ (r x : ℕ) where
  -- only a number below r passes the test
  abbrev Low : Bool → Type 0
  Low test = test ≡ true → x < r

  low_or : (a b : Bool) → Low a → Low b → Low (a || b)
  low_or a b f g h = elim (or_cases a b h) [ inl i ↦ f i | inr i ↦ g i ]

  low_false : Low false
  low_false h = cc

  low_equal : (y : ℕ) → y < r → Low (nat_eq x y)
  low_equal y l h = let e = eqb-true x y h in omega arith

  module _ (ls : Levels) (h : Surroundings) (bound : (name : List ℕ) → entity_number h.entities name < r) where
    step_assigned : (n : ℕ) (c : SimpleCommand) → Low (step_assigns (step_of ls h n c) x)
    step_assigned n (assign target e) = low_equal (entity_number h.entities target.name) (bound target.name)
    step_assigned n (write target index e) = low_equal (entity_number h.entities target.name) (bound target.name)
    step_assigned n _ = low_false

    block_assigned : (k : ℕ) (b : CommandBlock) → Low (block_assigns (block_of ls h k b) x)
    block_assigned k b =
        some_in_block_gives (λ c. Low (step_assigns c x)) (λ e. Unit {0}) (λ c. step_assigns c x) (x < r) (λ c low i. low i) (block_of ls h k b)
        (steps_of_block ls h (λ c. Low (step_assigns c x)) step_assigned k b)

    module _ (s : ℕ) (own : s < r) (g : Group) (kids : Low (among g x)) (below : Low (group_assigns g x)) where
      step_hung : (n : ℕ) (c : SimpleCommand) → Low (step_hangs s g (step_of ls h n c) x)
      step_hung n (assign target e) = low_equal (entity_number h.entities target.name) (bound target.name)
      step_hung n (write target index e) = low_equal (entity_number h.entities target.name) (bound target.name)
      step_hung n (go_to place target) = low_equal s own
      step_hung n (fall_to_child place) = low_or (among g x) (group_assigns g x) kids below
      step_hung n _ = low_false

  module _ (ls : Levels) (es : List declared_entity.Entity) where
    mutual
      state_assigned : (k n : ℕ) (t : StateTree) → ((name : List ℕ) → entity_number es name < r) → Low (state_assigns (state_of ls es k n t) x)
      state_assigned k n (state_node place name kind body children) bound =
          let h : Surroundings = record { entities = es; home = record { name = name.name; kind = kind; children = children } } in
          low_or _ _ (block_assigned ls h bound k body) (group_assigned (k + length (block_sites h body)) (n + 1) children bound)

      group_assigned : (k n : ℕ) (g : StateList) → ((name : List ℕ) → entity_number es name < r) → Low (group_assigns (group_of ls es k n g) x)
      group_assigned k n no_state bound = low_false
      group_assigned k n (and_state t rest) bound =
          low_or _ _ (state_assigned k n t bound) (group_assigned (k + length (state_sites es t)) (n + states_in t) rest bound)

    group_low : (k n : ℕ) (g : StateList) → n + states_below g ≤ r → Low (among (group_of ls es k n g) x)
    group_low k n no_state h = low_false
    group_low k n (and_state (state_node place name kind body children) rest) h =
        let t : StateTree = state_node place name kind body children in
        let own : n < r = omega arith in
        let later : (n + states_in t) + states_below rest ≤ r = omega arith in
        low_or _ _ (low_equal n own)
        (group_low (k + length (state_sites es t)) (n + states_in t) rest later)

module _ (ls : Levels) (w : World) where
  module _ (h : Surroundings) (bound : (name : List ℕ) → entity_number h.entities name < root w) (s p : ℕ) (own : s < root w) (g : Group)
      (kids : (x : ℕ) → Low (root w) x (among g x)) (below : (x : ℕ) → Low (root w) x (group_assigns g x)) where
    abbrev Before : Home
    Before = record { state = s; parent = p; children = g }

    abbrev After : Home
    After = record { state = s; parent = p; children = filled_group w s g }

    -- only entities hang on a step
    abbrev Hung : Step → Type 0
    Hung k = (y : ℕ) → Low (root w) y (step_hangs s g k y)

    abbrev AllHung : program.Command → Type 0
    AllHung c = Every (Asks Hung (λ e. Unit {0})) c

    exact_list : (c : program.Command) → AllHung c → (x : ℕ) → listed (table (root w) (touches w Before c)) x ≡ touches w After (filled w Before c) x
    exact_list c all x =
        listed_is (root w) (touches w Before c)
        (λ y j. some_gives Hung (λ e. Unit {0}) (λ k. step_hangs s g k y) (y < root w) (λ k low i. low y i) c all (and_right (is_dynamic w y) (hangs s g c y) j)) x
        ∙ ap (λ (b : Bool). is_dynamic w x && b)
        (sym (hangs_filled w Before s g (filled_group w s g) (λ y. among_filled w s g y) (λ y. group_assigns_filled w s g y) c x))

    exact_step : (k : Step) → Hung k → ExactStep w After (filled_step w Before k)
    exact_step (program.fall_to_child site hang) all = exact_list (program.lone (program.fall_to_child site hang)) all
    exact_step _ all = tt

    exact_command : (c : program.Command) → AllHung c → ExactCommand w After (filled w Before c)
    exact_command (program.lone k) all = exact_step k all
    exact_command (program.try k hang b) all = exact_list (program.try k hang b) all
    exact_command (program.if_else hang e a b) all = exact_list (program.if_else hang e a b) all
    exact_command (program.try_then k hang a b) all = exact_list (program.try_then k hang a b) all
    exact_command (program.case_of hang e arms) all = exact_list (program.case_of hang e arms) all

    exact_block : (k : ℕ) (b : CommandBlock) → EveryInBlock (ExactCommand w After) (filled_block w Before (block_of ls h k b))
    exact_block k b =
        let all = steps_of_block ls h Hung (λ n c y. step_hung (root w) y ls h bound s own g (kids y) (below y) n c) k b in
        every_mapped_block (filled_step w Before) (filled_hang w Before) (λ c. ExactCommand w After (filled w Before c)) (ExactCommand w After) (λ c e. e)
        (block_of ls h k b)
        (every_with_in_block (Asks Hung (λ e. Unit {0})) (Asks Hung (λ e. Unit {0})) (λ c. ExactCommand w After (filled w Before c)) (λ c all own. exact_command c all)
        (block_of ls h k b) all all)

  module _ (es : List declared_entity.Entity) (same : root w ≡ length es) where
    bounded : 0 < root w → (name : List ℕ) → entity_number es name < root w
    bounded h name = let k : 0 < length es = omega arith in let l = entity_within es name k in omega arith

    mutual
      exact_state : (k n p : ℕ) (t : StateTree) → n + states_in t ≤ root w → ExactState w p (filled_state w p (state_of ls es k n t))
      exact_state k n p (state_node place name kind body children) within =
          let h : Surroundings = record { entities = es; home = record { name = name.name; kind = kind; children = children } } in
          let k' : ℕ = k + length (block_sites h body) in
          let g : Group = group_of ls es k' (n + 1) children in
          let own : n < root w = omega arith in
          let some : 0 < root w = omega arith in
          let later : (n + 1) + states_below children ≤ root w = omega arith in (
            exact_block h (bounded some) n p own g (λ x. group_low (root w) x ls es k' (n + 1) children later)
                (λ x. group_assigned (root w) x ls es k' (n + 1) children (bounded some)) k body,
            exact_group k' (n + 1) n children later,
          )

      exact_group : (k n p : ℕ) (g : StateList) → n + states_below g ≤ root w → ExactGroup w p (filled_group w p (group_of ls es k n g))
      exact_group k n p no_state within = tt
      exact_group k n p (and_state t rest) within =
          let first : n + states_in t ≤ root w = omega arith in
          let later : (n + states_in t) + states_below rest ≤ root w = omega arith in
          (exact_state k n p t first, exact_group (k + length (state_sites es t)) (n + states_in t) p rest later)

    -- what hangs on the root's fall
    root_low : (k n : ℕ) (g : StateList) → n + states_below g ≤ root w → (x : ℕ) → root_touches w (group_of ls es k n g) x ≡ true → x < root w
    root_low k n no_state within x h = let i = and_right (is_dynamic w x) false h in cc
    root_low k n (and_state (state_node place name kind body children) rest) within x h =
        let t : StateList = and_state (state_node place name kind body children) rest in
        let some : 0 < root w = omega arith in
        low_or (root w) x (among (group_of ls es k n t) x) (group_assigns (group_of ls es k n t) x) (group_low (root w) x ls es k n t within)
        (group_assigned (root w) x ls es k n t (bounded some))
        (and_right (is_dynamic w x) (among (group_of ls es k n t) x || group_assigns (group_of ls es k n t) x) h)

    exact_root : (k n p : ℕ) (g : StateList) → n + states_below g ≤ root w → (x : ℕ)
        → listed (table (root w) (root_touches w (group_of ls es k n g))) x ≡ root_touches w (filled_group w p (group_of ls es k n g)) x
    exact_root k n p g within x =
        listed_is (root w) (root_touches w (group_of ls es k n g)) (root_low k n g within) x
        ∙ ap (λ (b : Bool). is_dynamic w x && b) (sym (or_equal _ _ _ _
        (among_filled w p (group_of ls es k n g) x) (group_assigns_filled w p (group_of ls es k n g) x)))

states_within : (ls : Levels) (d : DesignTree) → length d.declarations + states_below d.states ≤ root (world_of ls d)
states_within ls d =
    let h = part_within (world_of ls d).entities (length d.declarations) (group_entities ls 0 (length d.declarations) d.states) (laid ls d).entities in
    let k : length (group_entities ls 0 (length d.declarations) d.states) ≡ states_below d.states = group_count ls 0 (length d.declarations) d.states in
    omega arith

pub exact : (ls : Levels) (d : DesignTree) → ExactProgram (program_of ls d)
exact ls d =
    let w : World = world_of ls d in
    record {
      lists = exact_group ls w (entities_of d) (entities_length ls d) 1 (length d.declarations) (root w) d.states (states_within ls d);
      hang = exact_root ls w (entities_of d) (entities_length ls d) 1 (length d.declarations) (root w) d.states (states_within ls d);
    }
