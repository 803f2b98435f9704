-- The check sites of a resolved program are those of its design: each is the step that the command gives, with its number, in the state of its body.
use Rattle.sap_lemmas.proofs.Common.{◌≡◌, ℕ, suc, ◌+◌, ◌<◌, Option, Bool, true, false, not, List, [], ◌∷◌, ◌++◌, length, refl, sym, ap, ◌∙◌, arith, if◌then◌else◌, or_equal}
use Rattle.sap_names.proofs.FaultLemmas.{nil_left, nil_right}
use Rattle.sap_tree.specs.Syntax.{SimpleCommand, assign, write, go_to, fall_to_child, Command, lone, try, if_else, try_then, case_of, Arms, last_arm, and_arm, CommandBlock, command_block, ElseBlock, no_else, with_else, CommandList, no_command, and_command, StateTree, state_node, StateList, no_state, and_state}
use Rattle.sap_lattice.specs.Levels.{Levels}
use Rattle.sap_names.specs.Entities as tree
use Rattle.sap_names.specs.declared.entity.Entity as declared_entity
use Rattle.sap_names.specs.Prelude.{what_is, own as own_width, simple_faults, command_faults, block_faults, arms_faults, else_faults, commands_faults, state_faults, states_faults}
use Rattle.sap_names.specs.declared.kind.Use.TheVariants.{Assigned as assigned, Indexed as indexed, Entered as entered}
use Rattle.sap_shape.specs.Sites.{is_enforced, any_enforced, Surroundings, CheckSite, simple_sites}
use Rattle.sap_shape.specs.Sites as shape
use Rattle.sap_meaning.specs.Prelude.{World, is_dynamic, state_node, Group, site_of, some_enforced, is_site, PlacedStep, step_sites, block_sites, state_sites, group_sites, site_numbers, numbers_from}
use Rattle.sap_meaning.specs.Sites.{command_sites, arms_sites}
use Rattle.sap_resolved.specs.Worlds.{states_in, is_dynamic_kind}
use Rattle.sap_resolved.specs.Resolve.{site_number, step_of, command_of, arms_of, block_of, else_of, list_of, state_of, group_of}
use Rattle.sap_resolved.specs.Terms.{entity_number}
use Rattle.sap_resolved.proofs.Lookup.{AllMatch}
use Rattle.sap_resolved.proofs.premises.Places.{Laid, LaidState, laid_first, laid_rest, laid_below, laid_name, laid_named, name_at}
use Rattle.sap_resolved.proofs.premises.Lookups.{enforced_same}
use Rattle.sap_resolved.proofs.premises.Numbers.{here_dynamic}

-- what the check sites of a design are in its program, the first with the number k
abbrev pub placed : Levels → (k : ℕ) → List CheckSite → List PlacedStep
placed ls k [] = []
placed ls k (s ∷ ss) =
    record { state = entity_number s.surroundings.entities s.surroundings.home.name; step = step_of ls s.surroundings k s.command }
    ∷ placed ls (suc k) ss

module _ (ls : Levels) where
  placed_join : (k : ℕ) (a b : List CheckSite) → placed ls k a ++ placed ls (k + length a) b ≡ placed ls k (a ++ b)
  placed_join k [] b = let e : k + 0 ≡ k = omega arith in ap (λ (n : ℕ). placed ls n b) e
  placed_join k (s ∷ a) b =
      let e : k + suc (length a) ≡ suc k + length a = omega arith in
      let t : PlacedStep = record { state = entity_number s.surroundings.entities s.surroundings.home.name; step = step_of ls s.surroundings k s.command } in
      ap (λ (n : ℕ). placed ls k (s ∷ a) ++ placed ls n b) e ∙ ap (λ (ts : List PlacedStep). t ∷ ts) (placed_join (suc k) a b)

  -- one part behind another
  joined : (xs ys : List PlacedStep) (a b : List CheckSite) (k : ℕ) → xs ≡ placed ls k a → ys ≡ placed ls (k + length a) b → xs ++ ys ≡ placed ls k (a ++ b)
  joined xs ys a b k e f =
      ap (λ (u : List PlacedStep). u ++ ys) e ∙ ap (λ (u : List PlacedStep). placed ls k a ++ u) f ∙ placed_join k a b

  site_is : (h : Surroundings) (n : ℕ) (c : SimpleCommand) → site_of (step_of ls h n c) ≡ n
  site_is h n (assign target e) = refl
  site_is h n _ = refl

  pub placed_numbers : (k : ℕ) (ss : List CheckSite) → site_numbers (placed ls k ss) ≡ numbers_from k (length ss)
  placed_numbers k [] = refl
  placed_numbers k (s ∷ ss) =
      ap (λ (n : ℕ). n ∷ site_numbers (placed ls (suc k) ss)) (site_is s.surroundings k s.command)
      ∙ ap (λ (ns : List ℕ). k ∷ ns) (placed_numbers (suc k) ss)

module _ (ls : Levels) (es : List declared_entity.Entity) (w : World) where
  -- a child is enforced
  some_same : (k n x : ℕ) (g : StateList) → Laid ls es w n x g → some_enforced w (group_of ls es k x g) ≡ any_enforced g
  some_same k n x no_state laid = refl
  some_same k n x (and_state (state_node place name kind body children) rest) laid =
      let s : StateTree = state_node place name kind body children in
      let later : Group = group_of ls es (k + length (shape.state_sites es s)) (x + states_in s) rest in
      let mine : LaidState ls es w n x s = laid_first ls es w n x s rest laid in
      or_equal (not (is_dynamic w x)) (some_enforced w later) (not (is_dynamic_kind kind)) (any_enforced rest)
      (ap (λ (b : Bool). not b) (here_dynamic ls es w n x place name kind body children mine))
      (some_same (k + length (shape.state_sites es s)) (suc n) (x + states_in s) rest (laid_rest ls es w n x s rest laid))

module _ (ls : Levels) (levels : List (List ℕ)) (h : Surroundings) (w : World) (match : AllMatch h.entities w.entities)
    (x : ℕ) (g : Group) (own : not (is_dynamic w x) ≡ not (is_dynamic_kind h.home.kind)) (kids : some_enforced w g ≡ any_enforced h.home.children)
    (mine : x ≡ entity_number h.entities h.home.name) where
  abbrev What : tree.Lookup
  What = what_is h.entities

  -- a command is a check site where its step is
  site_same : (n : ℕ) (c : SimpleCommand) → simple_faults levels What c ≡ [] → is_site w x g (step_of ls h n c) ≡ shape.is_site h.entities h.home.kind h.home.children c
  site_same n (assign target e) f = enforced_same h.entities w match assigned target (nil_left _ _ f)
  site_same n (write target index e) f = enforced_same h.entities w match indexed target (nil_left _ _ (nil_left _ _ f))
  site_same n (go_to place target) f =
      or_equal (not (is_dynamic w x)) (not (is_dynamic w (entity_number h.entities target.name))) (not (is_dynamic_kind h.home.kind))
      (is_enforced h.entities target.name) own (enforced_same h.entities w match entered target f)
  site_same n (fall_to_child place) f = kids
  site_same n _ f = refl

  one_placed : (k : ℕ) (yes : Bool) (c : SimpleCommand)
      → (if yes then (let t : PlacedStep = record { state = x; step = step_of ls h (if yes then k else 0) c } in t ∷ []) else [])
      ≡ placed ls k (if yes then (let s : CheckSite = record { surroundings = h; command = c } in s ∷ []) else [])
  one_placed k true c = ap (λ (s : ℕ). (let t : PlacedStep = record { state = s; step = step_of ls h k c } in t ∷ [])) mine
  one_placed k false c = refl

  step_placed : (k : ℕ) (c : SimpleCommand) → simple_faults levels What c ≡ []
      → step_sites w x g (step_of ls h (site_number h k c) c) ≡ placed ls k (simple_sites h c)
  step_placed k c f =
      ap (λ (b : Bool). if b then (let t : PlacedStep = record { state = x; step = step_of ls h (site_number h k c) c } in t ∷ []) else [])
      (site_same (site_number h k c) c f)
      ∙ one_placed k (shape.is_site h.entities h.home.kind h.home.children c) c

  mutual
    command_placed : (k : ℕ) (c : Command) → command_faults levels What c ≡ []
        → command_sites w x g (command_of ls h k c) ≡ placed ls k (shape.command_sites h c)
    command_placed k (lone c) f = step_placed k c f
    command_placed k (try c place b) f =
        joined ls _ _ _ _ k
        (step_placed k c (nil_left _ _ f))
        (block_placed (k + length (simple_sites h c)) b (nil_right _ _ f))
    command_placed k (if_else place e b other) f =
        joined ls _ _ _ _ k
        (block_placed k b (nil_right _ _ (nil_left _ _ f)))
        (else_placed (k + length (shape.block_sites h b)) other (nil_right _ _ f))
    command_placed k (try_then c place a b) f =
        let i = k + length (simple_sites h c) in
        let j = i + length (shape.block_sites h a) in
        joined ls _ _ _ _ k
        (step_placed k c (nil_left _ _ (nil_left _ _ f)))
        (joined ls _ _ _ _ i
        (block_placed i a (nil_right _ _ (nil_left _ _ f)))
        (block_placed j b (nil_right _ _ f)))
    command_placed k (case_of place e arms) f = arms_placed (own_width What e) k arms (nil_right _ _ f)

    arms_placed : (asked : Option ℕ) (k : ℕ) (arms : Arms) → arms_faults levels What asked arms ≡ []
        → arms_sites w x g (arms_of ls h k arms) ≡ placed ls k (shape.arms_sites h arms)
    arms_placed asked k (last_arm b) f = block_placed k b f
    arms_placed asked k (and_arm constants b arms) f =
        joined ls _ _ _ _ k
        (block_placed k b (nil_right _ _ (nil_left _ _ f)))
        (arms_placed asked (k + length (shape.block_sites h b)) arms (nil_right _ _ f))

    block_placed : (k : ℕ) (b : CommandBlock) → block_faults levels What b ≡ []
        → block_sites w x g (block_of ls h k b) ≡ placed ls k (shape.block_sites h b)
    block_placed k (command_block cs after) f = list_placed k cs f

    else_placed : (k : ℕ) (b : ElseBlock) → else_faults levels What b ≡ [] → block_sites w x g (else_of ls h k b) ≡ placed ls k (shape.else_sites h b)
    else_placed k no_else f = refl
    else_placed k (with_else b) f = block_placed k b f

    list_placed : (k : ℕ) (cs : CommandList) → commands_faults levels What cs ≡ []
        → block_sites w x g (list_of ls h k cs) ≡ placed ls k (shape.list_sites h cs)
    list_placed k no_command f = refl
    list_placed k (and_command c cs) f =
        joined ls _ _ _ _ k
        (command_placed k c (nil_left _ _ f))
        (list_placed (k + length (shape.command_sites h c)) cs (nil_right _ _ f))

module _ (ls : Levels) (levels : List (List ℕ)) (le : ℕ → ℕ → Bool) (es : List declared_entity.Entity) (w : World) (match : AllMatch es w.entities)
    (unique : (y : ℕ) → y < length es → entity_number es (name_at es y) ≡ y) where
  mutual
    state_placed : (k n x : ℕ) (s : StateTree) → LaidState ls es w n x s → state_faults levels le (what_is es) s ≡ []
        → state_sites w (state_of ls es k x s) ≡ placed ls k (shape.state_sites es s)
    state_placed k n x (state_node place name kind body children) laid f =
        let h : Surroundings = record { entities = es; home = record { name = name.name; kind = kind; children = children } } in
        let k' : ℕ = k + length (shape.block_sites h body) in
        let g : Group = group_of ls es k' (x + 1) children in
        let below : Laid ls es w 0 (x + 1) children = laid_below ls es w n x place name kind body children laid in
        let own : not (is_dynamic w x) ≡ not (is_dynamic_kind kind) =
        ap (λ (b : Bool). not b) (here_dynamic ls es w n x place name kind body children laid) in
        let mine : x ≡ entity_number es name.name =
        sym (unique x (laid_named ls es w n x place name kind body children laid))
        ∙ ap (λ (a : List ℕ). entity_number es a) (laid_name ls es w n x place name kind body children laid) in
        joined ls _ _ _ _ k
        (block_placed ls levels h w match x g own (some_same ls es w k' 0 (x + 1) children below) mine k body
        (nil_right _ _ (nil_left _ _ f)))
        (group_placed k' 0 (x + 1) children below (nil_right _ _ f))

    pub group_placed : (k n x : ℕ) (g : StateList) → Laid ls es w n x g → states_faults levels le (what_is es) g ≡ []
        → group_sites w (group_of ls es k x g) ≡ placed ls k (shape.states_sites es g)
    group_placed k n x no_state laid f = refl
    group_placed k n x (and_state t rest) laid f =
        joined ls _ _ _ _ k
        (state_placed k n x t (laid_first ls es w n x t rest laid) (nil_left _ _ f))
        (group_placed (k + length (shape.state_sites es t)) (suc n) (x + states_in t) rest (laid_rest ls es w n x t rest laid) (nil_right _ _ f))
