-- The program of a design is no larger than the design.
use Rattle.sap_lemmas.proofs.Common.{None, ◌≡◌, ℕ, ◌+◌, ◌≤◌, List, ◌++◌, length, Option, Some, refl, ap, arith, inl, inr, length-append, eqb, cases_Bool}
use Rattle.sap_tree.specs.Prelude.{Expression, literal, cell_at, unary_of, binary_of, choice, slice, concat, zero_extend, Expressions, no_part, and_part, TagExpression, level_of, tag_at, level_at, join_of, TagExpressions, no_tag, and_tag, SimpleCommand, assign, set_tag, set_cell_tag, CommandBlock, command_block, ElseBlock, no_else, with_else, CommandList, no_command, and_command, StateTree, state_node, StateList, no_state, and_state, state_count, states_count}
use Rattle.sap_tree.specs.declared.syntax.Kind.{Kind}
use Rattle.sap_tree.specs.Syntax as tree
use Rattle.sap_names.specs.Prelude.{what_is, own, width_of, family, asked_left, asked_right, asked_one, register_width, cell_width, index_width}
use Rattle.sap_names.specs.declared.entity.Entity.{Entity}
use Rattle.sap_maps.specs.Term.{Term}
use Rattle.sap_lattice.specs.Levels.{Levels}
use Rattle.sap_shape.specs.Sites.{Surroundings, simple_sites, command_sites, arms_sites, block_sites, else_sites, list_sites, state_sites, states_sites}
use Rattle.sap_shape.proofs.SiteCounts.{simple_few}
use Rattle.sap_meaning.specs.Prelude.{World, Step, assign, Command, lone, try, if_else, try_then, case_of, Arms, last_arm, and_arm, State, state_node, Group, Home}
use Rattle.sap_meaning.proofs.WalksLemmas.{folded_mapped_block}
use Rattle.sap_resolved.specs.Worlds.{states_in, state_entities, group_entities}
use Rattle.sap_resolved.specs.Worlds as worlds
use Rattle.sap_resolved.specs.Terms.{known, widened, term_of, parts_of, level_term, level_terms}
use Rattle.sap_resolved.specs.Resolve.{site_number, step_of, numbers_of, command_of, arms_of, block_of, else_of, list_of, state_of, group_of}
use Rattle.sap_resolved.specs.Fill.{filled_step, filled_hang, filled, filled_arms, filled_state, filled_group}
use Rattle.sap_resolved.proofs.FillLemmas.{gathered_filled_group}
use Rattle.sap_size.specs.Terms.{term_size}
use Rattle.sap_size.specs.Programs.{level_size, step_size, constant_count, own_size, command_size, arms_size, block_size, body_size, state_size, group_size, states_of, states_below}
use Rattle.sap_size.specs.Trees.{expression_nodes, part_nodes, tag_nodes, tag_part_nodes, operand_nodes, command_nodes, constant_nodes, arms_nodes, block_nodes, else_nodes, list_nodes, state_nodes, states_nodes}

-- expressions

widened_size : (from width : ℕ) (t : Term ℕ) → term_size (widened from width t) ≤ 1 + term_size t
widened_size from width t = elim (cases_Bool (eqb from width)) [ inl h ↦ rw h (omega arith) | inr f ↦ rw f (omega arith) ]

mutual
  term_within : (es : List Entity) (e : Expression) (asked : Option ℕ) → term_size (term_of es e asked) ≤ expression_nodes e
  term_within es (cell_at spot name index) asked = let r = term_within es index (index_width (what_is es name)) in omega (arith, r)
  term_within es (unary_of spot o e) asked =
      let r = term_within es e (asked_one o (width_of (what_is es) (unary_of spot o e) asked)) in omega (arith, r)
  term_within es (binary_of spot o a b) asked =
      let whole = width_of (what_is es) (binary_of spot o a b) asked in
      let r = term_within es a (asked_left (family o) whole (own (what_is es) a) (own (what_is es) b)) in
      let s = term_within es b (asked_right (family o) whole (own (what_is es) a) (own (what_is es) b)) in
      omega (arith, r, s)
  term_within es (choice spot c a b) asked =
      let whole = width_of (what_is es) (choice spot c a b) asked in
      let q = term_within es c (Some 1) in
      let r = term_within es a whole in
      let s = term_within es b whole in
      omega (arith, q, r, s)
  term_within es (slice spot e high low) asked = let r = term_within es e None in omega (arith, r)
  term_within es (concat spot parts) asked = parts_within es parts
  term_within es (zero_extend spot e width) asked =
      let r = term_within es e None in
      let s = widened_size (known (own (what_is es) e)) width (term_of es e None) in
      omega (arith, r, s)
  term_within es _ asked = omega arith

  parts_within : (es : List Entity) (parts : Expressions) → term_size (parts_of es parts) ≤ 1 + part_nodes parts
  parts_within es no_part = omega arith
  parts_within es (and_part e no_part) = let r = term_within es e None in omega (arith, r)
  parts_within es (and_part e (and_part f parts)) =
      let r = term_within es e None in
      let s = parts_within es (and_part f parts) in
      omega (arith, r, s)

mutual
  level_within : (ls : Levels) (es : List Entity) (t : TagExpression) → level_size (level_term ls es t) ≤ tag_nodes t
  level_within ls es (level_of m) = omega arith
  level_within ls es (tag_at place e) = let r = term_within es e None in omega (arith, r)
  level_within ls es (level_at place e) = let r = term_within es e None in omega (arith, r)
  level_within ls es (join_of place parts) = levels_within ls es parts

  levels_within : (ls : Levels) (es : List Entity) (parts : TagExpressions) → level_size (level_terms ls es parts) ≤ 1 + tag_part_nodes parts
  levels_within ls es no_tag = omega arith
  levels_within ls es (and_tag t no_tag) = let r = level_within ls es t in omega (arith, r)
  levels_within ls es (and_tag t (and_tag u parts)) =
      let r = level_within ls es t in
      let s = levels_within ls es (and_tag u parts) in
      omega (arith, r, s)

-- commands

step_within : (ls : Levels) (h : Surroundings) (n : ℕ) (c : SimpleCommand) → step_size (step_of ls h n c) ≤ operand_nodes c
step_within ls h n (assign target e) = term_within h.entities e (register_width (what_is h.entities target.name))
step_within ls h n (tree.write target index e) =
    let r = term_within h.entities index (index_width (what_is h.entities target.name)) in
    let s = term_within h.entities e (cell_width (what_is h.entities target.name)) in
    omega (arith, r, s)
step_within ls h n (set_tag place target tag) = level_within ls h.entities tag
step_within ls h n (set_cell_tag place target index tag) =
    let r = term_within h.entities index (index_width (what_is h.entities target.name)) in
    let s = level_within ls h.entities tag in
    omega (arith, r, s)
step_within ls h n _ = omega arith

some_node : (e : Expression) → 1 ≤ expression_nodes e
some_node (literal spot n) = omega arith
some_node _ = omega arith

constants_within : (constants : Expressions) → length (numbers_of constants) ≤ part_nodes constants
constants_within no_part = omega arith
constants_within (and_part e constants) =
    let q = some_node e in
    let r = constants_within constants in
    omega (arith, q, r)

mutual
  command_within : (ls : Levels) (h : Surroundings) (k : ℕ) (c : tree.Command) → command_size (command_of ls h k c) ≤ command_nodes c
  command_within ls h k (tree.lone c) = let r = step_within ls h (site_number h k c) c in omega (arith, r)
  command_within ls h k (tree.try c place handler) =
      let r = step_within ls h (site_number h k c) c in
      let s = block_within ls h (k + length (simple_sites h c)) handler in
      omega (arith, r, s)
  command_within ls h k (tree.if_else place e one other) =
      let q = term_within h.entities e (Some 1) in
      let r = block_within ls h k one in
      let s = else_within ls h (k + length (block_sites h one)) other in
      omega (arith, q, r, s)
  command_within ls h k (tree.try_then c place one other) =
      let q = step_within ls h (site_number h k c) c in
      let r = block_within ls h (k + length (simple_sites h c)) one in
      let s = block_within ls h (k + length (simple_sites h c) + length (block_sites h one)) other in
      omega (arith, q, r, s)
  command_within ls h k (tree.case_of place e arms) =
      let q = term_within h.entities e None in
      let r = arms_within ls h k arms in
      omega (arith, q, r)

  arms_within : (ls : Levels) (h : Surroundings) (k : ℕ) (arms : tree.Arms)
      → constant_count (arms_of ls h k arms) + arms_size (arms_of ls h k arms) ≤ constant_nodes arms + arms_nodes arms
  arms_within ls h k (tree.last_arm b) = let r = block_within ls h k b in omega (arith, r)
  arms_within ls h k (tree.and_arm constants b arms) =
      let q = constants_within constants in
      let r = block_within ls h k b in
      let s = arms_within ls h (k + length (block_sites h b)) arms in
      omega (arith, q, r, s)

  block_within : (ls : Levels) (h : Surroundings) (k : ℕ) (b : CommandBlock) → block_size (block_of ls h k b) ≤ block_nodes b
  block_within ls h k (command_block cs after) = list_within ls h k cs

  else_within : (ls : Levels) (h : Surroundings) (k : ℕ) (b : ElseBlock) → block_size (else_of ls h k b) ≤ else_nodes b
  else_within ls h k no_else = omega arith
  else_within ls h k (with_else b) = block_within ls h k b

  list_within : (ls : Levels) (h : Surroundings) (k : ℕ) (cs : CommandList) → block_size (list_of ls h k cs) ≤ list_nodes cs
  list_within ls h k no_command = omega arith
  list_within ls h k (and_command c cs) =
      let r = command_within ls h k c in
      let s = list_within ls h (k + length (command_sites h c)) cs in
      omega (arith, r, s)

-- states

abbrev surroundings : List Entity → List ℕ → Kind → StateList → Surroundings
surroundings es name kind children = record { entities = es; home = record { name = name; kind = kind; children = children } }

mutual
  state_within : (ls : Levels) (es : List Entity) (k x : ℕ) (s : StateTree) → state_size (state_of ls es k x s) ≤ state_nodes s
  state_within ls es k x (state_node place name kind body children) =
      let h = surroundings es name.name kind children in
      let r = block_within ls h k body in
      let s = group_within ls es (k + length (block_sites h body)) (x + 1) children in
      omega (arith, r, s)

  pub group_within : (ls : Levels) (es : List Entity) (k x : ℕ) (g : StateList) → group_size (group_of ls es k x g) ≤ states_nodes g
  group_within ls es k x no_state = omega arith
  group_within ls es k x (and_state s rest) =
      let r = state_within ls es k x s in
      let q = group_within ls es (k + length (state_sites es s)) (x + states_in s) rest in
      omega (arith, r, q)

-- how many there are

mutual
  state_counted : (ls : Levels) (es : List Entity) (k x : ℕ) (s : StateTree) → states_of (state_of ls es k x s) ≡ states_in s
  state_counted ls es k x (state_node place name kind body children) =
      let h = surroundings es name.name kind children in
      ap (λ (n : ℕ). 1 + n) (group_counted ls es (k + length (block_sites h body)) (x + 1) children)

  pub group_counted : (ls : Levels) (es : List Entity) (k x : ℕ) (g : StateList) → states_below (group_of ls es k x g) ≡ worlds.states_below g
  group_counted ls es k x no_state = refl
  group_counted ls es k x (and_state s rest) =
      let r = state_counted ls es k x s in
      let q = group_counted ls es (k + length (state_sites es s)) (x + states_in s) rest in
      omega (arith, r, q)

mutual
  state_entered : (ls : Levels) (n x : ℕ) (s : StateTree) → length (state_entities ls n x s) ≡ states_in s
  state_entered ls n x (state_node place name kind body children) = let r = group_entered ls 0 (x + 1) children in omega (arith, r)

  pub group_entered : (ls : Levels) (n x : ℕ) (g : StateList) → length (group_entities ls n x g) ≡ worlds.states_below g
  group_entered ls n x no_state = refl
  group_entered ls n x (and_state s rest) =
      let r = state_entered ls n x s in
      let q = group_entered ls (n + 1) (x + states_in s) rest in
      let l = length-append (state_entities ls n x s) (group_entities ls (n + 1) (x + states_in s) rest) in
      omega (arith, r, q, l)

mutual
  unfolding state_count states_count

  state_same : (s : StateTree) → states_in s ≡ state_count s
  state_same (state_node place name kind body children) = ap (λ (n : ℕ). 1 + n) (states_same children)

  pub states_same : (g : StateList) → worlds.states_below g ≡ states_count g
  states_same no_state = refl
  states_same (and_state s rest) = let r = state_same s in let q = states_same rest in omega (arith, r, q)

-- check sites are commands

mutual
  command_sited : (h : Surroundings) (c : tree.Command) → length (command_sites h c) ≤ command_nodes c
  command_sited h (tree.lone c) = let r = simple_few h c in omega (arith, r)
  command_sited h (tree.try c place handler) =
      let r = simple_few h c in let s = block_sited h handler in omega (arith, r, s, length-append (simple_sites h c) (block_sites h handler))
  command_sited h (tree.if_else place e one other) =
      let r = block_sited h one in let s = else_sited h other in omega (arith, r, s, length-append (block_sites h one) (else_sites h other))
  command_sited h (tree.try_then c place one other) =
      let q = simple_few h c in
      let r = block_sited h one in
      let s = block_sited h other in
      omega (arith, q, r, s, length-append (simple_sites h c) (block_sites h one ++ block_sites h other), length-append (block_sites h one) (block_sites h other))
  command_sited h (tree.case_of place e arms) = let r = arms_sited h arms in omega (arith, r)

  arms_sited : (h : Surroundings) (arms : tree.Arms) → length (arms_sites h arms) ≤ arms_nodes arms
  arms_sited h (tree.last_arm b) = block_sited h b
  arms_sited h (tree.and_arm constants b arms) =
      let r = block_sited h b in let s = arms_sited h arms in omega (arith, r, s, length-append (block_sites h b) (arms_sites h arms))

  block_sited : (h : Surroundings) (b : CommandBlock) → length (block_sites h b) ≤ block_nodes b
  block_sited h (command_block cs after) = list_sited h cs

  else_sited : (h : Surroundings) (b : ElseBlock) → length (else_sites h b) ≤ else_nodes b
  else_sited h no_else = omega arith
  else_sited h (with_else b) = block_sited h b

  list_sited : (h : Surroundings) (cs : CommandList) → length (list_sites h cs) ≤ list_nodes cs
  list_sited h no_command = omega arith
  list_sited h (and_command c cs) =
      let r = command_sited h c in let s = list_sited h cs in omega (arith, r, s, length-append (command_sites h c) (list_sites h cs))

mutual
  state_sited : (es : List Entity) (s : StateTree) → length (state_sites es s) ≤ state_nodes s
  state_sited es (state_node place name kind body children) =
      let h = surroundings es name.name kind children in
      let r = block_sited h body in
      let s = group_sited es children in
      omega (arith, r, s, length-append (block_sites h body) (states_sites es children))

  pub group_sited : (es : List Entity) (g : StateList) → length (states_sites es g) ≤ states_nodes g
  group_sited es no_state = omega arith
  group_sited es (and_state s rest) =
      let r = state_sited es s in let q = group_sited es rest in omega (arith, r, q, length-append (state_sites es s) (states_sites es rest))

-- What hangs where adds nothing.

step_filled : (w : World) (at : Home) (s : Step) → step_size (filled_step w at s) ≡ step_size s
step_filled w at (assign site x e) = refl
step_filled w at _ = refl

constants_filled : (w : World) (at : Home) (arms : Arms) → constant_count (filled_arms w at arms) ≡ constant_count arms
constants_filled w at (last_arm b) = refl
constants_filled w at (and_arm constants b arms) = ap (λ (n : ℕ). length constants + n) (constants_filled w at arms)

own_filled : (w : World) (at : Home) (c : Command) (n : ℕ) → own_size (filled w at c) n ≡ own_size c n
own_filled w at (lone s) n = ap (λ (m : ℕ). 1 + m) (step_filled w at s)
own_filled w at (try s hang h) n = ap (λ (m : ℕ). 1 + m + n) (step_filled w at s)
own_filled w at (if_else hang e a b) n = refl
own_filled w at (try_then s hang a b) n = ap (λ (m : ℕ). 1 + m + n) (step_filled w at s)
own_filled w at (case_of hang e arms) n = ap (λ (m : ℕ). 1 + term_size e + m + n) (constants_filled w at arms)

body_filled : (w : World) (p : ℕ) (t : State) → body_size (filled_state w p t) ≡ body_size t
body_filled w p (state_node s b g) =
    let at : Home = record { state = s; parent = p; children = g } in
    ap (λ (n : ℕ). 1 + n) (folded_mapped_block (filled_step w at) (filled_hang w at) 0 ◌+◌ own_size own_size (own_filled w at) b)

pub group_filled : (w : World) (p : ℕ) (g : Group) → group_size (filled_group w p g) ≡ group_size g
group_filled w p g = gathered_filled_group w 0 ◌+◌ body_size body_size (body_filled w) p g

pub group_kept : (w : World) (p : ℕ) (g : Group) → states_below (filled_group w p g) ≡ states_below g
group_kept w p g = gathered_filled_group w 0 ◌+◌ (λ t. 1) (λ t. 1) (λ q t. refl) p g
