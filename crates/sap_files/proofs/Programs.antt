-- Two lattices that are the same give a design the same program.
use Rattle.sap_lemmas.proofs.Common.{◌≡◌, ℕ, ◌+◌, List, [], ◌∷◌, length, refl, ◌∙◌, ap, Option, Some, None, unwrap_or}
use Rattle.sap_lattice.specs.Prelude.{Levels, level_named, order_of, Order}
use Rattle.sap_latfile.specs.OneLattice.{AreSame}
use Rattle.sap_tree.specs.Syntax.{TagExpression, level_of, tag_at, level_at, join_of, TagExpressions, no_tag, and_tag, SimpleCommand, assign, write, set_tag, set_cell_tag, CommandBlock, command_block, ElseBlock, no_else, with_else, CommandList, no_command, and_command, StateTree, state_node, StateList, no_state, and_state, DesignTree}
use Rattle.sap_tree.specs.declared.name.Mention.{Mention}
use Rattle.sap_tree.specs.declared.syntax.Under.{Under}
use Rattle.sap_tree.specs.declared.syntax.Kind.{Kind}
use Rattle.sap_tree.specs.declared.syntax.Kind.TheVariants.{Dynamic, Enforced}
use Rattle.sap_tree.specs.declared.syntax.Decl.{Decl}
use Rattle.sap_tree.specs.declared.syntax.Decl.TheVariants.{Input, Register, Memory}
use Rattle.sap_tree.specs.Syntax as tree
use Rattle.sap_names.specs.Entities.{entities_of}
use Rattle.sap_names.specs.declared.entity.Entity.{Entity as Named}
use Rattle.sap_meaning.specs.Prelude.{World, Group, Program, root, root_touches}
use Rattle.sap_resolved.specs.Worlds.{level_number, declared_level, authority_level, authority_of, declared, all_declared, states_in, state_entities, group_entities, world_of}
use Rattle.sap_resolved.specs.Terms.{level_term, level_terms}
use Rattle.sap_shape.specs.Sites.{Surroundings, simple_sites, command_sites, block_sites, state_sites}
use Rattle.sap_resolved.specs.Resolve.{site_number, step_of, command_of, block_of, else_of, arms_of, list_of, state_of, group_of, states_of}
use Rattle.sap_resolved.specs.Fill.{filled_group, table, program_of}

module _ (l m : Levels) (same : AreSame l m) where
  bottom_in : (order_of l).bottom ≡ (order_of m).bottom
  bottom_in = ap (λ (o : Order). o.bottom) same.order

  number_in : (level : Mention) → level_number l level ≡ level_number m level
  number_in level = ap (λ (names : List (List ℕ)). unwrap_or (level_named names level.name) (length names)) same.names

  -- entities

  level_in : (kind : Kind) → declared_level l kind ≡ declared_level m kind
  level_in (Dynamic place) = bottom_in
  level_in (Enforced level under) = number_in level

  under_in : (under : Option Under) → authority_level l under ≡ authority_level m under
  under_in None = bottom_in
  under_in (Some under) = number_in under.level

  authority_in : (kind : Kind) → authority_of l kind ≡ authority_of m kind
  authority_in (Dynamic place) = bottom_in
  authority_in (Enforced level under) = under_in under

  declared_in : (d : Decl) → declared l d ≡ declared m d
  declared_in (Input place name width) = rw bottom_in refl
  declared_in (Register place name width kind start) = rw (level_in kind, authority_in kind) refl
  declared_in (Memory place name width depth kind) = rw (level_in kind, authority_in kind) refl

  all_in : (ds : List Decl) → all_declared l ds ≡ all_declared m ds
  all_in [] = refl
  all_in (d ∷ ds) = rw (declared_in d, all_in ds) refl

  mutual
    state_in : (n x : ℕ) (s : StateTree) → state_entities l n x s ≡ state_entities m n x s
    state_in n x (state_node place name kind body children) = rw (level_in kind, authority_in kind, group_in 0 (x + 1) children) refl

    group_in : (n x : ℕ) (g : StateList) → group_entities l n x g ≡ group_entities m n x g
    group_in n x no_state = refl
    group_in n x (and_state s rest) = rw (state_in n x s, group_in (n + 1) (x + states_in s) rest) refl

  world_in : (d : DesignTree) → world_of l d ≡ world_of m d
  world_in d = rw (same.order, all_in d.declarations, group_in 0 (length d.declarations) d.states) refl

  -- commands

  mutual
    term_in : (es : List Named) (e : TagExpression) → level_term l es e ≡ level_term m es e
    term_in es (level_of level) = rw (number_in level) refl
    term_in es (tag_at place e) = refl
    term_in es (level_at place e) = refl
    term_in es (join_of place parts) = terms_in es parts

    terms_in : (es : List Named) (parts : TagExpressions) → level_terms l es parts ≡ level_terms m es parts
    terms_in es no_tag = rw bottom_in refl
    terms_in es (and_tag t no_tag) = term_in es t
    terms_in es (and_tag t (and_tag u parts)) = rw (term_in es t, terms_in es (and_tag u parts)) refl

  step_in : (h : Surroundings) (n : ℕ) (c : SimpleCommand) → step_of l h n c ≡ step_of m h n c
  step_in h n (assign target e) = refl
  step_in h n (write target index e) = refl
  step_in h n (set_tag place target tag) = rw (term_in h.entities tag) refl
  step_in h n (set_cell_tag place target index tag) = rw (term_in h.entities tag) refl
  step_in h n (tree.go_to place target) = refl
  step_in h n (tree.fall_to_child place) = refl

  mutual
    command_in : (h : Surroundings) (k : ℕ) (c : tree.Command) → command_of l h k c ≡ command_of m h k c
    command_in h k (tree.lone c) = rw (step_in h (site_number h k c) c) refl
    command_in h k (tree.try c place handler) = rw (step_in h (site_number h k c) c, block_in h (k + length (simple_sites h c)) handler) refl
    command_in h k (tree.if_else place condition then_block else_block) =
        rw (block_in h k then_block, else_in h (k + length (block_sites h then_block)) else_block) refl
    command_in h k (tree.try_then c then accepted refused) =
        rw (
          step_in h (site_number h k c) c,
          block_in h (k + length (simple_sites h c)) accepted,
          block_in h (k + length (simple_sites h c) + length (block_sites h accepted)) refused,
        ) refl
    command_in h k (tree.case_of place e arms) = rw (arms_in h k arms) refl

    block_in : (h : Surroundings) (k : ℕ) (b : CommandBlock) → block_of l h k b ≡ block_of m h k b
    block_in h k (command_block cs after) = list_in h k cs

    else_in : (h : Surroundings) (k : ℕ) (b : ElseBlock) → else_of l h k b ≡ else_of m h k b
    else_in h k no_else = refl
    else_in h k (with_else b) = block_in h k b

    arms_in : (h : Surroundings) (k : ℕ) (arms : tree.Arms) → arms_of l h k arms ≡ arms_of m h k arms
    arms_in h k (tree.last_arm b) = rw (block_in h k b) refl
    arms_in h k (tree.and_arm constants b arms) = rw (block_in h k b, arms_in h (k + length (block_sites h b)) arms) refl

    list_in : (h : Surroundings) (k : ℕ) (cs : CommandList) → list_of l h k cs ≡ list_of m h k cs
    list_in h k no_command = refl
    list_in h k (and_command c cs) = rw (command_in h k c, list_in h (k + length (command_sites h c)) cs) refl

  mutual
    node_in : (es : List Named) (k x : ℕ) (s : StateTree) → state_of l es k x s ≡ state_of m es k x s
    node_in es k x (state_node place name kind body children) =
        let h : Surroundings = record { entities = es; home = record { name = name.name; kind = kind; children = children } } in
        rw (block_in h k body, nodes_in es (k + length (block_sites h body)) (x + 1) children) refl

    nodes_in : (es : List Named) (k x : ℕ) (g : StateList) → group_of l es k x g ≡ group_of m es k x g
    nodes_in es k x no_state = refl
    nodes_in es k x (and_state s rest) = rw (node_in es k x s, nodes_in es (k + length (state_sites es s)) (x + states_in s) rest) refl

  states_same : (d : DesignTree) → states_of l d ≡ states_of m d
  states_same d = nodes_in (entities_of d) 1 (length d.declarations) d.states

  pub program_in : (d : DesignTree) → program_of l d ≡ program_of m d
  program_in d =
      let P : World → Group → Program = λ w g. record { world = w; states = filled_group w (root w) g; hang = table (root w) (root_touches w g) } in
      ap (λ (w : World). P w (states_of l d)) (world_in d) ∙ ap (P (world_of m d)) (states_same d)
