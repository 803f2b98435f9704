-- The world and the states of a design, places aside, and so its program.
use Rattle.std.proofs.Common.{◌≡◌, ◌∙◌, ℕ, List, [], ◌∷◌, map, length, Option, Some, None, refl, sym, ap}
use Rattle.std.proofs.lemmas.List.{length-map}
use Rattle.sap_tree.specs.Syntax.{StateTree, state_node, StateList, no_state, and_state, DesignTree}
use Rattle.sap_tree.specs.Bare.{bare_kind, bare_start, bare_declaration, bare_state, bare_states, bare}
use Rattle.sap_tree.specs.declared.syntax.Decl.{Decl}
use Rattle.sap_tree.specs.declared.syntax.Decl.TheVariants.{Input, Register, Memory}
use Rattle.sap_tree.specs.declared.syntax.Kind.{Kind}
use Rattle.sap_tree.specs.declared.syntax.Kind.TheVariants.{Dynamic, Enforced}
use Rattle.sap_tree.specs.declared.syntax.Numeral.{Numeral}
use Rattle.sap_tree.specs.Touches.{home_of}
use Rattle.sap_names.specs.declared.entity.Entity.{Entity}
use Rattle.sap_shape.specs.Sites.{Surroundings}
use Rattle.sap_lattice.specs.Levels.{Levels}
use Rattle.sap_resolved.specs.Worlds.{declared_level, authority_of, initial_of, declared, all_declared, states_in, states_below, group_length, state_entities, group_entities, state_children, group_children, no_children, world_of}
use Rattle.sap_resolved.specs.Resolve.{state_of, group_of, states_of}
use Rattle.sap_resolved.specs.Fill.{program_of}
use Rattle.sap_layout.specs.Layout.{OneProgram}
use Rattle.sap_layout.proofs.Entities.{aside_entity, is_dynamic_aside, entities_aside}
use Rattle.sap_layout.proofs.Sites.{block_count, state_count}
use Rattle.sap_layout.proofs.Commands.{block_aside}

mutual
  unfolding bare_state

  states_in_bare : (s : StateTree) → states_in (bare_state s) ≡ states_in s
  states_in_bare (state_node place name kind body children) = rw (states_below_bare children)

  states_below_bare : (states : StateList) → states_below (bare_states states) ≡ states_below states
  states_below_bare no_state = refl
  states_below_bare (and_state s rest) = rw (states_in_bare s, states_below_bare rest)

group_length_bare : (states : StateList) → group_length (bare_states states) ≡ group_length states
unfolding bare_states
group_length_bare no_state = refl
group_length_bare (and_state s rest) = rw (group_length_bare rest)

mutual
  unfolding bare_state

  state_children_bare : (s : StateTree) → state_children (bare_state s) ≡ state_children s
  state_children_bare (state_node place name kind body children) = rw (group_length_bare children, group_children_bare children)

  group_children_bare : (states : StateList) → group_children (bare_states states) ≡ group_children states
  group_children_bare no_state = refl
  group_children_bare (and_state s rest) = rw (state_children_bare s, group_children_bare rest)

no_children_bare : (ds : List Decl) → no_children (map bare_declaration ds) ≡ no_children ds
no_children_bare [] = refl
no_children_bare (d ∷ ds) = rw (no_children_bare ds)

initial_bare : (start : Option Numeral) → initial_of (bare_start start) ≡ initial_of start
initial_bare None = refl
initial_bare (Some n) = refl

module _ (ls : Levels) where
  levels_bare : (kind : Kind) → (declared_level ls (bare_kind kind) ≡ declared_level ls kind) × (authority_of ls (bare_kind kind) ≡ authority_of ls kind)
  levels_bare (Dynamic place) = (refl, refl)
  levels_bare (Enforced level None) = (refl, refl)
  levels_bare (Enforced level (Some under)) = (refl, refl)

  declared_bare : (d : Decl) → declared ls (bare_declaration d) ≡ declared ls d
  declared_bare (Input place name width) = refl
  declared_bare (Register place name width kind start) = rw (is_dynamic_aside, (levels_bare kind).0, (levels_bare kind).1, initial_bare)
  declared_bare (Memory place name width depth kind) = rw (is_dynamic_aside, (levels_bare kind).0, (levels_bare kind).1)

  all_declared_bare : (ds : List Decl) → all_declared ls (map bare_declaration ds) ≡ all_declared ls ds
  all_declared_bare [] = refl
  all_declared_bare (d ∷ ds) = rw (declared_bare d, all_declared_bare ds)

  mutual
    unfolding bare_state

    state_entities_bare : (n x : ℕ) (s : StateTree) → state_entities ls n x (bare_state s) ≡ state_entities ls n x s
    state_entities_bare n x (state_node place name kind body children) =
        rw (states_below_bare children, is_dynamic_aside, (levels_bare kind).0, (levels_bare kind).1, group_entities_bare 0 _ children)

    group_entities_bare : (n x : ℕ) (states : StateList) → group_entities ls n x (bare_states states) ≡ group_entities ls n x states
    group_entities_bare n x no_state = refl
    group_entities_bare n x (and_state s rest) = rw (state_entities_bare n x s, states_in_bare s, group_entities_bare _ _ rest)

  world_bare : (d : DesignTree) → world_of ls (bare d) ≡ world_of ls d
  unfolding bare
  world_bare d = rw (all_declared_bare, length-map, group_entities_bare, no_children_bare, group_children_bare, group_length_bare)

module _ (ls : Levels) (es : List Entity) where
  mutual
    unfolding bare_state

    state_aside : (k x : ℕ) (s : StateTree) → state_of ls (map aside_entity es) k x (bare_state s) ≡ state_of ls es k x s
    state_aside k x (state_node place name kind body children) =
        let h : Surroundings = record { entities = es; home = home_of (state_node place name kind body children) } in
        rw (block_aside ls h k body, block_count h body, group_aside _ _ children)

    group_aside : (k x : ℕ) (states : StateList) → group_of ls (map aside_entity es) k x (bare_states states) ≡ group_of ls es k x states
    group_aside k x no_state = refl
    group_aside k x (and_state s rest) = rw (state_aside k x s, state_count es s, states_in_bare s, group_aside _ _ rest)

states_bare : (ls : Levels) (d : DesignTree) → states_of ls (bare d) ≡ states_of ls d
unfolding bare
states_bare ls d = rw (entities_aside, length-map, group_aside)

program_bare : (ls : Levels) (d : DesignTree) → program_of ls (bare d) ≡ program_of ls d
program_bare ls d = rw (world_bare ls d, states_bare ls d, ap (λ w. length w.entities) (world_bare ls d))

pub one_program : OneProgram
one_program ls one other same = sym (program_bare ls one) ∙ ap (program_of ls) same ∙ program_bare ls other
