-- The faults of shape but E14, places aside.
use Rattle.std.proofs.Common.{◌≡◌, ℕ, List, [], ◌∷◌, ◌++◌, map, not, ◌||◌, refl}
use Rattle.sap_tree.specs.Syntax.{SimpleCommand, assign, write, set_tag, set_cell_tag, go_to, fall_to_child, Command, lone, try, if_else, try_then, case_of, StateTree, state_node, StateList, no_state, and_state, DesignTree}
use Rattle.sap_tree.specs.Bare.{bare_kind, bare_simple, bare_command, bare_state, bare_states, bare}
use Rattle.sap_names.specs.declared.entity.Entity.{Entity}
use Rattle.sap_names.specs.declared.fault.Fault.{Fault}
use Rattle.sap_names.specs.declared.kind.Code.TheVariants.{E11, E12, E15, E16, E17}
use Rattle.sap_names.specs.Entities.{entities_of}
use Rattle.sap_shape.specs.Closing.{is_transfer}
use Rattle.sap_shape.specs.Sites.{is_dynamic, is_site}
use Rattle.sap_shape.specs.ShapeFaults.{Body, is_among, is_within, is_in_group, is_leaf, is_comparable, simple_shape, own_shape, state_shape, states_shape}
use Rattle.sap_layout.proofs.Asides.{Aside, none, one, both}
use Rattle.sap_layout.proofs.Entities.{aside_entity, entities_aside, dynamic_at}
use Rattle.sap_layout.proofs.Sites.{site_aside}
use Rattle.sap_layout.proofs.Walked.{AreAlike, block_folded}
use Rattle.sap_layout.proofs.Closing.{closing_aside}

among_aside : (g : StateList) (name : List ℕ) → is_among (bare_states g) name ≡ is_among g name
unfolding bare_states bare_state
among_aside no_state name = refl
among_aside (and_state (state_node place own kind body children) rest) name = rw (among_aside rest name)

mutual
  unfolding bare_state bare_states

  within_aside : (s : StateTree) (name : List ℕ) → is_within (bare_state s) name ≡ is_within s name
  within_aside (state_node place own kind body children) name = rw (group_aside children name)

  group_aside : (g : StateList) (name : List ℕ) → is_in_group (bare_states g) name ≡ is_in_group g name
  group_aside no_state name = refl
  group_aside (and_state s rest) name = rw (within_aside s name, group_aside rest name)

leaf_aside : (g : StateList) → is_leaf (bare_states g) ≡ is_leaf g
unfolding bare_states
leaf_aside no_state = refl
leaf_aside (and_state s rest) = refl

transfer_aside : (k : SimpleCommand) → is_transfer (bare_simple k) ≡ is_transfer k
unfolding bare_simple
transfer_aside (go_to place target) = refl
transfer_aside (fall_to_child place) = refl
transfer_aside _ = refl

-- where a body stands, places aside
abbrev bare_body : Body → Body
bare_body at = record {
  home = record { name = at.home.name; kind = bare_kind at.home.kind; children = bare_states at.home.children };
  group = bare_states at.group;
  above = at.above;
}

module _ (es : List Entity) (at : Body) where
  simple_aside : (k : SimpleCommand) → Aside (simple_shape (map aside_entity es) (bare_body at) (bare_simple k)) (simple_shape es at k)
  unfolding bare_simple
  simple_aside (assign target e) = none
  simple_aside (write target index e) = none
  simple_aside (set_tag place target tag) = rw (dynamic_at es target.name, group_aside at.home.children target.name)
      (both (one (is_dynamic es target.name) E16 target.place) (one (is_comparable at target.name) E17 target.place))
  simple_aside (set_cell_tag place target index tag) = rw (dynamic_at es target.name) (one (is_dynamic es target.name) E16 target.place)
  simple_aside (go_to place target) = rw (among_aside at.group target.name) (one (not (is_among at.group target.name)) E11 target.place)
  simple_aside (fall_to_child place) = rw (leaf_aside at.home.children) (one (is_leaf at.home.children) E12 place)

  own_aside : (c : Command) (a b : List Fault) → Aside a b → Aside (own_shape (map aside_entity es) (bare_body at) (bare_command c) a) (own_shape es at c b)
  unfolding bare_command
  own_aside (lone k) a b h = simple_aside k
  own_aside (try k place handler) a b h = rw (site_aside es at.home.kind at.home.children k)
      (both (both (simple_aside k) (one (not (is_site es at.home.kind at.home.children k)) E15 place)) h)
  own_aside (if_else place e one other) a b h = h
  own_aside (try_then k place accepted refused) a b h = rw (transfer_aside k, site_aside es at.home.kind at.home.children k)
      (both (both (simple_aside k) (one (not (is_transfer k || is_site es at.home.kind at.home.children k)) E15 place)) h)
  own_aside (case_of place e arms) a b h = h

  body_aside : AreAlike [] ◌++◌ (own_shape (map aside_entity es) (bare_body at)) (own_shape es at) Aside
  body_aside = record { ends = none; joins = λ a b c d. both; owns = own_aside }

module _ (es : List Entity) where
  mutual
    unfolding bare_state bare_states

    state_aside : (group : StateList) (above : List (List ℕ)) (s : StateTree)
        → Aside (state_shape (map aside_entity es) (bare_states group) above (bare_state s)) (state_shape es group above s)
    state_aside group above (state_node place name kind body children) =
        both (both (closing_aside body) (block_folded _ _ _ _ _ (body_aside es _) body)) (states_aside children (name.name ∷ above) children)

    states_aside : (group : StateList) (above : List (List ℕ)) (states : StateList)
        → Aside (states_shape (map aside_entity es) (bare_states group) above (bare_states states)) (states_shape es group above states)
    states_aside group above no_state = none
    states_aside group above (and_state s rest) = both (state_aside group above s) (states_aside group above rest)

pub shape_aside : (d : DesignTree) → Aside (states_shape (entities_of (bare d)) (bare d).states [] (bare d).states) (states_shape (entities_of d) d.states [] d.states)
unfolding bare
shape_aside d = rw (entities_aside d) (states_aside (entities_of d) d.states [] d.states)
