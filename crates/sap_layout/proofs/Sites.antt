-- Check sites, places aside: where one is, and how many there are.
use Rattle.std.proofs.Common.{◌≡◌, ◌+◌, List, [], ◌∷◌, ◌++◌, map, length, length-append, Bool, true, false, if◌then◌else◌, refl, ap₂}
use Rattle.sap_tree.specs.Syntax.{SimpleCommand, assign, write, go_to, fall_to_child, Command, lone, try, if_else, try_then, case_of, CommandBlock, StateTree, state_node, StateList, no_state, and_state}
use Rattle.sap_tree.specs.Walks.{with_simple}
use Rattle.sap_tree.specs.Bare.{bare_kind, bare_simple, bare_command, bare_block, bare_state, bare_states}
use Rattle.sap_tree.specs.Touches.{home_of}
use Rattle.sap_tree.specs.declared.syntax.Kind.{Kind}
use Rattle.sap_names.specs.declared.entity.Entity.{Entity}
use Rattle.sap_shape.specs.Sites.{Surroundings, CheckSite, any_enforced, is_site, simple_sites, command_sites, block_sites, state_sites, states_sites}
use Rattle.sap_layout.proofs.Entities.{aside_entity, is_dynamic_aside, enforced_at}
use Rattle.sap_layout.proofs.Walked.{AreAlike, command_folded, block_folded}

pub any_aside : (states : StateList) → any_enforced (bare_states states) ≡ any_enforced states
unfolding bare_states
any_aside no_state = refl
any_aside (and_state (state_node place name kind body children) rest) = rw (is_dynamic_aside kind, any_aside rest)

pub site_aside : (es : List Entity) (here : Kind) (children : StateList) (c : SimpleCommand)
    → is_site (map aside_entity es) (bare_kind here) (bare_states children) (bare_simple c) ≡ is_site es here children c
unfolding bare_simple
site_aside es here children (assign target e) = enforced_at es target.name
site_aside es here children (write target index e) = enforced_at es target.name
site_aside es here children (go_to place target) = rw (is_dynamic_aside here, enforced_at es target.name)
site_aside es here children (fall_to_child place) = any_aside children
site_aside es here children _ = refl

-- where a command of a bare design stands
abbrev pub aside : Surroundings → Surroundings
aside h = record {
  entities = map aside_entity h.entities;
  home = record { name = h.home.name; kind = bare_kind h.home.kind; children = bare_states h.home.children };
}

abbrev AreAsMany : List CheckSite → List CheckSite → Type 0
AreAsMany a b = length a ≡ length b

both : (a b c d : List CheckSite) → AreAsMany a b → AreAsMany c d → AreAsMany (a ++ c) (b ++ d)
both a b c d first second = rw (length-append a c, length-append b d) (ap₂ ◌+◌ first second)

module _ (h : Surroundings) where
  pub simple_count : (c : SimpleCommand) → length (simple_sites (aside h) (bare_simple c)) ≡ length (simple_sites h c)
  simple_count c = rw (site_aside h.entities h.home.kind h.home.children c) (alone _ _ _) where
    alone : (is : Bool) (s t : CheckSite) → length (if is then s ∷ [] else []) ≡ length (if is then t ∷ [] else [])
    alone true s t = refl
    alone false s t = refl

  own_count : (c : Command) (a b : List CheckSite) → AreAsMany a b
      → AreAsMany (with_simple [] ◌++◌ (simple_sites (aside h)) (bare_command c) a) (with_simple [] ◌++◌ (simple_sites h) c b)
  unfolding bare_command
  own_count (lone c) a b same = simple_count c
  own_count (try c place handler) a b same = both _ _ _ _ (simple_count c) same
  own_count (if_else place e one other) a b same = same
  own_count (try_then c place one other) a b same = both _ _ _ _ (simple_count c) same
  own_count (case_of place e arms) a b same = same

  counts : AreAlike [] ◌++◌ (with_simple [] ◌++◌ (simple_sites (aside h))) (with_simple [] ◌++◌ (simple_sites h)) AreAsMany
  counts = record { ends = refl; joins = both; owns = own_count }

  pub command_count : (c : Command) → length (command_sites (aside h) (bare_command c)) ≡ length (command_sites h c)
  command_count c = command_folded _ _ _ _ _ counts c

  pub block_count : (b : CommandBlock) → length (block_sites (aside h) (bare_block b)) ≡ length (block_sites h b)
  block_count b = block_folded _ _ _ _ _ counts b

module _ (es : List Entity) where
  mutual
    unfolding bare_state

    pub state_count : (s : StateTree) → length (state_sites (map aside_entity es) (bare_state s)) ≡ length (state_sites es s)
    state_count (state_node place name kind body children) =
        let h : Surroundings = record { entities = es; home = home_of (state_node place name kind body children) } in
        both _ _ _ _ (block_count h body) (states_count children)

    states_count : (states : StateList) → length (states_sites (map aside_entity es) (bare_states states)) ≡ length (states_sites es states)
    states_count no_state = refl
    states_count (and_state s rest) = both _ _ _ _ (state_count s) (states_count rest)
