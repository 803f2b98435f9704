-- E14, as the walk finds it, places aside.
use Rattle.std.proofs.Common.{◌≡◌, List, [], Bool, true, false, ◌||◌, refl, ap₂, if◌then◌else◌}
use Rattle.sap_tree.specs.Syntax.{SimpleCommand, write, set_cell_tag, fall_to_child, Command, lone, try, if_else, try_then, case_of, Arms, last_arm, and_arm, CommandBlock, command_block, ElseBlock, no_else, with_else, CommandList, no_command, and_command, StateTree, state_node, StateList, no_state, and_state, DesignTree}
use Rattle.sap_tree.specs.Bare.{bare_simple, bare_command, bare_block, bare_else, bare_arms, bare_list, bare_state, bare_states, bare}
use Rattle.sap_tree.specs.Walks.{with_simple}
use Rattle.sap_names.specs.declared.fault.Fault.{Fault}
use Rattle.sap_names.specs.declared.kind.Code.TheVariants.{E14}
use Rattle.sap_shape.specs.Walk.{Written, fresh, either, Found, Part, nothing, behind, branch, simple, found, found_in_block, found_in_else, found_in_arms, found_in_list, is_fall, falls_block, second_state, second_states}
use Rattle.sap_layout.proofs.Asides.{Aside, none, one, both}
use Rattle.sap_layout.proofs.Walked.{AreAlike, block_folded}

-- what is found is the same, the faults' places aside
record Same (bare full : Found) : Type 0 where
  past : bare.past ≡ full.past
  entering : bare.entering ≡ full.entering
  again : Aside bare.again full.again

abbrev SamePart : Part → Part → Type 0
SamePart f g = (p : Written) → Same (f p) (g p)

nothing_same : SamePart nothing nothing
nothing_same p = record { past = refl; entering = refl; again = none }

behind_same : (f g h i : Part) → SamePart f g → SamePart h i → SamePart (behind f h) (behind g i)
behind_same f g h i first rest p = rw (first p).past (record {
  past = (rest (g p).past).past;
  entering = ap₂ either (first p).entering (rest (g p).past).entering;
  again = both (first p).again (rest (g p).past).again;
})

branch_same : (f g h i : Part) → SamePart f g → SamePart h i → SamePart (branch f h) (branch g i)
branch_same f g h i one other p = record {
  past = ap₂ either (one p).past (other p).past;
  entering = ap₂ either (one p).entering (other p).entering;
  again = both (one p).again (other p).again;
}

simple_same : (k : SimpleCommand) → SamePart (simple (bare_simple k)) (simple k)
unfolding bare_simple
simple_same (write target index e) p = record { past = refl; entering = refl; again = one (p target.name) E14 target.place }
simple_same (set_cell_tag place target index tag) p = record { past = refl; entering = refl; again = one (p target.name) E14 place }
simple_same _ p = record { past = refl; entering = refl; again = none }

mutual
  unfolding bare_command bare_block bare_else bare_arms bare_list

  found_same : (c : Command) → SamePart (found (bare_command c)) (found c)
  found_same (lone k) = simple_same k
  found_same (try k place handler) = behind_same _ _ _ _ (simple_same k) (branch_same _ _ _ _ nothing_same (block_same handler))
  found_same (if_else place e one other) = branch_same _ _ _ _ (block_same one) (else_same other)
  found_same (try_then k place one other) = behind_same _ _ _ _ (simple_same k) (branch_same _ _ _ _ (block_same one) (block_same other))
  found_same (case_of place e arms) = arms_same arms

  block_same : (b : CommandBlock) → SamePart (found_in_block (bare_block b)) (found_in_block b)
  block_same (command_block list after) = list_same list

  else_same : (other : ElseBlock) → SamePart (found_in_else (bare_else other)) (found_in_else other)
  else_same no_else = nothing_same
  else_same (with_else b) = block_same b

  arms_same : (arms : Arms) → SamePart (found_in_arms (bare_arms arms)) (found_in_arms arms)
  arms_same (last_arm b) = block_same b
  arms_same (and_arm constants b arms) = branch_same _ _ _ _ (block_same b) (arms_same arms)

  list_same : (list : CommandList) → SamePart (found_in_list (bare_list list)) (found_in_list list)
  list_same no_command = nothing_same
  list_same (and_command c list) = behind_same _ _ _ _ (found_same c) (list_same list)

-- a `fall` stands in the one where it stands in the other
falls_aside : AreAlike false ◌||◌ (with_simple false ◌||◌ is_fall) (with_simple false ◌||◌ is_fall) ◌≡◌
unfolding bare_command bare_simple
falls_aside = record { ends = refl; joins = λ a b c d h i. ap₂ ◌||◌ h i; owns = owned }
  where
    fall_same : (k : SimpleCommand) → is_fall (bare_simple k) ≡ is_fall k
    fall_same (fall_to_child place) = refl
    fall_same _ = refl

    owned : (c : Command) (a b : Bool) → a ≡ b → with_simple false ◌||◌ is_fall (bare_command c) a ≡ with_simple false ◌||◌ is_fall c b
    owned (lone k) a b h = fall_same k
    owned (try k place handler) a b h = ap₂ ◌||◌ (fall_same k) h
    owned (try_then k place one other) a b h = ap₂ ◌||◌ (fall_same k) h
    owned _ a b h = h

falls_same : (b : CommandBlock) → falls_block (bare_block b) ≡ falls_block b
falls_same b = block_folded _ _ _ _ _ falls_aside b

if_aside : (test : Bool) (a b : List Fault) → Aside a b → Aside (if test then a else []) (if test then b else [])
if_aside true a b h = h
if_aside false a b h = none

mutual
  unfolding bare_state bare_states

  state_aside : (s : StateTree) (p : Written) → Aside (second_state (bare_state s) p) (second_state s p)
  state_aside (state_node place name kind body children) p =
      rw (falls_same body, (block_same body p).entering)
      (both (block_same body p).again (if_aside (falls_block body) _ _ (states_aside children (found_in_block body p).entering)))

  states_aside : (states : StateList) (p : Written) → Aside (second_states (bare_states states) p) (second_states states p)
  states_aside no_state p = none
  states_aside (and_state s rest) p = both (state_aside s p) (states_aside rest p)

pub again_aside : (d : DesignTree) → Aside (second_states (bare d).states fresh) (second_states d.states fresh)
unfolding bare
again_aside d = states_aside d.states fresh
