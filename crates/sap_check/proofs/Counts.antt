-- How many sites and points a design has, by its commands.
use Rattle.sap_lemmas.proofs.Common.{ℕ, ◌+◌, ◌*◌, ◌^◌, ◌<◌, ◌≤◌, List, ◌++◌, Bool, ◌&&◌, length, length-append, map, arith, length-map, common_steps, IsTrue, count_by, nat_le}
use Rattle.sap_tree.specs.Prelude.{SimpleCommand, assign, Command, lone, try, if_else, try_then, case_of, Arms, last_arm, and_arm, CommandBlock, command_block, ElseBlock, no_else, with_else, CommandList, no_command, and_command, StateTree, state_node, StateList, no_state, and_state, DesignTree, Point, point, simple_points, command_points, block_points, else_points, arms_points, list_points, state_points, states_points, home_of, command_count, block_count, else_count, arms_count, list_count, state_commands, states_commands, states_count, states_depth, is_whole, is_tree, is_input, is_register, is_memory}
use Rattle.sap_tree.specs.Points as tree
use Rattle.sap_names.specs.Entities.{entities_of}
use Rattle.sap_shape.specs.Sites.{check_sites}
use Rattle.sap_shape.proofs.SiteCounts.{states_few}
use Rattle.sap_check.specs.Sites.{site_of, sites_of}
use Rattle.sap_check.specs.Points.{word_of, points_of}

both_points : {A : Type 0} (a b : List A) (m n : ℕ) → length a ≤ 2 * m → length b ≤ 2 * n → length (a ++ b) ≤ 2 * (m + n)
both_points a b m n h k = rw length-append (omega arith)

simple_points-few : (k : SimpleCommand) → length (simple_points k) ≤ 1
simple_points-few (assign target e) = omega arith
simple_points-few _ = omega arith

mutual
  unfolding command_count block_count else_count arms_count list_count

  command_points-few : (c : Command) → length (command_points c) ≤ 2 * command_count c
  command_points-few (lone k) = let r = simple_points-few k in omega arith
  command_points-few (try k place handler) = let r = simple_points-few k in let b = block_points-few handler in rw length-append (omega arith)
  command_points-few (if_else place e one other) =
      let r = both_points (block_points one) (else_points other) (block_count one) (else_count other) (block_points-few one) (else_points-few other) in omega arith
  command_points-few (try_then k place accepted refused) =
      let r = simple_points-few k in
      let b = both_points (block_points accepted) (block_points refused) (block_count accepted) (block_count refused)
      (block_points-few accepted) (block_points-few refused) in rw length-append (omega arith)
  command_points-few (case_of place e arms) = let r = arms_points-few arms in omega arith

  arms_points-few : (arms : Arms) → length (arms_points arms) ≤ 2 * arms_count arms
  arms_points-few (last_arm b) = block_points-few b
  arms_points-few (and_arm constants b arms) = both_points (block_points b) (arms_points arms) (block_count b) (arms_count arms) (block_points-few b) (arms_points-few arms)

  block_points-few : (b : CommandBlock) → length (block_points b) ≤ 2 * block_count b
  block_points-few (command_block cs after) = list_points-few cs

  else_points-few : (b : ElseBlock) → length (else_points b) ≤ 2 * else_count b
  else_points-few no_else = omega arith
  else_points-few (with_else b) = block_points-few b

  list_points-few : (cs : CommandList) → length (list_points cs) ≤ 2 * list_count cs
  list_points-few no_command = omega arith
  list_points-few (and_command c cs) = both_points (command_points c) (list_points cs) (command_count c) (list_count cs) (command_points-few c) (list_points-few cs)

mutual
  unfolding state_commands states_commands

  state_points-few : (s : StateTree) → length (state_points s) ≤ 2 * state_commands s
  state_points-few (state_node place name kind body children) =
      let at = point (home_of (state_node place name kind body children)) in
      let b = block_points-few body in
      both_points (map at (block_points body)) (states_points children) (block_count body) (states_commands children)
      (omega (arith, length-map (block_points body) at)) (states_points-few children)

  states_points-few : (ss : StateList) → length (states_points ss) ≤ 2 * states_commands ss
  states_points-few no_state = omega arith
  states_points-few (and_state s ss) = both_points (state_points s) (states_points ss) (state_commands s) (states_commands ss) (state_points-few s) (states_points-few ss)

limited : (t : Bool) (i r m s d c : ℕ) → IsTrue (t && (nat_le i 64 && nat_le r 256 && nat_le m 16 && nat_le s 256 && nat_le d 16 && nat_le c 4096)) → c ≤ 4096
limited t i r m s d c h = grind (arith, common_steps)

few_commands : (d : DesignTree) → IsTrue (is_whole d) → states_commands d.states ≤ 4096
unfolding is_whole
few_commands d h =
    limited (is_tree d) (count_by is_input d.declarations) (count_by is_register d.declarations) (count_by is_memory d.declarations)
    (states_count d.states) (states_depth d.states) (states_commands d.states) h

pub few_sites : (d : DesignTree) → IsTrue (is_whole d) → length (sites_of d) < 2 ^ 32
few_sites d h = let r = states_few (entities_of d) d.states in let m = few_commands d h in omega (arith, length-map (check_sites d) site_of)

pub few_points : (d : DesignTree) → IsTrue (is_whole d) → length (points_of d) < 2 ^ 32
few_points d h =
    let r = states_points-few d.states in
    let m = few_commands d h in
    omega (arith, length-map (tree.points_of d) (λ (p : Point). word_of p.command))

pub ruleset counts = (few_sites, few_points)
