-- How many sites, points and entities a design has.
use Rattle.sap_lemmas.proofs.Common.{◌≡◌, ℕ, ◌+◌, ◌*◌, ◌^◌, ◌<◌, ◌≤◌, List, [], ◌∷◌, Bool, ◌&&◌, length, arith, ap, refl, common_steps, IsTrue, count_by, nat_le}
use Rattle.sap_tree.proofs.DeclLemmas.{count_more}
use Rattle.sap_tree.specs.Prelude.{SimpleCommand, assign, write, set_tag, set_cell_tag, go_to, fall_to_child, Command, lone, try, if_else, try_then, case_of, Arms, last_arm, and_arm, CommandBlock, command_block, ElseBlock, no_else, with_else, CommandList, no_command, and_command, StateTree, state_node, StateList, no_state, and_state, DesignTree, command_count, block_count, arms_count, else_count, list_count, state_commands, states_commands, state_count, states_count, states_depth, is_whole, is_tree, is_input, is_register, is_memory, tree_of}
use Rattle.sap_tree.specs.declared.syntax.Decl.{Decl}
use Rattle.sap_tree.specs.declared.syntax.State.{State}
use Rattle.sap_tree.specs.declared.version.Version.{Version}
use Rattle.sap_tree.specs.declared.syntax.Decl.TheVariants as d
use Rattle.sap_lattice.specs.Levels.{Levels}
use Rattle.sap_names.specs.declared.entity.Entity.{Entity}
use Rattle.sap_shape.proofs.SiteCounts.{states_few}
use Rattle.sap_resolved.specs.Resolve as resolve
use Rattle.sap_shape.specs.Sites as sites
use Rattle.sap_shape.specs.Sites.{Surroundings}
use Rattle.sap_resolved.specs.Worlds as worlds
use Rattle.sap_resolve.specs.Lists as lists
use Rattle.sap_resolve.specs.Rows.{step_points, command_points, arms_points, block_points, state_points, group_points}

step_points-few : (ls : Levels) (h : Surroundings) (n : ℕ) (k : SimpleCommand) → step_points (resolve.step_of ls h n k) ≤ 1
step_points-few ls h n (assign target e) = omega arith
step_points-few ls h n (write target index e) = omega arith
step_points-few ls h n (set_tag place target tag) = omega arith
step_points-few ls h n (set_cell_tag place target index tag) = omega arith
step_points-few ls h n (go_to place target) = omega arith
step_points-few ls h n (fall_to_child place) = omega arith

module _ (ls : Levels) (h : Surroundings) where
  mutual
    unfolding command_count block_count arms_count else_count list_count

    command_points-few : (k : ℕ) (c : Command) → command_points (resolve.command_of ls h k c) ≤ 2 * command_count c
    command_points-few k (lone c) = let a = step_points-few ls h (resolve.site_number h k c) c in omega arith
    command_points-few k (try c place handler) =
        let a = step_points-few ls h (resolve.site_number h k c) c in let b = block_points-few (k + length (sites.simple_sites h c)) handler in omega arith
    command_points-few k (if_else place e one other) = let a = block_points-few k one in let b = else_points-few (k + length (sites.block_sites h one)) other in omega arith
    command_points-few k (try_then c place accepted refused) =
        let a = step_points-few ls h (resolve.site_number h k c) c in
        let b = block_points-few (k + length (sites.simple_sites h c)) accepted in
        let d = block_points-few (k + length (sites.simple_sites h c) + length (sites.block_sites h accepted)) refused in omega arith
    command_points-few k (case_of place e arms) = let a = arms_points-few k arms in omega arith

    arms_points-few : (k : ℕ) (arms : Arms) → arms_points (resolve.arms_of ls h k arms) ≤ 2 * arms_count arms
    arms_points-few k (last_arm b) = block_points-few k b
    arms_points-few k (and_arm constants b arms) =
        let a = block_points-few k b in let c = arms_points-few (k + length (sites.block_sites h b)) arms in omega arith

    block_points-few : (k : ℕ) (b : CommandBlock) → block_points (resolve.block_of ls h k b) ≤ 2 * block_count b
    block_points-few k (command_block cs after) = list_points-few k cs

    else_points-few : (k : ℕ) (b : ElseBlock) → block_points (resolve.else_of ls h k b) ≤ 2 * else_count b
    else_points-few k no_else = omega arith
    else_points-few k (with_else b) = block_points-few k b

    list_points-few : (k : ℕ) (cs : CommandList) → block_points (resolve.list_of ls h k cs) ≤ 2 * list_count cs
    list_points-few k no_command = omega arith
    list_points-few k (and_command c cs) = let a = command_points-few k c in let b = list_points-few (k + length (sites.command_sites h c)) cs in omega arith

module _ (ls : Levels) (es : List Entity) where
  mutual
    unfolding state_commands states_commands

    state_points-few : (k x : ℕ) (s : StateTree) → state_points (resolve.state_of ls es k x s) ≤ 2 * state_commands s
    state_points-few k x (state_node place name kind body children) =
        let h : Surroundings = record { entities = es; home = record { name = name.name; kind = kind; children = children } } in
        let a = block_points-few ls h k body in let b = group_points-few (k + length (sites.block_sites h body)) (x + 1) children in omega arith

    group_points-few : (k x : ℕ) (ss : StateList) → group_points (resolve.group_of ls es k x ss) ≤ 2 * states_commands ss
    group_points-few k x no_state = omega arith
    group_points-few k x (and_state s ss) =
        let a = state_points-few k x s in let b = group_points-few (k + length (sites.state_sites es s)) (x + worlds.states_in s) ss in omega arith

mutual
  unfolding state_count states_count

  states_in-few : (s : StateTree) → worlds.states_in s ≤ state_count s
  states_in-few (state_node place name kind body children) = let a = states_below-few children in omega arith

  states_below-few : (ss : StateList) → worlds.states_below ss ≤ states_count ss
  states_below-few no_state = omega arith
  states_below-few (and_state s ss) = let a = states_in-few s in let b = states_below-few ss in omega arith

declarations-few : (ds : List Decl) → length ds ≤ count_by is_input ds + count_by is_register ds + count_by is_memory ds
declarations-few [] = omega arith
declarations-few (d.Input place name width ∷ ds) =
    let x = d.Input place name width in
    let a = declarations-few ds in omega (arith, a, count_more is_input x ds 1 refl, count_more is_register x ds 0 refl, count_more is_memory x ds 0 refl)
declarations-few (d.Register place name width kind start ∷ ds) =
    let x = d.Register place name width kind start in
    let a = declarations-few ds in omega (arith, a, count_more is_input x ds 0 refl, count_more is_register x ds 1 refl, count_more is_memory x ds 0 refl)
declarations-few (d.Memory place name width depth kind ∷ ds) =
    let x = d.Memory place name width depth kind in
    let a = declarations-few ds in omega (arith, a, count_more is_input x ds 0 refl, count_more is_register x ds 0 refl, count_more is_memory x ds 1 refl)

limited : (t : Bool) (i r m s d c : ℕ) → IsTrue (t && (nat_le i 64 && nat_le r 256 && nat_le m 16 && nat_le s 256 && nat_le d 16 && nat_le c 4096))
    → (i + r + m ≤ 336) × ((s ≤ 256) × (c ≤ 4096))
limited t i r m s d c h = (grind (arith, common_steps), (grind (arith, common_steps), grind (arith, common_steps)))

module _ (t : DesignTree) (whole : IsTrue (is_whole t)) where
  limits : (count_by is_input t.declarations + count_by is_register t.declarations + count_by is_memory t.declarations ≤ 336)
      × ((states_count t.states ≤ 256) × (states_commands t.states ≤ 4096))
  unfolding is_whole
  limits =
      limited (is_tree t) (count_by is_input t.declarations) (count_by is_register t.declarations) (count_by is_memory t.declarations)
      (states_count t.states) (states_depth t.states) (states_commands t.states) whole

  pub few_sites : (ls : Levels) (es : List Entity) → 1 + length (sites.states_sites es t.states) < 2 ^ 32
  few_sites ls es = let a = states_few es t.states in let b = limits in omega arith

  pub few_points : (ls : Levels) (es : List Entity) (k x : ℕ) → 1 + group_points (resolve.group_of ls es k x t.states) < 2 ^ 32
  few_points ls es k x = let a = group_points-few ls es k x t.states in let b = limits in omega arith

  pub few_entities : length t.declarations + worlds.states_below t.states < 2 ^ 32
  few_entities = let a = declarations-few t.declarations in let b = states_below-few t.states in let c = limits in omega arith

-- as the code sees them

pub sites_fit : (v : Version) (ls : Levels) (ds : List Decl) (ss : List State) (es : List Entity) (seen : List State)
    → IsTrue (is_whole (tree_of v ds ss)) → seen ≡ ss → 1 + lists.group_site_count es seen < 2 ^ 32
unfolding lists.group_site_count
sites_fit v ls ds ss es seen whole b = (let a = few_sites (tree_of v ds ss) whole ls es in let e = ap (λ (l : List State). lists.group_site_count es l) b in omega (arith, a, e))

pub points_fit : (v : Version) (ls : Levels) (ds : List Decl) (ss : List State) (es : List Entity) (k x : ℕ) (seen : List State) → IsTrue (is_whole (tree_of v ds ss)) → seen ≡ ss
    → 1 + group_points (lists.group_from ls es k x seen) < 2 ^ 32
unfolding lists.group_from
points_fit v ls ds ss es k x seen whole b =
    (let a = few_points (tree_of v ds ss) whole ls es k x in let e = ap (λ (l : List State). group_points (lists.group_from ls es k x l)) b in omega (arith, a, e))

pub states_fit : (v : Version) (ds : List Decl) (ss : List State) (x : ℕ) (seen : List State) → IsTrue (is_whole (tree_of v ds ss))
    → seen ≡ ss → x ≡ length ds → x + lists.states_below seen < 2 ^ 32
unfolding lists.states_below
states_fit v ds ss x seen whole b d = (let a = few_entities (tree_of v ds ss) whole in let e = ap (λ (l : List State). lists.states_below l) b in omega (arith, a, e, d))
