-- The program of a well-formed design has what the rules ask for.
use Rattle.sap_lemmas.proofs.Common.{◌≡◌, ℕ, ◌+◌, ◌*◌, ◌<◌, ◌≤◌, List, length, Bool, ◌&&◌, IsTrue, refl, ap, arith, nat_le, count_by, common_steps}
use Rattle.sap_tree.proofs.SyntaxLemmas.{tree_of_whole}
use Rattle.sap_tree.specs.Syntax as tree
use Rattle.sap_tree.specs.Prelude.{DesignTree, is_tree, is_whole, is_input, is_register, is_memory, command_count, arms_count, block_count, else_count, list_count, state_count, states_count, states_depth, state_commands, states_commands}
use Rattle.sap_lattice.proofs.KeptLemmas.{order_of-count}
use Rattle.sap_lattice.specs.Prelude.{Levels, order_of, width_of}
use Rattle.sap_names.specs.Entities.{entities_of}
use Rattle.sap_names.specs.declared.entity.Entity.{Entity}
use Rattle.sap_meaning.specs.Prelude.{World, root, Command, lone, State, state_node, Group, Home}
use Rattle.sap_meaning.proofs.WalksLemmas.{folded_mapped_block}
use Rattle.sap_resolved.specs.Worlds.{world_of, states_in}
use Rattle.sap_shape.specs.Sites.{Surroundings, simple_sites, command_sites, block_sites, state_sites}
use Rattle.sap_resolved.specs.Resolve.{command_of, arms_of, block_of, else_of, list_of, state_of, group_of, states_of}
use Rattle.sap_resolved.specs.Fill.{filled_step, filled_hang, filled, filled_state, filled_group}
use Rattle.sap_resolved.proofs.FillLemmas.{gathered_filled_group}
use Rattle.sap_resolved.specs.Sized.Ranges.{IsWidth}
use Rattle.sap_resolved.proofs.sized.Declared.{resolved}
use Rattle.sap_resolved.proofs.sized.Programs.{faultless, sizes_fit_law}
use Rattle.sap_resolved.proofs.sized.RangedPrograms.{widths_in_range_law}
use Rattle.sap_interface.specs.Designs.{named_of, site_count_of}
use Rattle.sap_tagged.specs.Prelude.{own_wires, wires, wires_arms, wires_block, body_wires, wires_state, wires_group, IsSound, PlainsKeepRules, PlainsWriteOnce}
use Rattle.sap_tagged.proofs.Conditions.{group_conditions, filled_group_conditions}
use Rattle.sap_tagged.proofs.Rules.{Fitting}
use Rattle.sap_tagged.proofs.Plains.{plain}
use Rattle.sap_tagged.proofs.Once.{writes_once}
use Rattle.sap_tagged.proofs.Designs.{design, some_child}

-- filling in what hangs adds no wire
module _ (w : World) where
  own_filled : (at : Home) (c : Command) (n : ℕ) → own_wires (filled w at c) n ≡ own_wires c n
  own_filled at (lone k) n = refl
  own_filled at _ n = refl

  body_filled : (p : ℕ) (t : State) → body_wires (filled_state w p t) ≡ body_wires t
  body_filled p (state_node s b g) =
      let at : Home = record { state = s; parent = p; children = g } in
      ap (λ (n : ℕ). 1 + n) (folded_mapped_block (filled_step w at) (filled_hang w at) 0 ◌+◌ own_wires own_wires (own_filled at) b)

  pub group_filled : (p : ℕ) (g : Group) → wires_group (filled_group w p g) ≡ wires_group g
  group_filled p g = gathered_filled_group w 0 ◌+◌ body_wires body_wires body_filled p g

-- five wires a command, and one a state

module _ (ls : Levels) (h : Surroundings) where
  mutual
    unfolding command_count arms_count block_count else_count list_count

    command_few : (k : ℕ) (c : tree.Command) → wires (command_of ls h k c) ≤ 5 * command_count c
    command_few k (tree.lone c) = omega arith
    command_few k (tree.try c place b) = let i = block_few (k + length (simple_sites h c)) b in omega (arith, i)
    command_few k (tree.if_else place e a b) = let i = block_few k a in let j = else_few (k + length (block_sites h a)) b in omega (arith, i, j)
    command_few k (tree.try_then c place a b) =
        let i = block_few (k + length (simple_sites h c)) a in let j = block_few (k + length (simple_sites h c) + length (block_sites h a)) b in omega (arith, i, j)
    command_few k (tree.case_of place e arms) = let i = arms_few k arms in omega (arith, i)

    arms_few : (k : ℕ) (arms : tree.Arms) → wires_arms (arms_of ls h k arms) ≤ 5 * arms_count arms
    arms_few k (tree.last_arm b) = block_few k b
    arms_few k (tree.and_arm constants b arms) = let i = block_few k b in let j = arms_few (k + length (block_sites h b)) arms in omega (arith, i, j)

    block_few : (k : ℕ) (b : tree.CommandBlock) → wires_block (block_of ls h k b) ≤ 5 * block_count b
    block_few k (tree.command_block cs after) = list_few k cs

    else_few : (k : ℕ) (b : tree.ElseBlock) → wires_block (else_of ls h k b) ≤ 5 * else_count b
    else_few k tree.no_else = omega arith
    else_few k (tree.with_else b) = block_few k b

    list_few : (k : ℕ) (cs : tree.CommandList) → wires_block (list_of ls h k cs) ≤ 5 * list_count cs
    list_few k tree.no_command = omega arith
    list_few k (tree.and_command c cs) = let i = command_few k c in let j = list_few (k + length (command_sites h c)) cs in omega (arith, i, j)

module _ (ls : Levels) (es : List Entity) where
  mutual
    unfolding state_count states_count state_commands states_commands

    state_few : (k x : ℕ) (s : tree.StateTree) → wires_state (state_of ls es k x s) ≤ 5 * state_commands s + state_count s
    state_few k x (tree.state_node place name kind body kids) =
        let h : Surroundings = record { entities = es; home = record { name = name.name; kind = kind; children = kids } } in
        let i = block_few ls h k body in
        let j = group_few (k + length (block_sites h body)) (x + 1) kids in
        omega (arith, i, j)

    pub group_few : (k x : ℕ) (g : tree.StateList) → wires_group (group_of ls es k x g) ≤ 5 * states_commands g + states_count g
    group_few k x tree.no_state = omega arith
    group_few k x (tree.and_state s rest) =
        let i = state_few k x s in let j = group_few (k + length (state_sites es s)) (x + states_in s) rest in omega (arith, i, j)

limited : (t : Bool) (i r m s d c : ℕ) → IsTrue (t && (nat_le i 64 && nat_le r 256 && nat_le m 16 && nat_le s 256 && nat_le d 16 && nat_le c 4096)) → (s ≤ 256) × (c ≤ 4096)
limited t i r m s d c h = (grind (arith, common_steps), grind (arith, common_steps))

pub limits : (d : DesignTree) → IsTrue (is_whole d) → (states_count d.states ≤ 256) × (states_commands d.states ≤ 4096)
unfolding is_whole
limits d h =
    limited (is_tree d) (count_by is_input d.declarations) (count_by is_register d.declarations) (count_by is_memory d.declarations)
    (states_count d.states) (states_depth d.states) (states_commands d.states) h

module _ (ls : Levels) (D : DesignTree) (sg : IsSound ls D) where
  levels_few : (order_of ls).count ≤ 64
  levels_few = (let c : (order_of ls).count ≡ length ls.names = order_of-count ls in let e : length ls.names ≤ 64 = sg.lattice.names.before.not_too_many in omega arith)

  tag_wide : IsWidth (width_of (order_of ls))
  tag_wide =
      (let a : 0 < width_of (order_of ls) = sg.lattice.narrow.some in
      let b : width_of (order_of ls) < (order_of ls).count = sg.lattice.narrow.few in
      let c : (order_of ls).count ≤ 64 = levels_few in
      (omega arith, omega arith))

  fitting : Fitting (named_of ls D) (width_of (order_of ls))
  fitting = record {
    sized = sizes_fit_law ls D sg.lattice.laws sg.formed.names;
    ranged = widths_in_range_law ls D (tree_of_whole D sg.whole) sg.formed.names;
    conditions =
        (let n = faultless ls (order_of ls).le D sg.formed.names in
        let w = world_of ls D in
        filled_group_conditions w (root w) (states_of ls D)
        (group_conditions ls (order_of ls).le (entities_of D) w (resolved ls (order_of ls).le D n.0) 1 (length D.declarations) D.states n.1));
    wide = tag_wide;
    few_levels = levels_few;
  }

pub plains_keep : PlainsKeepRules
plains_keep ls D sg = plain (named_of ls D) (width_of (order_of ls)) (site_count_of D) (design ls D sg) (fitting ls D sg) (some_child ls D sg)

pub plains_write : PlainsWriteOnce
plains_write ls D sg = writes_once (named_of ls D) (width_of (order_of ls)) (site_count_of D) (design ls D sg).names (design ls D sg).fine
