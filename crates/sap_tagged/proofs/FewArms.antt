-- The program of a whole design has cases with few arms, each with a constant.
use Rattle.sap_lemmas.proofs.Common.{◌≡◌, ℕ, suc, ◌+◌, ◌≤◌, List, length, true, ◌&&◌, refl, sym, ap, subst, arith, nat_le, and_left, and_right, and_parts, leb-true, AllByRecursion}
use Rattle.sap_tree.specs.Prelude.{most_arms, most_blocks, is_simple, is_outermost, has_arm, has_constant, are_constants, is_command, is_block, is_else, are_arms, are_commands, block_depth, is_kind, is_state, are_states, is_name, is_second}
use Rattle.sap_tree.specs.declared.version.Version.{Version}
use Rattle.sap_tree.specs.Syntax as tree
use Rattle.sap_tree.specs.Whole as whole
use Rattle.sap_lattice.specs.Levels.{Levels}
use Rattle.sap_names.specs.declared.entity.Entity.{Entity}
use Rattle.sap_meaning.specs.Prelude.{World, Command, case_of, Arms, last_arm, and_arm, Group, Home}
use Rattle.sap_meaning.proofs.WalksLemmas.{constants_mapped}
use Rattle.sap_resolved.specs.Worlds.{states_in}
use Rattle.sap_shape.specs.Sites.{Surroundings, simple_sites, command_sites, block_sites, state_sites}
use Rattle.sap_resolved.specs.Resolve.{numbers_of, command_of, arms_of, block_of, else_of, list_of, state_of, group_of}
use Rattle.sap_resolved.specs.Fill.{filled_step, filled_hang, filled, filled_arms, filled_group}
use Rattle.sap_resolved.proofs.FillLemmas.{commands_filled_group}
use Rattle.sap_tagged.specs.Prelude.{arm_count, HaveConstants, FewHere, Few, FewArms, FewBlock, FewState, FewGroup}

-- resolving keeps the arms and their constants

some_number : (constants : tree.Expressions) → has_constant constants ≡ true → 1 ≤ length (numbers_of constants)
some_number tree.no_part h = cc
some_number (tree.and_part e constants) h = omega arith

module _ (version : Version) (ls : Levels) (h : Surroundings) where
  arms_counted : (k : ℕ) (arms : tree.Arms) → arm_count (arms_of ls h k arms) ≡ whole.arm_count arms
  arms_counted k (tree.last_arm b) = refl
  arms_counted k (tree.and_arm constants b arms) = let i = arms_counted (k + length (block_sites h b)) arms in omega (arith, i)

  mutual
    unfolding is_command is_block is_else are_arms are_commands

    command_few : (k : ℕ) (c : tree.Command) → is_command version c ≡ true → Few (command_of ls h k c)
    command_few k (tree.lone c) i = tt
    command_few k (tree.try c place b) i = (tt, block_few (k + length (simple_sites h c)) b (and_right (is_simple version c) (is_block version b) i))
    command_few k (tree.if_else place x a b) i =
        let j = and_parts (is_outermost version x && is_block version a) (is_else version b) i in
        (tt, block_few k a (and_right (is_outermost version x) (is_block version a) j.0), else_few (k + length (block_sites h a)) b j.1)
    command_few k (tree.try_then c place a b) i =
        let j = and_parts (is_second version && is_simple version c && is_block version a) (is_block version b) i in (
          tt,
          block_few (k + length (simple_sites h c)) a (and_right (is_second version && is_simple version c) (is_block version a) j.0),
          block_few (k + length (simple_sites h c) + length (block_sites h a)) b j.1,
        )
    command_few k (tree.case_of place x arms) i =
        let j = and_parts (is_second version && is_outermost version x && has_arm arms && nat_le (whole.arm_count arms) most_arms) (are_arms version arms) i in
        let l = leb-true (whole.arm_count arms) most_arms (and_right (is_second version && is_outermost version x && has_arm arms) (nat_le (whole.arm_count arms) most_arms) j.0) in
        ((subst (λ (n : ℕ). n ≤ most_arms) (sym (arms_counted k arms)) l, arms_have k arms j.1), arms_few k arms j.1)

    arms_few : (k : ℕ) (arms : tree.Arms) → are_arms version arms ≡ true → FewArms (arms_of ls h k arms)
    arms_few k (tree.last_arm b) i = block_few k b i
    arms_few k (tree.and_arm constants b arms) i =
        let j = and_parts (has_constant constants && are_constants constants && is_block version b) (are_arms version arms) i in
        (block_few k b (and_right (has_constant constants && are_constants constants) (is_block version b) j.0), arms_few (k + length (block_sites h b)) arms j.1)

    arms_have : (k : ℕ) (arms : tree.Arms) → are_arms version arms ≡ true → HaveConstants (arms_of ls h k arms)
    arms_have k (tree.last_arm b) i = tt
    arms_have k (tree.and_arm constants b arms) i =
        let j = and_parts (has_constant constants && are_constants constants && is_block version b) (are_arms version arms) i in
        let m = and_left (has_constant constants && are_constants constants) (is_block version b) j.0 in
        (some_number constants (and_left (has_constant constants) (are_constants constants) m), arms_have (k + length (block_sites h b)) arms j.1)

    block_few : (k : ℕ) (b : tree.CommandBlock) → is_block version b ≡ true → FewBlock (block_of ls h k b)
    block_few k (tree.command_block cs after) i = list_few k cs i

    else_few : (k : ℕ) (b : tree.ElseBlock) → is_else version b ≡ true → FewBlock (else_of ls h k b)
    else_few k tree.no_else i = tt
    else_few k (tree.with_else b) i = block_few k b i

    list_few : (k : ℕ) (cs : tree.CommandList) → are_commands version cs ≡ true → FewBlock (list_of ls h k cs)
    list_few k tree.no_command i = tt
    list_few k (tree.and_command c cs) i =
        let j = and_parts (is_command version c) (are_commands version cs) i in (command_few k c j.0, list_few (k + length (command_sites h c)) cs j.1)

module _ (version : Version) (ls : Levels) (es : List Entity) where
  mutual
    unfolding is_state are_states

    state_few : (k x : ℕ) (s : tree.StateTree) → is_state version s ≡ true → FewState (state_of ls es k x s)
    state_few k x (tree.state_node place name kind body children) i =
        let h : Surroundings = record { entities = es; home = record { name = name.name; kind = kind; children = children } } in
        let j = and_parts (is_name version name.name && is_kind version kind && is_block version body && nat_le (block_depth body) most_blocks) (are_states version children) i in
        let m = and_left (is_name version name.name && is_kind version kind && is_block version body) (nat_le (block_depth body) most_blocks) j.0 in (
          block_few version ls h k body (and_right (is_name version name.name && is_kind version kind) (is_block version body) m),
          group_few (k + length (block_sites h body)) (x + 1) children j.1,
        )

    pub group_few : (k x : ℕ) (g : tree.StateList) → are_states version g ≡ true → FewGroup (group_of ls es k x g)
    group_few k x tree.no_state i = tt
    group_few k x (tree.and_state s rest) i =
        let j = and_parts (is_state version s) (are_states version rest) i in (state_few k x s j.0, group_few (k + length (state_sites es s)) (x + states_in s) rest j.1)

-- and so does filling in what hangs
module _ (w : World) where
  arms_filled : (at : Home) (arms : Arms) → arm_count (filled_arms w at arms) ≡ arm_count arms
  arms_filled at (last_arm b) = refl
  arms_filled at (and_arm constants b arms) = ap (λ (n : ℕ). suc n) (arms_filled at arms)

  filled_few : (at : Home) (c : Command) → FewHere c → FewHere (filled w at c)
  filled_few at (case_of hang e arms) f = (
    subst (λ (n : ℕ). n ≤ most_arms) (sym (arms_filled at arms)) f.0,
    subst (λ (cs : List (List ℕ)). AllByRecursion (λ (constants : List ℕ). 1 ≤ length constants) cs)
        (sym (constants_mapped (filled_step w at) (filled_hang w at) arms)) f.1,
  )
  filled_few at _ f = tt

  pub filled_group_few : (p : ℕ) (g : Group) → FewGroup g → FewGroup (filled_group w p g)
  filled_group_few p g f = commands_filled_group w FewHere FewHere filled_few p g f
