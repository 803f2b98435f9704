-- No design has more check sites than commands.
use Rattle.sap_lemmas.proofs.Common.{◌≤◌, List, ◌++◌, length, length-append, arith, inl, inr, cases_Bool}
use Rattle.sap_tree.specs.Prelude.{SimpleCommand, Command, lone, try, if_else, try_then, case_of, Arms, last_arm, and_arm, CommandBlock, command_block, ElseBlock, no_else, with_else, CommandList, no_command, and_command, StateTree, state_node, StateList, no_state, and_state, command_count, block_count, else_count, arms_count, list_count, state_commands, states_commands}
use Rattle.sap_names.specs.declared.entity.Entity.{Entity}
use Rattle.sap_shape.specs.Sites.{Surroundings, is_site, simple_sites, command_sites, block_sites, else_sites, arms_sites, list_sites, state_sites, states_sites}

pub simple_few : (h : Surroundings) (k : SimpleCommand) → length (simple_sites h k) ≤ 1
simple_few h k = elim (cases_Bool (is_site h.entities h.home.kind h.home.children k)) [ inl e ↦ rw e (omega arith) | inr e ↦ rw e (omega arith) ]

module _ (h : Surroundings) where
  mutual
    unfolding command_count block_count else_count arms_count list_count

    command_few : (c : Command) → length (command_sites h c) ≤ command_count c
    command_few (lone k) = simple_few h k
    command_few (try k place handler) = let a = simple_few h k in let b = block_few handler in omega (arith, length-append (simple_sites h k) (block_sites h handler))
    command_few (if_else place e one other) = let a = block_few one in let b = else_few other in omega (arith, length-append (block_sites h one) (else_sites h other))
    command_few (try_then k place accepted refused) =
        let a = simple_few h k in
        let b = block_few accepted in
        let c = block_few refused in
        omega (arith, length-append (simple_sites h k) (block_sites h accepted ++ block_sites h refused), length-append (block_sites h accepted) (block_sites h refused))
    command_few (case_of place e arms) = let a = arms_few arms in omega arith

    arms_few : (arms : Arms) → length (arms_sites h arms) ≤ arms_count arms
    arms_few (last_arm b) = block_few b
    arms_few (and_arm constants b arms) = let a = block_few b in let c = arms_few arms in omega (arith, length-append (block_sites h b) (arms_sites h arms))

    block_few : (b : CommandBlock) → length (block_sites h b) ≤ block_count b
    block_few (command_block cs after) = list_few cs

    else_few : (b : ElseBlock) → length (else_sites h b) ≤ else_count b
    else_few no_else = omega arith
    else_few (with_else b) = block_few b

    list_few : (cs : CommandList) → length (list_sites h cs) ≤ list_count cs
    list_few no_command = omega arith
    list_few (and_command c cs) = let a = command_few c in let b = list_few cs in omega (arith, length-append (command_sites h c) (list_sites h cs))

module _ (es : List Entity) where
  mutual
    unfolding state_commands states_commands

    state_few : (s : StateTree) → length (state_sites es s) ≤ state_commands s
    state_few (state_node place name kind body children) =
        let h : Surroundings = record { entities = es; home = record { name = name.name; kind = kind; children = children } } in
        let a = block_few h body in
        let b = states_few children in
        omega (arith, length-append (block_sites h body) (states_sites es children))

    pub states_few : (ss : StateList) → length (states_sites es ss) ≤ states_commands ss
    states_few no_state = omega arith
    states_few (and_state s ss) = let a = state_few s in let b = states_few ss in omega (arith, length-append (state_sites es s) (states_sites es ss))
