-- Walks over a design's commands. A definition that asks or gathers the same of all parts is a walk, and says what it
-- asks or has of one.
use Rattle.std.specs.Prelude.{ℕ, Bool, false, ◌||◌, Option, Some, None}
use Rattle.sap_tree.specs.Syntax.{Expression, SimpleCommand, Command, lone, try, if_else, try_then, case_of, Arms, last_arm, and_arm, CommandBlock, command_block, ElseBlock, no_else, with_else, CommandList, no_command, and_command, StateTree, state_node, StateList, no_state, and_state}

-- P holds of each simple command, and Q of each condition and number with the width that it is asked for.
module _ (P : SimpleCommand → Type 0) (Q : (asked : Option ℕ) → Expression → Type 0) where
  -- P holds of each step of a command, and Q of the expression of each of its tests (with the least width that is asked
  -- of it).
  abbrev mutual
    pub Every : Command → Type 0
    Every (lone c) = P c
    Every (try c place handler) = P c × EveryInBlock handler
    Every (if_else place e one other) = Q (Some 1) e × EveryInBlock one × EveryInElse other
    Every (try_then c place one other) = P c × EveryInBlock one × EveryInBlock other
    Every (case_of place e arms) = Q None e × EveryInArms arms

    pub EveryInBlock : CommandBlock → Type 0
    EveryInBlock (command_block list after) = EveryInList list

    pub EveryInElse : ElseBlock → Type 0
    EveryInElse no_else = Unit {0}
    EveryInElse (with_else block) = EveryInBlock block

    pub EveryInArms : Arms → Type 0
    EveryInArms (last_arm block) = EveryInBlock block
    EveryInArms (and_arm constants block arms) = EveryInBlock block × EveryInArms arms

    pub EveryInList : CommandList → Type 0
    EveryInList no_command = Unit {0}
    EveryInList (and_command c list) = Every c × EveryInList list

-- A fold: `own c below` is what a command has where its blocks have `below`, which is what their commands have,
-- joined in the order of the text, or `none`.
module _ {A : Type 0} (none : A) (join : A → A → A) (own : Command → (below : A) → A) where
  -- What `own` makes of a command and of what the commands in its blocks have, joined in the order of the text.
  abbrev mutual
    pub folded : Command → A
    folded (lone c) = own (lone c) none
    folded (try c place handler) = own (try c place handler) (folded_in_block handler)
    folded (if_else place e one other) = own (if_else place e one other)
        (join (folded_in_block one) (folded_in_else other))
    folded (try_then c place one other) = own (try_then c place one other)
        (join (folded_in_block one) (folded_in_block other))
    folded (case_of place e arms) = own (case_of place e arms) (folded_in_arms arms)

    pub folded_in_block : CommandBlock → A
    folded_in_block (command_block list after) = folded_in_list list

    pub folded_in_else : ElseBlock → A
    folded_in_else no_else = none
    folded_in_else (with_else block) = folded_in_block block

    pub folded_in_arms : Arms → A
    folded_in_arms (last_arm block) = folded_in_block block
    folded_in_arms (and_arm constants block arms) = join (folded_in_block block) (folded_in_arms arms)

    pub folded_in_list : CommandList → A
    folded_in_list no_command = none
    folded_in_list (and_command c list) = join (folded c) (folded_in_list list)

-- What `f` has of each simple command is joined in the order of the text.
module _ {A : Type 0} (none : A) (join : A → A → A) (f : SimpleCommand → A) where
  -- What a command's own step gives, joined with what its blocks give.
  abbrev pub with_simple : Command → (below : A) → A
  with_simple (lone c) below = f c
  with_simple (try c place handler) below = join (f c) below
  with_simple (if_else place e one other) below = below
  with_simple (try_then c place one other) below = join (f c) below
  with_simple (case_of place e arms) below = below

  -- What f gives for the steps of a command, joined in order.
  abbrev pub gathered : Command → A
  gathered c = folded none join with_simple c

  -- What f gives for the steps of a block, joined in order.
  abbrev pub gathered_in_block : CommandBlock → A
  gathered_in_block block = folded_in_block none join with_simple block

  -- What f gives for the steps of an `else` part, joined in order.
  abbrev pub gathered_in_else : ElseBlock → A
  gathered_in_else other = folded_in_else none join with_simple other

  -- What f gives for the steps of the arms of a `case`, joined in order.
  abbrev pub gathered_in_arms : Arms → A
  gathered_in_arms arms = folded_in_arms none join with_simple arms

  -- What f gives for the steps of a list of commands, joined in order.
  abbrev pub gathered_in_list : CommandList → A
  gathered_in_list list = folded_in_list none join with_simple list

-- `p` holds of some simple command.
module _ (p : SimpleCommand → Bool) where
  -- Some step of the command satisfies p.
  abbrev pub some : Command → Bool
  some c = gathered false ◌||◌ p c

  -- Some step of the block satisfies p.
  abbrev pub some_in_block : CommandBlock → Bool
  some_in_block block = gathered_in_block false ◌||◌ p block

  -- Some step of the `else` part satisfies p.
  abbrev pub some_in_else : ElseBlock → Bool
  some_in_else other = gathered_in_else false ◌||◌ p other

  -- Some step of the arms satisfies p.
  abbrev pub some_in_arms : Arms → Bool
  some_in_arms arms = gathered_in_arms false ◌||◌ p arms

  -- Some step of the list of commands satisfies p.
  abbrev pub some_in_list : CommandList → Bool
  some_in_list list = gathered_in_list false ◌||◌ p list

-- The block that is the body of a state.
abbrev pub body_of : StateTree → CommandBlock
body_of (state_node place name kind body children) = body

-- This is a fold over states: `own s below` is what a state has if its children have `below`.
module _ {A : Type 0} (none : A) (join : A → A → A) (own : StateTree → (below : A) → A) where
  -- What `own` makes of a state and of what its children have, joined in the order of the text.
  abbrev mutual
    pub folded_from : StateTree → A
    folded_from (state_node place name kind body children) =
        own (state_node place name kind body children) (folded_from_list children)

    pub folded_from_list : StateList → A
    folded_from_list no_state = none
    folded_from_list (and_state s states) = join (folded_from s) (folded_from_list states)

-- What `f` has of each state is joined, a state before its children.
module _ {A : Type 0} (none : A) (join : A → A → A) (f : StateTree → A) where
  -- What f gives for a state and all states below it, joined in order.
  abbrev pub gathered_from : StateTree → A
  gathered_from s = folded_from none join (λ s below. join (f s) below) s

  -- What f gives for the states of a list and all states below them, joined in order.
  abbrev pub gathered_from_list : StateList → A
  gathered_from_list states = folded_from_list none join (λ s below. join (f s) below) states
