-- How E14 is looked for: which memories some path has written where it comes to a command. What is found so is what the
-- paths say (`Paths.antt`).
use Rattle.std.specs.Prelude.{ℕ, List, [], ◌++◌, Bool, true, false, ◌||◌, if◌then◌else◌, bytes_eq}
use Rattle.sap_tree.specs.Syntax.{SimpleCommand, assign, write, set_tag, set_cell_tag, go_to, fall_to_child, Command, lone, try, if_else, try_then, case_of, Arms, last_arm, and_arm, CommandBlock, command_block, ElseBlock, no_else, with_else, CommandList, no_command, and_command, StateTree, state_node, StateList, no_state, and_state}
use Rattle.sap_tree.specs.Walks.{some, some_in_block, some_in_else, some_in_arms, some_in_list}
use Rattle.sap_names.specs.declared.fault.Fault.{Fault}
use Rattle.sap_names.specs.declared.kind.Code.TheVariants.{E14}
use Rattle.sap_names.specs.NameFaults.{fault_if}

-- The memories of which some path up to a place has written a cell, or set its tag.
abbrev pub Written : Type 0
Written = List ℕ → Bool

-- No memory has been written.
abbrev pub fresh : Written
fresh m = false

-- A memory was written on one path or on another.
abbrev pub either : Written → Written → Written
either p q m = p m || q m

-- A memory more has been written.
abbrev pub writing : List ℕ → Written → Written
writing m p n = bytes_eq m n || p n

-- What has been written after a step, if it is accepted.
abbrev pub past_simple : SimpleCommand → Written → Written
past_simple (assign target e) p = p
past_simple (write target index e) p = writing target.name p
past_simple (set_tag place target tag) p = p
past_simple (set_cell_tag place target index tag) p = writing target.name p
past_simple (go_to place target) p = p
past_simple (fall_to_child place) p = p

-- Up to each `fall`, where a child is entered.
abbrev pub entering_simple : SimpleCommand → Written → Written
entering_simple (assign target e) p = fresh
entering_simple (write target index e) p = fresh
entering_simple (set_tag place target tag) p = fresh
entering_simple (set_cell_tag place target index tag) p = fresh
entering_simple (go_to place target) p = fresh
entering_simple (fall_to_child place) p = p

-- A second write of a memory on a path, at the command's first token.
abbrev pub second_simple : SimpleCommand → Written → List Fault
second_simple (assign target e) p = []
second_simple (write target index e) p = fault_if (p target.name) E14 target.place
second_simple (set_tag place target tag) p = []
second_simple (set_cell_tag place target index tag) p = fault_if (p target.name) E14 place
second_simple (go_to place target) p = []
second_simple (fall_to_child place) p = []

-- What is found in a part of a body.
pub record Found : Type 0 where
  pub past : Written
  pub entering : Written
  pub again : List Fault

-- Behind what paths have written before it: what they have written at its end, and up to each `fall` in it, and each
-- second write.
abbrev pub Part : Type 0
Part = Written → Found

-- A part without commands.
abbrev pub nothing : Part
nothing p = record { past = p; entering = fresh; again = [] }

-- One part and then another.
abbrev pub behind : Part → Part → Part
behind f g p =
    let first = f p in
    let rest = g first.past in
    record { past = rest.past; entering = either first.entering rest.entering; again = first.again ++ rest.again }

-- Either of two parts.
abbrev pub branch : Part → Part → Part
branch f g p =
    let one = f p in
    let other = g p in
    record {
      past = either one.past other.past;
      entering = either one.entering other.entering;
      again = one.again ++ other.again;
    }

-- A step as a part: what is written after it, what a state that it falls into is entered with, and the faults in it.
abbrev pub simple : SimpleCommand → Part
simple k p = record { past = past_simple k p; entering = entering_simple k p; again = second_simple k p }

-- What the search finds in a command.
abbrev mutual
  pub found : Command → Part
  found (lone k) = simple k
  found (try k place handler) = behind (simple k) (branch nothing (found_in_block handler))
  found (if_else place condition then_block else_block) = branch (found_in_block then_block) (found_in_else else_block)
  found (try_then k place accepted refused) =
      behind (simple k) (branch (found_in_block accepted) (found_in_block refused))
  found (case_of place e arms) = found_in_arms arms

  pub found_in_block : CommandBlock → Part
  found_in_block (command_block cs after) = found_in_list cs

  pub found_in_else : ElseBlock → Part
  found_in_else no_else = nothing
  found_in_else (with_else b) = found_in_block b

  pub found_in_arms : Arms → Part
  found_in_arms (last_arm b) = found_in_block b
  found_in_arms (and_arm constants b arms) = branch (found_in_block b) (found_in_arms arms)

  pub found_in_list : CommandList → Part
  found_in_list no_command = nothing
  found_in_list (and_command c cs) = behind (found c) (found_in_list cs)

-- A `fall` stands in it.
abbrev pub is_fall : SimpleCommand → Bool
is_fall (assign target e) = false
is_fall (write target index e) = false
is_fall (set_tag place target tag) = false
is_fall (set_cell_tag place target index tag) = false
is_fall (go_to place target) = false
is_fall (fall_to_child place) = true

-- Some step of a command is a `fall`.
abbrev pub falls : Command → Bool
falls c = some is_fall c

-- Some step of a block is a `fall`.
abbrev pub falls_block : CommandBlock → Bool
falls_block block = some_in_block is_fall block

-- Some step of an `else` is a `fall`.
abbrev pub falls_else : ElseBlock → Bool
falls_else other = some_in_else is_fall other

-- Some step of the arms of a `case` is a `fall`.
abbrev pub falls_arms : Arms → Bool
falls_arms arms = some_in_arms is_fall arms

-- Some step of a list is a `fall`.
abbrev pub falls_list : CommandList → Bool
falls_list list = some_in_list is_fall list

-- In a state that is entered after these, and in those that it may fall into.
abbrev mutual
  pub second_state : StateTree → Written → List Fault
  second_state (state_node place name kind body children) p =
      (found_in_block body p).again ++ (if falls_block body
      then second_states children (found_in_block body p).entering else [])

  pub second_states : StateList → Written → List Fault
  second_states no_state p = []
  second_states (and_state s rest) p = second_state s p ++ second_states rest p
