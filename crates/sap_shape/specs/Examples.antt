-- Worked examples of the faults of shape.
use Rattle.std.specs.Prelude.{◌+◌, ℕ, List, [], ◌∷◌, None, codes}
use Rattle.sap_text.specs.declared.place.Place.{Place}
use Rattle.sap_tree.specs.Making.{on, at, spot, mention, numeral_at, commands}
use Rattle.sap_tree.specs.declared.syntax.Kind.{Kind}
use Rattle.sap_tree.specs.declared.syntax.Kind.TheVariants.{Dynamic, Enforced}
use Rattle.sap_tree.specs.declared.syntax.Decl.TheVariants.{Input, Register, Memory}
use Rattle.sap_tree.specs.Syntax.{Expression, literal, variable, no_part, and_part, level_of, SimpleCommand, assign, write, set_tag, go_to, fall_to_child, Command, lone, try, if_else, try_then, case_of, last_arm, and_arm, CommandBlock, command_block, no_else, with_else, CommandList, no_command, and_command, StateTree, state_node, no_state, and_state, DesignTree}
use Rattle.sap_tree.specs.declared.version.Version.{Version}
use Rattle.sap_tree.specs.declared.version.Version.TheVariants.{One, Two}
use Rattle.sap_lattice.specs.Examples.{low_high}
use Rattle.sap_names.specs.declared.fault.Fault.{Fault}
use Rattle.sap_names.specs.declared.kind.Code.TheVariants.{E10, E11, E12, E14, E15, E16, E17}
use Rattle.sap_names.specs.Examples.{fault}
use Rattle.sap_names.specs.Fault.{StandsIn}
use Rattle.sap_shape.specs.Paths as paths
use Rattle.sap_shape.specs.ShapeFaults.{IsShapeFault}
use Rattle.sap_shape.specs.WellFormed.{WellFormed}

-- A number at a column, for examples.
abbrev pub number : ℕ → ℕ → Expression
number column n = literal (spot (at column)) n

-- A block whose closing brace is at a column.
abbrev pub block : ℕ → CommandList → CommandBlock
block after cs = command_block cs (at after)

-- A block of one command.
abbrev pub one : ℕ → Command → CommandBlock
one after c = block after (and_command c no_command)

-- The kind `enforced low`.
abbrev pub low : Kind
low = Enforced (mention (at 2) (codes "low")) None

-- A state without children.
abbrev pub leaf : List ℕ → Kind → CommandBlock → StateTree
leaf name kind body = state_node (at 1) (mention (at 1) name) kind body no_state

-- The text `mem m : 8[4] KIND; reg x : 8 KIND; state S KIND { .. }`.
abbrev pub one_state : Version → (register state : Kind) → CommandBlock → DesignTree
one_state version register state body = record {
  version = version;
  declarations = Memory (at 1) (mention (at 5) (codes "m")) (numeral_at (at 9) 8) (numeral_at (at 11) 4) register
      ∷ Register (at 13) (mention (at 14) (codes "x")) (numeral_at (at 15) 8) register None ∷ [];
  states = and_state (leaf (codes "S") state body) no_state;
}

-- The kind `dynamic`.
abbrev pub dynamic : Kind
dynamic = Dynamic (at 12)

-- A design of version 1 with one register, one memory and a state with this body.
abbrev pub design : CommandBlock → DesignTree
design body = one_state One dynamic low body

-- A step that writes a cell of the memory.
abbrev pub writes : ℕ → Command
writes column = lone (write (mention (at column) (codes "m")) (number (column + 2) 0) (number (column + 6) 1))

-- A `goto` to the state itself.
abbrev pub home : ℕ → Command
home column = lone (go_to (at column) (mention (at (column + 5)) (codes "S")))

-- The faults of shape of a design, and of one of that body, are these.
abbrev pub FaultsOf : DesignTree → List Fault → Type 0
FaultsOf d fs = (f : Fault) → (IsShapeFault d f → StandsIn f fs) × (StandsIn f fs → IsShapeFault d f)

-- The design with this body has exactly these faults of shape.
abbrev pub Faults : CommandBlock → List Fault → Type 0
Faults body fs = FaultsOf (design body) fs

-- The text `m[0] := 1; m[1] := 2; goto S;`.
abbrev pub TwiceWritten : Type 0
TwiceWritten = Faults (block 90 (and_command (writes 20) (and_command (writes 40) (and_command (home 60) no_command))))
    (fault E14 40 ∷ [])

-- The text `if (..) { m[0] := 1; } else { m[1] := 2; } goto S;`.
abbrev pub InTwoBranches : Type 0
InTwoBranches = Faults (block 90
    (and_command (if_else (at 20) (number 24 1) (one 30 (writes 28)) (with_else (one 40 (writes 36))))
    (and_command (home 60) no_command))) []

-- A body without a transfer, a transfer that isn't last, and an `if` at the end without `else`.
abbrev pub NotClosed : Type 0
NotClosed = Faults (block 90 (and_command (writes 20) no_command)) (fault E10 90 ∷ [])

-- A `goto` that isn't the last command of its body is E10.
abbrev pub NotLast : Type 0
NotLast = Faults (block 90 (and_command (home 20) (and_command (home 40) no_command))) (fault E10 20 ∷ [])

-- An `if` without `else` at the end of a body is E10, though its block ends in a `goto`.
abbrev pub WithoutElse : Type 0
WithoutElse = Faults (one 90 (if_else (at 20) (number 24 1) (one 30 (home 26)) no_else)) (fault E10 20 ∷ [])

-- A `fall` in a leaf, a `goto` to no sibling, a handler of a command that can't be refused, a `setTag` of a dynamic
-- register and of the state itself.
abbrev pub FallsInLeaf : Type 0
FallsInLeaf = Faults (one 90 (lone (fall_to_child (at 20)))) (fault E12 20 ∷ [])

-- A `goto` to a state that isn't in the same group is E11.
abbrev pub ToNoSibling : Type 0
ToNoSibling = Faults (one 90 (lone (go_to (at 20) (mention (at 25) (codes "T"))))) (fault E11 25 ∷ [])

-- An `otherwise` of a step that can't be refused is a fault at its place.
abbrev pub NeverRefused : Type 0
NeverRefused = Faults (block 90 (and_command
    (try (assign (mention (at 20) (codes "x")) (number 25 1)) (at 27) (one 50 (writes 40)))
    (and_command (home 60) no_command))) (fault E15 27 ∷ [])

-- A `setTag` of a dynamic entity is a fault.
abbrev pub DynamicRetagged : Type 0
DynamicRetagged = Faults (block 90 (and_command
    (lone (set_tag (at 20) (mention (at 27) (codes "x")) (level_of (mention (at 30) (codes "low")))))
    (and_command (home 60) no_command))) (fault E16 27 ∷ [])

-- A `setTag` of the state in whose body it appears is a fault.
abbrev pub ItselfRetagged : Type 0
ItselfRetagged = Faults (block 90 (and_command
    (lone (set_tag (at 20) (mention (at 27) (codes "S")) (level_of (mention (at 30) (codes "low")))))
    (and_command (home 60) no_command))) (fault E17 27 ∷ [])

-- Version 2.

-- A block without commands.
abbrev pub empty : ℕ → CommandBlock
empty after = block after no_command

-- A step that assigns the register.
abbrev pub sets : ℕ → SimpleCommand
sets column = assign (mention (at column) (codes "x")) (number (column + 5) 1)

-- The text `k then { A } otherwise { B } goto S;`.
abbrev pub deciding : SimpleCommand → (accepted refused : CommandBlock) → CommandBlock
deciding k accepted refused = block 90 (and_command (try_then k (at 27) accepted refused)
    (and_command (home 80) no_command))

-- The text `x := 1 then { } otherwise { } goto S; where x is dynamic`.
abbrev pub NeverRefusedWithThen : Type 0
NeverRefusedWithThen = FaultsOf (one_state Two dynamic low (deciding (sets 20) (empty 34) (empty 48)))
    (fault E15 27 ∷ [])

-- The same where x is enforced, and a write of one memory in each block; and with another one behind.
abbrev pub WrittenInEitherBlock : Type 0
WrittenInEitherBlock = FaultsOf (one_state Two low low
    (deciding (sets 20) (one 45 (writes 34)) (one 70 (writes 60)))) []

-- A write after a `then` whose block writes the same memory is E14.
abbrev pub WrittenBehindABlock : Type 0
WrittenBehindABlock = FaultsOf
    (one_state Two low low (block 90
    (and_command (try_then (sets 20) (at 27) (empty 34) (one 58 (writes 48)))
    (and_command (writes 60) (and_command (home 80) no_command)))))
    (fault E14 60 ∷ [])

-- The text `goto S then { } otherwise { }` of a dynamic state is E10 at the `then`, and nothing else.
abbrev pub GotoWithThen : Type 0
GotoWithThen = FaultsOf (one_state Two dynamic dynamic
    (one 90 (try_then (go_to (at 20) (mention (at 25) (codes "S"))) (at 27) (empty 34) (empty 48)))) (fault E10 27 ∷ [])

-- To no sibling, and a `fall` in a leaf: also what stands without the `then`.
abbrev pub ToNoSiblingWithThen : Type 0
ToNoSiblingWithThen =
    FaultsOf (one_state Two dynamic low (one 90
    (try_then (go_to (at 20) (mention (at 25) (codes "T"))) (at 27) (empty 34) (empty 48))))
    (fault E10 27 ∷ fault E11 25 ∷ [])

-- A `fall` with a `then`, in a state without children, is E10 at the `then` and E12 at the `fall`.
abbrev pub FallsInLeafWithThen : Type 0
FallsInLeafWithThen = FaultsOf (one_state Two dynamic low
    (one 90 (try_then (fall_to_child (at 20)) (at 25) (empty 34) (empty 48)))) (fault E10 25 ∷ fault E12 20 ∷ [])

-- The text `case (x) { 0: { goto S; } else { m[0] := 1; } }`.
abbrev pub OneArmNotClosed : Type 0
OneArmNotClosed = FaultsOf
    (one_state Two dynamic low (one 90 (case_of (at 20) (variable (spot (at 26)) (codes "x"))
    (and_arm (and_part (number 31 0) no_part) (one 44 (home 36)) (last_arm (one 63 (writes 53)))))))
    (fault E10 63 ∷ [])

-- A well-formed design, in five lines of text:
--     sapper 2; input a : 2; reg x : 8 dynamic; reg y : 8 enforced low;
--     state P enforced low {
--     y := 3 then { case (a) { 0: { fall; } else { goto P; } } }
--     otherwise { y := 4 otherwise { x := 5; } goto P; }
--     state C enforced low { goto C; } }

-- The text `name := value`.
abbrev pub put : (line column : ℕ) → (name : List ℕ) → (value : ℕ) → SimpleCommand
put l c name value = assign (mention (on l c) name) (literal (spot (on l (c + 5))) value)

-- Commands up to the token at a place.
abbrev pub up_to : Place → List Command → CommandBlock
up_to after cs = command_block (commands cs) after

-- A `case` with one constant, whose arm falls and whose `else` goes back.
abbrev pub by_number : Command
by_number = case_of (on 3 15) (variable (spot (on 3 21)) (codes "a"))
    (and_arm (and_part (literal (spot (on 3 26)) 0) no_part) (up_to (on 3 37) (lone (fall_to_child (on 3 31)) ∷ []))
    (last_arm (up_to (on 3 54) (lone (paths.goto 3 46 (codes "P")) ∷ []))))

-- A body with a step that has a handler and a `goto` after it.
abbrev pub handled : CommandBlock
handled = up_to (on 4 50) (try (put 4 13 (codes "y") 4) (on 4 20)
    (up_to (on 4 40) (lone (put 4 32 (codes "x") 5) ∷ [])) ∷ lone (paths.goto 4 42 (codes "P")) ∷ [])

-- The design of both bodies.
abbrev pub decided : DesignTree
decided = record {
  version = Two;
  declarations = Input (on 1 11) (mention (on 1 17) (codes "a")) (numeral_at (on 1 21) 2)
      ∷ Register (on 1 24) (mention (on 1 28) (codes "x")) (numeral_at (on 1 32) 8) (Dynamic (on 1 34)) None
      ∷ Register (on 1 43) (mention (on 1 47) (codes "y")) (numeral_at (on 1 51) 8) (paths.low (on 1 62)) None ∷ [];
  states = and_state (state_node (on 2 1) (mention (on 2 7) (codes "P")) (paths.low (on 2 18))
      (up_to (on 5 1) (try_then (put 3 1 (codes "y") 3) (on 3 8) (up_to (on 3 58) (by_number ∷ [])) handled ∷ []))
      (and_state (state_node (on 5 1) (mention (on 5 7) (codes "C")) (paths.low (on 5 18))
      (up_to (on 5 32) (lone (paths.goto 5 24 (codes "C")) ∷ [])) no_state) no_state)) no_state;
}

-- It is well formed over a lattice of two levels.
abbrev pub DecidedIsWellFormed : Type 0
DecidedIsWellFormed = WellFormed low_high decided
