-- E14: no path of one cycle writes a memory twice.
use Rattle.std.specs.Prelude.{◌≡◌, ◌⊎◌, ◌+◌, ℕ, List, [], ◌∷◌, ◌++◌, None, codes}
use Rattle.sap_tree.specs.Making.{on, spot, mention, numeral_at}
use Rattle.sap_text.specs.declared.place.Place.{Place}
use Rattle.sap_tree.specs.declared.syntax.Kind.{Kind}
use Rattle.sap_tree.specs.declared.syntax.Kind.TheVariants.{Dynamic, Enforced}
use Rattle.sap_tree.specs.declared.syntax.Decl.TheVariants.{Memory}
use Rattle.sap_tree.specs.declared.version.Version.TheVariants.{One}
use Rattle.sap_tree.specs.Syntax.{literal, SimpleCommand, assign, write, set_tag, set_cell_tag, go_to, fall_to_child, Command, lone, try, if_else, try_then, case_of, Arms, last_arm, and_arm, CommandBlock, command_block, ElseBlock, no_else, with_else, CommandList, no_command, and_command, StateTree, state_node, StateList, no_state, and_state, DesignTree}
use Rattle.sap_names.specs.declared.fault.Fault.{Fault}
use Rattle.sap_names.specs.declared.kind.Code.TheVariants.{E14}

-- A path: commands that one cycle may come to, in their order. Those that are refused are among them.
abbrev pub Path : Type 0
Path = List SimpleCommand

-- A path through a command. Through a simple command it is that command; through `k otherwise { h }` it is k, or k and
-- then a path through h; through `k then { a } otherwise { b }` it is k and then a path through a or b. Through an `if`
-- or a `case` it is a path through one of its blocks; a missing `else` is an empty block.
abbrev mutual
  pub Through : Command → Path → Type 0
  Through (lone k) path = path ≡ k ∷ []
  Through (try k place handler) path = (path ≡ k ∷ [])
      ⊎ ((handled : Path) × ThroughBlock handler handled × (path ≡ k ∷ handled))
  Through (if_else place condition then_block else_block) path =
      ThroughBlock then_block path ⊎ ThroughElse else_block path
  Through (try_then k place accepted refused) path =
      ((behind : Path) × ThroughBlock accepted behind × (path ≡ k ∷ behind))
      ⊎ ((behind : Path) × ThroughBlock refused behind × (path ≡ k ∷ behind))
  Through (case_of place e arms) path = ThroughArms arms path

  pub ThroughBlock : CommandBlock → Path → Type 0
  ThroughBlock (command_block cs after) path = ThroughList cs path

  pub ThroughElse : ElseBlock → Path → Type 0
  ThroughElse no_else path = path ≡ []
  ThroughElse (with_else b) path = ThroughBlock b path

  pub ThroughArms : Arms → Path → Type 0
  ThroughArms (last_arm b) path = ThroughBlock b path
  ThroughArms (and_arm constants b arms) path = ThroughBlock b path ⊎ ThroughArms arms path

  -- A path leads through one command after another.
  pub ThroughList : CommandList → Path → Type 0
  ThroughList no_command path = path ≡ []
  ThroughList (and_command c cs) path = (first : Path) × (rest : Path) × Through c first
      × ThroughList cs rest × (path ≡ first ++ rest)

-- This step is a `fall`.
abbrev pub IsFall : SimpleCommand → Type 0
IsFall (assign target e) = ⊥
IsFall (write target index e) = ⊥
IsFall (set_tag place target tag) = ⊥
IsFall (set_cell_tag place target index tag) = ⊥
IsFall (go_to place target) = ⊥
IsFall (fall_to_child place) = Unit {0}

-- A path through a command up to a `fall` that enters a child: the simple command itself, or one in a block of the
-- command. A simple command before that block is on the path too; if it is a `fall`, it has entered no child.
abbrev mutual
  pub UpToFall : Command → Path → Type 0
  UpToFall (lone k) path = IsFall k × (path ≡ k ∷ [])
  UpToFall (try k place handler) path =
      (IsFall k × (path ≡ k ∷ [])) ⊎ ((handled : Path) × UpToFallBlock handler handled × (path ≡ k ∷ handled))
  UpToFall (if_else place condition then_block else_block) path =
      UpToFallBlock then_block path ⊎ UpToFallElse else_block path
  UpToFall (try_then k place accepted refused) path =
      (IsFall k × (path ≡ k ∷ []))
      ⊎ (((behind : Path) × UpToFallBlock accepted behind × (path ≡ k ∷ behind))
      ⊎ ((behind : Path) × UpToFallBlock refused behind × (path ≡ k ∷ behind)))
  UpToFall (case_of place e arms) path = UpToFallArms arms path

  pub UpToFallBlock : CommandBlock → Path → Type 0
  UpToFallBlock (command_block cs after) path = UpToFallList cs path

  pub UpToFallElse : ElseBlock → Path → Type 0
  UpToFallElse no_else path = ⊥
  UpToFallElse (with_else b) path = UpToFallBlock b path

  pub UpToFallArms : Arms → Path → Type 0
  UpToFallArms (last_arm b) path = UpToFallBlock b path
  UpToFallArms (and_arm constants b arms) path = UpToFallBlock b path ⊎ UpToFallArms arms path

  -- The path ends in the first command, or leads through it and ends in one of the others.
  pub UpToFallList : CommandList → Path → Type 0
  UpToFallList no_command path = ⊥
  UpToFallList (and_command c cs) path =
      UpToFall c path ⊎ ((first : Path) × (rest : Path) × Through c first × UpToFallList cs rest
      × (path ≡ first ++ rest))

-- A path of one cycle from a state on: through its body, or up to a `fall` in it and on through a child.
abbrev mutual
  pub FromState : StateTree → Path → Type 0
  FromState (state_node place name kind body children) path =
      ThroughBlock body path ⊎ ((above : Path) × (below : Path) × UpToFallBlock body above
      × FromAny children below × (path ≡ above ++ below))

  pub FromAny : StateList → Path → Type 0
  FromAny no_state path = ⊥
  FromAny (and_state s rest) path = FromState s path ⊎ FromAny rest path

-- A path of a design begins with any top-level state.
abbrev pub IsPath : DesignTree → Path → Type 0
IsPath d path = FromAny d.states path

-- The command is a write or a `setTag` of a cell of this memory.
abbrev pub IsOfMemory : SimpleCommand → List ℕ → Type 0
IsOfMemory (assign target e) memory = ⊥
IsOfMemory (write target index e) memory = target.name ≡ memory
IsOfMemory (set_tag place target tag) memory = ⊥
IsOfMemory (set_cell_tag place target index tag) memory = target.name ≡ memory
IsOfMemory (go_to place target) memory = ⊥
IsOfMemory (fall_to_child place) memory = ⊥

-- Some path comes to the command `again` after another one, `first`, of the same memory.
pub record WritesAgain (d : DesignTree) (again : SimpleCommand) : Type 0 where
  pub before : Path
  pub first : SimpleCommand
  pub between : Path
  pub after : Path
  pub path : IsPath d (before ++ first ∷ (between ++ again ∷ after))
  pub memory : List ℕ
  pub one : IsOfMemory first memory
  pub other : IsOfMemory again memory

-- `place_of` is the place of a command's first token.
abbrev pub place_of : SimpleCommand → Place
place_of (assign target e) = target.place
place_of (write target index e) = target.place
place_of (set_tag place target tag) = place
place_of (set_cell_tag place target index tag) = place
place_of (go_to place target) = place
place_of (fall_to_child place) = place

-- The fault of a second write at a place.
abbrev pub twice_at : Place → Fault
twice_at p = record { code = E14; place = p }

-- E14 is at the first token of a command that some path comes to after another one of the same memory.
abbrev pub PathFault : DesignTree → Fault → Type 0
PathFault d f = (again : SimpleCommand) × WritesAgain d again × (f ≡ twice_at (place_of again))

-- Two designs of four lines of text:
--     mem m : 8[4] dynamic;
--     state P enforced low {
--     goto P;
--     state C enforced low { m[0] := 1; m[1] := 2; goto C; } }
-- and, with other lines 3 and 4,
--     m[0] := 1; fall otherwise { m[1] := 2; goto P; }
--     state C enforced low { goto C; } }

-- The text `m[index] := value`.
abbrev pub put : (line column index value : ℕ) → SimpleCommand
put l c index value = write (mention (on l c) (codes "m")) (literal (spot (on l (c + 2))) index)
    (literal (spot (on l (c + 8))) value)

-- A `goto` at a place, for examples.
abbrev pub goto : (line column : ℕ) → (target : List ℕ) → SimpleCommand
goto l c target = go_to (on l c) (mention (on l (c + 5)) target)

-- The kind `enforced low` at a place, for examples.
abbrev pub low : Place → Kind
low p = Enforced (mention p (codes "low")) None

-- A design with one memory, a state and its child, with these two bodies.
abbrev pub two_states : (parent child : CommandBlock) → DesignTree
two_states parent child = record {
  version = One;
  declarations = Memory (on 1 1) (mention (on 1 5) (codes "m")) (numeral_at (on 1 9) 8)
      (numeral_at (on 1 11) 4) (Dynamic (on 1 14)) ∷ [];
  states = and_state (state_node (on 2 1) (mention (on 2 7) (codes "P")) (low (on 2 18)) parent
      (and_state (state_node (on 4 1) (mention (on 4 7) (codes "C")) (low (on 4 18)) child no_state) no_state))
      no_state;
}

-- The state doesn't fall, and the child's body writes the memory twice.
abbrev pub without_fall : DesignTree
without_fall = two_states
    (command_block (and_command (lone (goto 3 1 (codes "P"))) no_command) (on 4 1))
    (command_block (and_command (lone (put 4 24 0 1))
    (and_command (lone (put 4 35 1 2)) (and_command (lone (goto 4 46 (codes "C"))) no_command))) (on 4 54))

-- The state writes the memory, falls, and writes it again in the handler of the `fall`.
abbrev pub with_handler : DesignTree
with_handler = two_states
    (command_block (and_command (lone (put 3 1 0 1)) (and_command (try (fall_to_child (on 3 12)) (on 3 17)
    (command_block (and_command (lone (put 3 29 1 2)) (and_command (lone (goto 3 40 (codes "P"))) no_command))
    (on 3 48))) no_command)) (on 4 1))
    (command_block (and_command (lone (goto 4 24 (codes "C"))) no_command) (on 4 32))

-- In the first no path enters C, so E14 stands nowhere.
abbrev pub NoneWithoutFall : Type 0
NoneWithoutFall = (f : Fault) → PathFault without_fall f → ⊥

-- In the second it stands at the write in the handler, and nowhere else.
abbrev pub OneInHandler : Type 0
OneInHandler = (f : Fault) → (PathFault with_handler f → f ≡ twice_at (on 3 29))
    × (f ≡ twice_at (on 3 29) → PathFault with_handler f)
