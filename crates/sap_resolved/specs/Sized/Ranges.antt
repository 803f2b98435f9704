-- Programs in which every width is from 1 to 64, each slice is within what it is taken from, and each memory has a
-- depth that memories can have.
use Rattle.std.specs.Prelude.{◌≡◌, ℕ, ◌+◌, ◌<◌, ◌≤◌, true, false}
pub use Rattle.sap_maps.specs.Ranges.{IsDepth, IsWidth}
use Rattle.sap_maps.specs.Term.{Term, constant, read, cell, one, two, choose, join, part}
use Rattle.sap_meaning.specs.Program.{World, Program, width, is_memory, is_state, LevelTerm, Step, assign, write, retag, retag_cell, go_to, fall_to_child, Command, Arms, Block, State, Group}
use Rattle.sap_meaning.specs.Walks.{EveryLevel, Every, EveryInArms, EveryInBlock, Asks, EveryBody, EveryBodyIn}
use Rattle.sap_meaning.specs.Expressions.{width_of}
use Rattle.sap_meaning.specs.Sized.{depth}

-- The widths of a term and of all its parts, those of indexes included, are from 1 to 64, and each slice is within what
-- it is taken from.
abbrev pub RangedTerm : World → Term ℕ → Type 0
RangedTerm w (constant u n) = IsWidth u
RangedTerm w (read x) = IsWidth (width w x)
RangedTerm w (cell m i) = IsWidth (width w m) × RangedTerm w i
RangedTerm w (one op a) = RangedTerm w a
RangedTerm w (two op a b) = RangedTerm w a × RangedTerm w b
RangedTerm w (choose c a b) = RangedTerm w c × RangedTerm w a × RangedTerm w b
RangedTerm w (join a b) = IsWidth (width_of w a + width_of w b) × RangedTerm w a × RangedTerm w b
RangedTerm w (part a hi lo) = (lo ≤ hi) × (hi < width_of w a) × RangedTerm w a

-- In a tag expression each expression has such widths and slices.
abbrev pub RangedLevel : World → LevelTerm → Type 0
RangedLevel w n = EveryLevel (λ level. Unit {0}) (RangedTerm w) n

-- In a step each expression has such widths and slices.
abbrev pub RangedStep : World → Step → Type 0
RangedStep w (assign site x e) = RangedTerm w e
RangedStep w (write site m i e) = RangedTerm w i × RangedTerm w e
RangedStep w (retag site x n) = RangedLevel w n
RangedStep w (retag_cell site m j n) = RangedTerm w j × RangedLevel w n
RangedStep w (go_to site target) = Unit {0}
RangedStep w (fall_to_child site hang) = Unit {0}

-- In a command, and in all commands in it, each expression has such widths and slices.
abbrev pub Ranged : World → Command → Type 0
Ranged w c = Every (Asks (RangedStep w) (RangedTerm w)) c

-- In the arms of a `case` each expression has such widths and slices.
abbrev pub RangedArms : World → Arms → Type 0
RangedArms w arms = EveryInArms (Asks (RangedStep w) (RangedTerm w)) arms

-- In a block each expression has such widths and slices.
abbrev pub RangedBlock : World → Block → Type 0
RangedBlock w b = EveryInBlock (Asks (RangedStep w) (RangedTerm w)) b

-- In a state's body, and in those of its descendants, each expression has such widths and slices.
abbrev pub RangedState : World → State → Type 0
RangedState w t = EveryBody (RangedBlock w) t

-- In the bodies of a group's states and of their descendants each expression has such widths and slices.
abbrev pub RangedGroup : World → Group → Type 0
RangedGroup w g = EveryBodyIn (RangedBlock w) g

-- Each expression of the program has widths from 1 to 64 and slices within their operands. Each entity but a state has
-- a width from 1 to 64, and each memory a depth that memories can have.
pub record RangedProgram (p : Program) : Type 0 where
  pub states : RangedGroup p.world p.states
  pub widths : (x : ℕ) → is_state p.world x ≡ false → IsWidth (width p.world x)
  pub depths : (m : ℕ) → is_memory p.world m ≡ true → (b : ℕ) × IsDepth (depth p.world m) b
