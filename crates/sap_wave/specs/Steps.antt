-- What is read of one line after another, as a reader holds it.
use Rattle.std.specs.Prelude.{◌≡◌, ◌+◌, ◌<◌, ◌≤◌, ℕ, List, length, set, Some, Result, Ok, Err}
use Rattle.sap_net.specs.NameMaps.{Indexes}
use Rattle.sap_wave.specs.declared.state.Block.{Block}
use Rattle.sap_wave.specs.declared.state.State.{State as Held}
use Rattle.sap_wave.specs.declared.state.State.TheVariants as held
use Rattle.sap_wave.specs.declared.state.Stop.{Stop}
use Rattle.sap_wave.specs.declared.state.Stop.TheVariants.{Code, Memory}
use Rattle.sap_text.specs.Lines.{Line}
use Rattle.sap_wave.specs.Lines.{ended, Form, IsLine}
use Rattle.sap_wave.specs.declared.variable.Variable.{Variable}
use Rattle.sap_wave.specs.Digits.{identifier}
use Rattle.sap_wave.specs.Waves.{names_of}
use Rattle.sap_wave.specs.BlockLists.{blocks_in}
use Rattle.sap_wave.specs.Numbers.{now_of}
use Rattle.sap_wave.specs.Reading.{OpenBlock, State, before_timescale, before_scope, declaring, before_end, before_blocks, in_block, width_at, Takes, after}
use Rattle.sap_wave.specs.Faults.{IsLeast, IsWrong, Stands}

-- The open block that a stored one stands for.
abbrev pub open_of : Block → OpenBlock
open_of b = record { before = blocks_in b.before; now = now_of b.numbers; next = b.next }

-- Where the reader is, as the definitions have it.
abbrev pub state_of : Held → State
state_of held.BeforeTimescale = before_timescale
state_of held.BeforeScope = before_scope
state_of (held.Declaring xs places) = declaring xs.items
state_of (held.BeforeEnd xs) = before_end xs.items
state_of (held.BeforeBlocks xs) = before_blocks xs.items
state_of (held.InBlock xs b) = in_block xs.items (open_of b)

-- The variables are at their places by their names.
abbrev pub IsIndexed : Held → Type 0
IsIndexed held.BeforeTimescale = Unit {0}
IsIndexed held.BeforeScope = Unit {0}
IsIndexed (held.Declaring xs places) = Indexes places (names_of xs.items)
IsIndexed (held.BeforeEnd xs) = Unit {0}
IsIndexed (held.BeforeBlocks xs) = Unit {0}
IsIndexed (held.InBlock xs b) = Unit {0}

-- The line can come next, and then this was read.
pub record Reaches (s : State) (l : Line) (t : State) : Type 0 where
  pub form : Form
  pub is_line : IsLine l form
  pub takes : Takes s form
  pub reached : t ≡ after s form

-- What is read of a line with an LF.
abbrev pub LineRead : State → (text : List ℕ) → Result Held Stop → Type 0
LineRead s text (Ok t) = Reaches s (ended text) (state_of t) × IsIndexed t
LineRead s text (Err (Code code)) = IsLeast (Stands s (ended text)) code
LineRead s text (Err Memory) = Unit {0}

-- What is read of a line of a form for its position.
abbrev pub FormRead : State → Form → Result Held Stop → Type 0
FormRead s f (Ok t) = Takes s f × (state_of t ≡ after s f) × IsIndexed t
FormRead s f (Err (Code code)) = IsLeast (IsWrong s f) code
FormRead s f (Err Memory) = Unit {0}

-- A change is of the variable k, which comes behind those that changed, and has as many digits as its width.
pub record IsPlaced (xs : List Variable) (o : OpenBlock) (digits id : List ℕ) (k : ℕ) : Type 0 where
  pub within : k < length xs
  pub is : id ≡ identifier k
  pub later : o.next ≤ k
  pub sized : length digits ≡ width_at xs k

-- Variable k has this number, and the next can change.
abbrev pub with_number : OpenBlock → (k number : ℕ) → OpenBlock
with_number o k number = record { before = o.before; now = set o.now k (Some number); next = k + 1 }
