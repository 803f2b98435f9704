-- What a whole call answers, and what stands after it.
use Rattle.std.specs.Prelude.{◌≡◌, ◌⊎◌, ℕ, List, ◌++◌}
use Rattle.sap_desk.specs.Desk.{Told}
use Rattle.sap_desk.specs.Whole.{Gained}
use Rattle.sap_files.specs.Ending.{Ending, status_of, line_of, IsFree}
use Rattle.sap_files.specs.Asks.{Cause, Leaves, MayEnd, Output}
use Rattle.sap_commands.specs.Commands.{asks_for}
use Rattle.sap_files.specs.After.{Blames, Stands}

-- A call has some ending, with its status and its line, and leaves what that ending leaves.
pub record Answers (words : List (List ℕ)) (lost lost_now answer : ℕ) (t n : Told) : Type 0 where
  pub ending : Ending
  pub status : answer ≡ status_of ending
  pub line : Gained (line_of ending) lost lost_now t n
  pub leaves : Leaves (asks_for words) t n.files ending
  -- This was written on standard output.
  pub gained : List ℕ
  pub output : n.written 1 ≡ t.written 1 ++ gained
  pub shows : Output (asks_for words) t gained ending
  pub blames : Blames t.blame n.blame ending
  pub stands : Stands (asks_for words) t ending gained t.uses n.uses
  -- A channel takes as much as before.
  pub room : n.room ≡ t.room
  -- Unless a call failed or memory ran out, the arguments and files have the ending's cause.
  pub cause : IsFree ending ⊎ Cause (asks_for words) t ending

-- On every desk, also one that reports no contents, an answer other than 6 and 7 is one to which the arguments can
-- lead.
pub record MayAnswer (words : List (List ℕ)) (answer : ℕ) : Type 0 where
  pub ending : Ending
  pub status : answer ≡ status_of ending
  pub may : IsFree ending ⊎ MayEnd (asks_for words) ending
