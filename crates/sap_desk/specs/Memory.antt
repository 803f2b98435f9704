-- What the files and channels that a desk in memory keeps tell of it.
use Rattle.std.specs.Prelude.{◌≡◌, ℕ, ◌<◌, ◌≤◌, Bool, List, [], cond, eqb, bytes_eq, codes, find, length, string_bytes, Option, option_map}
use Rattle.sap_desk.specs.Desk.{Use, closed, reads, writes, stream, Told, placed}
use Rattle.sap_desk.specs.declared.stored.StoredFile.{StoredFile}
use Rattle.sap_desk.specs.declared.stored.Channel.{Channel}
use Rattle.sap_desk.specs.declared.stored.State.{State}
use Rattle.sap_desk.specs.declared.stored.State.TheVariants.{Closed, Reading, Writing, Stream}
use Rattle.sap_desk.specs.declared.stored.Blame.{Blame}
use Rattle.sap_desk.specs.declared.stored.Blame.TheVariants.{Nothing, Output, FileOf, File}

-- A file bears a name.
abbrev pub named : List ℕ → StoredFile → Bool
named name f = bytes_eq (string_bytes f.name) name

-- The file of a name.
abbrev pub file_named : List StoredFile → List ℕ → Option StoredFile
file_named files name = find (named name) files

-- The bytes of the file of a name.
abbrev pub files_of : List StoredFile → List ℕ → Option (List ℕ)
files_of files = λ name. option_map (λ f. f.bytes.items) (file_named files name)

-- What a channel in a state is open for, where its file has this name.
abbrev pub use_of : State → List ℕ → Use
use_of Closed name = closed
use_of (Reading asked position) name = reads name asked position
use_of Writing name = writes name
use_of Stream name = stream

-- What a channel is open for.
abbrev pub use_at : Channel → Use
use_at c = use_of c.state (string_bytes c.name)

-- What the channels are open for, by their numbers.
abbrev pub uses_of : List Channel → ℕ → Use
uses_of = placed use_at closed

-- What was written on them.
abbrev pub written_of : List Channel → ℕ → List ℕ
written_of = placed (λ c. c.written.items) []

-- How many bytes their reads gave.
abbrev pub given_of : List Channel → ℕ → ℕ
given_of = placed (λ c. c.given) 0

-- The names of their files.
abbrev pub names_of : List Channel → ℕ → List ℕ
names_of = placed (λ c. string_bytes c.name) []

-- What files and channels tell, with a name that is blamed.
abbrev pub told_of : List StoredFile → List Channel → ℕ → List ℕ → Told
told_of files channels room blame = record {
  files = files_of files;
  uses = uses_of channels;
  written = written_of channels;
  blame = blame;
  room = room;
}

-- The name that is blamed.
abbrev pub blame_of : List Channel → Blame → List ℕ
blame_of channels Nothing = []
blame_of channels Output = codes "output"
blame_of channels (FileOf k) = names_of channels k
blame_of channels (File name) = string_bytes name

-- The name that is blamed once a call on a channel failed: nobody's on channel 2, and the output on channel 1.
abbrev pub blame_after : ℕ → List ℕ → List ℕ → List ℕ
blame_after channel name before = cond (eqb channel 2) before (cond (eqb channel 1) (codes "output") name)

-- A blamed channel is one of the first `count`.
abbrev pub BlameStands : Blame → ℕ → Type 0
BlameStands blame count = (k : ℕ) → blame ≡ FileOf k → k < count

-- The old channels keep their names.
pub record KeepsNames (old new : List Channel) : Type 0 where
  pub names : (k : ℕ) → k < length old → names_of new k ≡ names_of old k
  pub more : length old ≤ length new
