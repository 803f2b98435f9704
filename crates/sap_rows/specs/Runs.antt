-- How a row is run: as it stands, and again where calls on the desk fail in turn, or where a file is cut.
use Rattle.std.specs.Prelude.{ℕ, ◌+◌, ◌==◌, List, [], ◌∷◌, length, take, Bool, false, if◌then◌else◌, Option, Some, None, string_bytes, string_len, find}
use Rattle.std.specs.Option.{option_map, unwrap_or}
use Rattle.std.specs.Str.{bytes_eq}
use Rattle.sap_rows.specs.declared.runs.Circumstance.{Circumstance}
use Rattle.sap_rows.specs.declared.runs.Circumstance.TheVariants.{AsItStands, Failing, CutAt}
use Rattle.sap_rows.specs.declared.table.Cut.{Cut}
use Rattle.sap_rows.specs.declared.table.File.{File}
use Rattle.sap_rows.specs.declared.table.Step.{Step}

-- A file has this name.
abbrev pub has_name : List ℕ → File → Bool
has_name name file = bytes_eq (string_bytes file.name) name

-- The bytes of the first file with a name.
abbrev pub bytes_of : List File → List ℕ → Option (List ℕ)
bytes_of files name = option_map (λ f. f.bytes.items) (find (has_name name) files)

-- Whether a file is the one that is cut.
abbrev pub cuts : Option Cut → File → Bool
cuts None file = false
cuts (Some cut) file = has_name (string_bytes cut.file) file

-- The bytes of the file that is cut, where it is put; else none.
abbrev pub cut_bytes : Step → List ℕ
cut_bytes step = of step.cut where
  of : Option Cut → List ℕ
  of None = []
  of (Some cut) = unwrap_or (bytes_of step.files.items (string_bytes cut.file)) []

-- The bytes of a file that are put.
abbrev pub put_bytes : Step → File → Circumstance → List ℕ
put_bytes step file AsItStands = file.bytes.items
put_bytes step file (Failing call) = file.bytes.items
put_bytes step file (CutAt len) = if cuts step.cut file then take len file.bytes.items else file.bytes.items

-- How many further runs a row has: where the calls on the desk fail in turn, one for each of them and one with a call
-- failing that is never made; else one for each length at which its file is cut.
abbrev pub further : List Step → ℕ
further [] = 0
further (step ∷ steps) = if string_len step.turns == 0 then length (cut_bytes step) else string_len step.turns + 1

-- How the further run of a number, from 0, is made.
abbrev pub further_at : List Step → (number : ℕ) → Circumstance
further_at [] number = CutAt number
further_at (step ∷ steps) number = if string_len step.turns == 0 then CutAt number else Failing (number + 1)
