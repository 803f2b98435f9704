-- What may be asked of the program beside its commands.
use Rattle.std.specs.Prelude.{◌≡◌, ◌≤◌, ◌⊎◌, ◌||◌, ℕ, Bool, false, not, List, [], ◌∷◌, ◌++◌, take, length, bytes_eq, codes, Option, Some, None, option_map, if◌then◌else◌, nat_eq}
use Rattle.sap_desk.specs.Desk.{Told, added}
use Rattle.sap_help.specs.Codes.{is_code, IsTextOf}
use Rattle.sap_help.specs.declared.asking.Question.{Question}
use Rattle.sap_help.specs.declared.asking.Question.TheVariants.{Help, Version, Explanation}

-- What `--help`, `--version` and `--explain` ask for.
pub data Asked : Type 0 where
  help : Asked
  version : Asked
  explanation : (code : List ℕ) → Asked

-- The word asks for the help.
abbrev pub is_help : (word : List ℕ) → Bool
is_help word = bytes_eq word (codes "--help") || (bytes_eq word (codes "-h") || bytes_eq word (codes "help"))

-- What is asked by words: `--help` and `--version` as the only word, and `--explain CODE`.
abbrev pub asked_by : List (List ℕ) → Option Asked
asked_by (word ∷ []) =
    if is_help word then Some help
    else (if bytes_eq word (codes "--version") then Some version else None)
asked_by (word ∷ code ∷ []) = if bytes_eq word (codes "--explain") then Some (explanation code) else None
asked_by _ = None

-- The word behind --explain is no code.
abbrev pub is_unknown : Asked → Bool
is_unknown help = false
is_unknown version = false
is_unknown (explanation code) = not (is_code code)

-- The question, as the definitions have it.
abbrev pub asked_of : Question → Asked
asked_of Help = help
asked_of Version = version
asked_of (Explanation code) = explanation code.now

-- The text is one that is asked for: the name and number of the version, or the text of the code.
abbrev pub IsAnswer : Asked → (text : List ℕ) → Type 0
IsAnswer help text = Unit {0}
IsAnswer version text = text ≡ codes "sapper 0.1.0\n"
IsAnswer (explanation code) text = IsTextOf code text

-- Channel 1 has such a text more, and nothing else changed.
pub record IsAnswered (asked : Asked) (before after : Option Told) : Type 0 where
  pub text : List ℕ
  pub is_answer : IsAnswer asked text
  pub told : after ≡ option_map (added 1 text) before

-- The status of an answer: done; no code; a write on channel 1 failed; want of memory.
abbrev pub IsStatus : ℕ → Type 0
IsStatus status = (status ≡ 0) ⊎ ((status ≡ 2) ⊎ ((status ≡ 6) ⊎ (status ≡ 7)))

-- What an answer with a status writes on channel 2: nothing where it is done, and else one line.
abbrev pub line_at : (status : ℕ) → List ℕ
line_at status =
    if nat_eq status 2 then codes "words\n"
    else (if nat_eq status 6 then codes "desk: output\n"
    else (if nat_eq status 7 then codes "memory\n" else []))

-- Files, what is open, whom a failed call blames and channel 1 are as before.
pub record Untouched (t n : Told) : Type 0 where
  pub files : n.files ≡ t.files
  pub uses : n.uses ≡ t.uses
  pub blame : n.blame ≡ t.blame
  pub output : n.written 1 ≡ t.written 1

-- Files and what is open are as before, the output is blamed, and channel 1 has a part more of a text that is asked
-- for, from its first byte on.
pub record IsCutOff (asked : Asked) (t n : Told) : Type 0 where
  pub text : List ℕ
  pub is_answer : IsAnswer asked text
  pub files : n.files ≡ t.files
  pub uses : n.uses ≡ t.uses
  pub blame : n.blame ≡ codes "output"
  pub count : ℕ
  pub within : count ≤ length text
  pub output : n.written 1 ≡ t.written 1 ++ take count text
