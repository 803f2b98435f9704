-- The text of an `asm` as a stream: what the rules of streams read in it for the machine's design, and the words that
-- this brings the machine.
use Rattle.std.specs.Prelude.{◌≡◌, ℕ, ◌+◌, ◌*◌, ◌<◌, List, All, length, None, Ok}
use Rattle.sap_lattice.specs.Diamond.{diamond}
use Rattle.sap_meaning.specs.Cycle.{Tagged}
use Rattle.sap_meaning.specs.State.{StreamFits}
use Rattle.sap_stream.specs.Spans.{IsCount}
use Rattle.sap_sim.specs.Labelled.RunOf.{read_for}
use Rattle.sap_machine.specs.declared.user.User.{User}
use Rattle.sap_machine.specs.declared.user.User.TheVariants.{A, B}
use Rattle.sap_machine.specs.Assembly.{assembled}
use Rattle.sap_machine.specs.Design.{machine_design}
use Rattle.sap_machine.specs.Laws.{word}
use Rattle.sap_machine.specs.Machine.{machine}
use Rattle.sap_machine.specs.Text.{asm_text, stimulus_text}
use Rattle.sap_cpu.specs.Views.{word_at}

-- The words of a program are sixteen, of twelve bits each.
pub record AreWords (words : List ℕ) : Type 0 where
  pub sixteen : length words ≡ 16
  pub twelve_bits : All (λ x. x < 4096) words

-- For the machine's design over the four levels no line of the text is refused, and its lines give this stream.
abbrev pub IsReadAs : (text : List ℕ) → (stream : List (List Tagged)) → Type 0
IsReadAs text stream = read_for diamond machine_design text ≡ record { stream = stream; fault = None }

-- The stream brings a user these words and no other: by the levels at which they come the machine takes them.
abbrev pub BringsWords : User → (words : List ℕ) → (stream : List (List Tagged)) → Type 0
BringsWords u words stream = (i : ℕ) → word machine.world u stream i ≡ word_at words i

-- The stream has 17 cycles and six more for each slice, fits the machine's inputs, and brings both users their words.
pub record BringsPrograms (a b : List ℕ) (slices : ℕ) (stream : List (List Tagged)) : Type 0 where
  pub cycles : length stream ≡ 17 + 6 * slices
  pub fits : StreamFits machine.world stream
  pub words_of_a : BringsWords A a stream
  pub words_of_b : BringsWords B b stream

-- The stimulus of two programs is read as such a stream, if its last line can stand for so many cycles.
abbrev pub StimulusBringsPrograms : Type 0
StimulusBringsPrograms = (a b : List ℕ) (slices : ℕ) → AreWords a → AreWords b → IsCount (1 + 6 * slices)
    → (stream : List (List Tagged)) × IsReadAs (stimulus_text a b slices) stream × BringsPrograms a b slices stream

-- So is the text that `asm` gives of two texts in assembly, and it brings the words that these stand for.
abbrev pub AsmBringsPrograms : Type 0
AsmBringsPrograms = (first second text : List ℕ) (slices : ℕ) → asm_text first second slices ≡ Ok text
    → IsCount (1 + 6 * slices)
    → (a : List ℕ) × (b : List ℕ) × (stream : List (List Tagged))
    × (assembled first ≡ Ok a) × (assembled second ≡ Ok b) × IsReadAs text stream × BringsPrograms a b slices stream
