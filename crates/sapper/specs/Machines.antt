-- The machine. A `machine` writes the canonical text of its design. An `asm` and a `cpu` write what the texts of two
-- assembly files give, or are refused by the line that these give. A `run` on the texts of `machine` and `asm` ends
-- with what `cpu` prints.
use Rattle.std.specs.Prelude.{◌≡◌, ◌≢◌, ℕ, ◌+◌, ◌*◌, List, ◌++◌, Some, Result, Ok, Err}
use Rattle.sap_desk.specs.Desk.{Told}
use Rattle.sap_desk.specs.Whole.{Gained}
use Rattle.sap_lattice.specs.Diamond.{diamond}
use Rattle.sap_show.specs.Canonical.{canonical_text}
use Rattle.sap_stream.specs.Spans.{IsCount}
use Rattle.sap_machine.specs.Design.{machine_design}
use Rattle.sap_machine.specs.Text.{asm_text, cpu_text}
use Rattle.sap_cpu.specs.Ends.{EndsAsPrinted}
use Rattle.sap_words.specs.Words.{command_of, run, machine, asm, cpu}
use Rattle.sap_files.specs.Ending.{line}
use Rattle.sap_files.specs.Contents.{Has, IsLatticeFile}

-- A `machine` writes the text of its design, unless a call on the desk fails (6) or memory runs out (7).
pub record WritesMachine (answer : ℕ) (t n : Told) : Type 0 where
  pub only : answer ≡ 0 → n.written 1 ≡ t.written 1 ++ canonical_text machine_design
  pub always : answer ≢ 6 → answer ≢ 7 → answer ≡ 0

-- A command gives a text of two files, or the text of its refusal.
pub record GivesOfBoth (given : (x y : List ℕ) → Result (List ℕ) (List ℕ)) (first second : List ℕ)
    (lost lost_now answer : ℕ) (t n : Told) : Type 0 where
  -- If it is done, both files are there, and standard output gained what they give.
  pub only : answer ≡ 0
      → (x : List ℕ) × (y : List ℕ) × (text : List ℕ) × (t.files first ≡ Some x)
      × (t.files second ≡ Some y) × (given x y ≡ Ok text) × (n.written 1 ≡ t.written 1 ++ text)
  -- If they are there and give a text, it is done, unless one of these two comes.
  pub always : (x y text : List ℕ) → t.files first ≡ Some x → t.files second ≡ Some y
      → given x y ≡ Ok text → answer ≢ 6 → answer ≢ 7 → answer ≡ 0
  -- If they give a refusal, that is reported (11).
  pub refuses : (x y why : List ℕ) → t.files first ≡ Some x → t.files second ≡ Some y
      → given x y ≡ Err why → answer ≢ 6 → answer ≢ 7
      → (answer ≡ 11) × Gained (line why) lost lost_now t n

-- The files of a `run` are a lattice of the four levels, the design that `machine` writes, and the stimulus that `asm`
-- writes of two texts for some slices.
pub record AreForMachine (lattice design stimulus : List ℕ) (t : Told) (x y : List ℕ) (slices : ℕ) : Type 0 where
  pub levels : Has t lattice IsLatticeFile diamond
  pub machine : t.files design ≡ Some (canonical_text machine_design)
  pub text : List ℕ
  pub of_asm : asm_text x y slices ≡ Ok text
  pub file : t.files stimulus ≡ Some text
  -- A line of a stimulus can stand for so many cycles.
  pub count : IsCount (1 + 6 * slices)

-- Which answer a `run` on the files of the machine gives: `t` is what the desk reports before the call, and `n` after
-- it.
pub record RunsMachine (lattice design stimulus : List ℕ) (answer : ℕ) (t n : Told) : Type 0 where
  -- If it is done, standard output gained rows that end with what `cpu` prints of the same texts after as many
  -- slices.
  pub only : answer ≡ 0 → (x y : List ℕ) (slices : ℕ) → AreForMachine lattice design stimulus t x y slices
      → (rows : List ℕ) × (n.written 1 ≡ t.written 1 ++ rows) × EndsAsPrinted x y slices rows
  -- It is done, unless a call on the desk fails (6) or memory runs out (7).
  pub always : (x y : List ℕ) (slices : ℕ) → AreForMachine lattice design stimulus t x y slices
      → answer ≢ 6 → answer ≢ 7 → answer ≡ 0

-- If the arguments are those of `machine`, `asm`, `cpu` or `run`, that command keeps its promise on the machine.
pub record Machines (words : List (List ℕ)) (lost lost_now answer : ℕ) (t n : Told) : Type 0 where
  pub design : command_of words ≡ Some machine → WritesMachine answer t n
  pub stimulus : (first second : List ℕ) (slices : ℕ) → command_of words ≡ Some (asm first second slices)
      → GivesOfBoth (λ x y. asm_text x y slices) first second lost lost_now answer t n
  pub users : (first second : List ℕ) (slices : ℕ) → command_of words ≡ Some (cpu first second slices)
      → GivesOfBoth (λ x y. cpu_text x y slices) first second lost lost_now answer t n
  pub runs : (lattice design stimulus : List ℕ) → command_of words ≡ Some (run lattice design stimulus)
      → RunsMachine lattice design stimulus answer t n
