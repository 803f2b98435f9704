-- Waves. A `wave` writes a text that has exactly one reading, and that is the numbers of the module's run on the
-- stimulus, first the initial ones. An `unwave` writes the rows of the one reading of a dump; of the dump of a
-- module's run they are what `sim` writes of the same stimulus.
use Rattle.std.specs.Prelude.{◌≡◌, ◌≢◌, ℕ, List, ◌++◌, codes, Some}
use Rattle.sap_text.specs.Places.{line}
use Rattle.sap_desk.specs.Desk.{Told}
use Rattle.sap_desk.specs.Whole.{Gained}
use Rattle.sap_lattice.specs.Levels.{Levels}
use Rattle.sap_maps.specs.Maps.{Valuation}
use Rattle.sap_meaning.specs.Cycle.{Tagged}
use Rattle.sap_net.specs.Net.{Net}
use Rattle.sap_vtext.specs.Modules.{IsModule}
use Rattle.sap_sim.specs.Numbers.{numbers_of}
use Rattle.sap_sim.specs.Stepped.{IsRunOn}
use Rattle.sap_wave.specs.declared.fault.WaveCode.{WaveCode}
use Rattle.sap_wave.specs.declared.fault.WaveFault.TheVariants.{Rule}
use Rattle.sap_wave.specs.Dumps.{IsReading}
use Rattle.sap_wave.specs.FaultTexts.{wave_text}
use Rattle.sap_wave.specs.Faults.{IsFault}
use Rattle.sap_wave.specs.Runs.{run_wave}
use Rattle.sap_wave.specs.Waves.{Wave}
use Rattle.sap_wave_rows.specs.Rows.{rows_of_wave}
use Rattle.sap_words.specs.Words.{command_of, wave, unwave}
use Rattle.sap_files.specs.Contents.{Has, IsLatticeFile}
use Rattle.sap_files.specs.StimulusTexts.{AreModuleRows, IsModuleStream}

-- A text tells a module's run on a stream: by the grammar of dumps it is read as the numbers of the run, first the
-- initial ones, and as nothing else.
pub record TellsRun (ls : Levels) (net : Net) (stream : List (List Tagged)) (text : List ℕ) : Type 0 where
  pub run : List Valuation
  pub is_run : IsRunOn net (numbers_of ls net) stream run
  pub reads : IsReading text (run_wave net run)
  pub no_other : (other : Wave) → IsReading text other → other ≡ run_wave net run

-- The three files of a `wave` are a lattice, a module, and a stimulus for it whose every line is taken.
pub record AreForRun (lattice verilog stimulus : List ℕ) (t : Told) (ls : Levels) (net : Net)
    (stream : List (List Tagged)) : Type 0 where
  pub levels : Has t lattice IsLatticeFile ls
  pub is_module : Has t verilog IsModule net
  pub lines : Has t stimulus (IsModuleStream ls net) stream

-- Which answer a `wave` gives, by its files: `t` is what the desk reports before the call, and `n` after it.
pub record WavesExactly (lattice verilog stimulus out : List ℕ) (answer : ℕ) (t n : Told) : Type 0 where
  -- If it is done, the files are such, and what is written tells the run.
  pub only : answer ≡ 0
      → (ls : Levels) × (net : Net) × (stream : List (List Tagged)) × AreForRun lattice verilog stimulus t ls net stream
      × ((text : List ℕ) × (n.files out ≡ Some text) × TellsRun ls net stream text)
  -- If they are such, it is done, unless a call on the desk fails (6) or memory runs out (7).
  pub always : (ls : Levels) (net : Net) (stream : List (List Tagged))
      → AreForRun lattice verilog stimulus t ls net stream → answer ≢ 6 → answer ≢ 7 → answer ≡ 0
  -- If VERILOG is no module, it is refused as one (5), unless one of these two comes.
  pub no_module : (ls : Levels) (text : List ℕ) → Has t lattice IsLatticeFile ls
      → t.files verilog ≡ Some text → ((net : Net) → ¬ (IsModule text net))
      → answer ≢ 6 → answer ≢ 7 → answer ≡ 5
  -- If a line of STIM is refused, that is as a stimulus (4).
  pub no_stimulus : (ls : Levels) (net : Net) (bytes : List ℕ) → Has t lattice IsLatticeFile ls
      → Has t verilog IsModule net → t.files stimulus ≡ Some bytes
      → ((stream : List (List Tagged)) → ¬ (IsModuleStream ls net bytes stream)) → answer ≢ 6 → answer ≢ 7 → answer ≡ 4

-- Which answer an `unwave` gives, by its files: `t` is what the desk reports before the call, and `n` after it.
pub record UnwavesExactly (lattice dump : List ℕ) (lost lost_now answer : ℕ) (t n : Told) : Type 0 where
  -- If it is done, WAVE has a reading, of which standard output gained the rows.
  pub only : answer ≡ 0
      → (ls : Levels) × (w : Wave) × Has t lattice IsLatticeFile ls × Has t dump IsReading w
      × (n.written 1 ≡ t.written 1 ++ rows_of_wave ls w)
  -- If it has one, it is done, unless a call on the desk fails (6) or memory runs out (7).
  pub always : (ls : Levels) (w : Wave) → Has t lattice IsLatticeFile ls → Has t dump IsReading w
      → answer ≢ 6 → answer ≢ 7 → answer ≡ 0
  -- If it has none, it is refused (10), and the line tells its first fault, unless one of these two comes.
  pub refuses : (ls : Levels) (bytes : List ℕ) → Has t lattice IsLatticeFile ls
      → t.files dump ≡ Some bytes → ((w : Wave) → ¬ (IsReading bytes w))
      → answer ≢ 6 → answer ≢ 7
      → (answer ≡ 10) × ((number : ℕ) × (code : WaveCode) × IsFault bytes number code
      × Gained (line (codes "wave: " ++ wave_text (Rule code number))) lost lost_now t n)
  -- If WAVE tells a module's run on a stimulus, as what a `wave` wrote does, standard output gained what `sim`
  -- writes of them.
  pub gives_back : answer ≡ 0
      → (ls : Levels) (net : Net) (bytes text : List ℕ) (stream : List (List Tagged))
      → Has t lattice IsLatticeFile ls → t.files dump ≡ Some text
      → IsModuleStream ls net bytes stream → TellsRun ls net stream text
      → (rows : List ℕ) × (n.written 1 ≡ t.written 1 ++ rows) × AreModuleRows ls net bytes rows

-- If the arguments are those of a `wave`, `WavesExactly` holds of them.
abbrev pub Waves : (words : List (List ℕ)) → (answer : ℕ) → Told → Told → Type 0
Waves words answer t n =
    (lattice verilog stimulus out : List ℕ) → command_of words ≡ Some (wave lattice verilog stimulus out)
    → WavesExactly lattice verilog stimulus out answer t n

-- If the arguments are those of an `unwave`, `UnwavesExactly` holds of them.
abbrev pub Unwaves : (words : List (List ℕ)) → (lost lost_now answer : ℕ) → Told → Told → Type 0
Unwaves words lost lost_now answer t n =
    (lattice dump : List ℕ) → command_of words ≡ Some (unwave lattice dump)
    → UnwavesExactly lattice dump lost lost_now answer t n
