-- How far a text is read, and what a reader answers.
use Rattle.std.specs.Prelude.{◌≡◌, ℕ, List}
use Rattle.sap_wave.specs.declared.fault.WaveCode.{WaveCode}
use Rattle.sap_wave.specs.declared.fault.WaveFault.{WaveFault}
use Rattle.sap_wave.specs.declared.fault.WaveFault.TheVariants.{Rule, Memory}
use Rattle.sap_wave.specs.declared.state.Stop.{Stop}
use Rattle.sap_wave.specs.declared.state.Stop.TheVariants as stop
use Rattle.sap_text.specs.Lines.{lines_of}
use Rattle.sap_wave.specs.Reading.{State, before_timescale, Reads}
use Rattle.sap_wave.specs.Faults.{IsFault, IsLeast, StopsFrom}
use Rattle.sap_wave.specs.Sound.{IsSound}

-- What is left of the text begins in this line and state.
pub record ReadUpTo (bytes rest : List ℕ) (n : ℕ) (s : State) : Type 0 where
  pub reads : (t : State) → Reads s (lines_of rest) t → Reads before_timescale (lines_of bytes) t
  pub stops : (line : ℕ) (code : WaveCode) → StopsFrom n s (lines_of rest) line code
      → StopsFrom 1 before_timescale (lines_of bytes) line code
  pub sound : IsSound s

-- The code and the line are the first fault of these bytes.
abbrev pub IsWaveFault : (bytes : List ℕ) → WaveFault → Type 0
IsWaveFault bytes (Rule code line) = IsFault bytes line code
IsWaveFault bytes Memory = ⊥

-- The least of the codes that stand, at this line, unless there was no memory.
abbrev pub IsFaultAt : (Stand : WaveCode → Type 0) → (line : ℕ) → WaveFault → Type 0
IsFaultAt Stand line (Rule code there) = (there ≡ line) × IsLeast Stand code
IsFaultAt Stand line Memory = Unit {0}

-- The fault at a line for which the reader stops.
abbrev pub fault_at : (line : ℕ) → Stop → WaveFault
fault_at line (stop.Code code) = Rule code line
fault_at line stop.Memory = Memory
