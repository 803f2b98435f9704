-- What holds of every dump.
use Rattle.std.specs.Prelude.{◌≡◌, ◌⊎◌, ◌↔◌, ℕ, List}
use Rattle.sap_maps.specs.Maps.{Valuation}
use Rattle.sap_net.specs.Net.{Net}
use Rattle.sap_net.specs.IsNetlist.{IsNetlist}
use Rattle.sap_net.specs.Runs.{IsRun}
use Rattle.sap_wave.specs.declared.fault.WaveCode.{WaveCode}
use Rattle.sap_wave.specs.Waves.{Wave}
use Rattle.sap_wave.specs.Dumps.{IsReading}
use Rattle.sap_wave.specs.Reading.{ReadsSo}
use Rattle.sap_wave.specs.Faults.{IsFault}
use Rattle.sap_wave.specs.Runs.{run_dump, run_wave}
use Rattle.sap_wave.specs.Dumping.{BlocksAddUp}

-- At most one reading, at most one first fault, and not both.
pub record OneWaveOrFault : Type 0 where
  pub one_wave : (bytes : List ℕ) (v w : Wave) → IsReading bytes v → IsReading bytes w → v ≡ w
  pub one_fault : (bytes : List ℕ) (i j : ℕ) (c d : WaveCode) → IsFault bytes i c → IsFault bytes j d
      → (i ≡ j) × (c ≡ d)
  pub not_both : (bytes : List ℕ) (w : Wave) (i : ℕ) (c : WaveCode) → IsReading bytes w → IsFault bytes i c → ⊥

-- And one of them.
abbrev pub EachWaveOrFault : Type 0
EachWaveOrFault = (bytes : List ℕ) → ((w : Wave) × IsReading bytes w) ⊎ ((i : ℕ) × (c : WaveCode) × IsFault bytes i c)

-- What is the dump of a wave reads so line by line, and nothing else does.
abbrev pub DumpsReadSo : Type 0
DumpsReadSo = (bytes : List ℕ) (w : Wave) → (IsReading bytes w) ↔ (ReadsSo bytes w)

-- The dump of a run reads back as the run.
abbrev pub RunsReadBack : Type 0
RunsReadBack =
    (n : Net) (xss : List (List ℕ)) (vs : List Valuation) → IsNetlist n → IsRun n xss vs
    → IsReading (run_dump n vs) (run_wave n vs)

-- What is written block by block is the dump of the run.
abbrev pub DumpsAddUp : Type 0
DumpsAddUp = (n : Net) → BlocksAddUp n
