-- What holds of the rows of the dump of a run.
use Rattle.std.specs.Prelude.{◌≡◌, ℕ, List, map}
use Rattle.sap_lattice.specs.Levels.{Levels}
use Rattle.sap_maps.specs.Maps.{Valuation}
use Rattle.sap_net.specs.Net.{Net}
use Rattle.sap_net.specs.IsNetlist.{IsNetlist}
use Rattle.sap_net.specs.Runs.{IsRun, observed}
use Rattle.sap_sim.specs.Numbers.{numbers_of}
use Rattle.sap_sim.specs.Shown.{rows_from, shown_registers}
use Rattle.sap_sim.specs.Simulated.{IsSimulated, Rows, read_for}
use Rattle.sap_sim.specs.Stepped.{IsRunOn}
use Rattle.sap_wave.specs.Dumps.{IsReading}
use Rattle.sap_wave.specs.Runs.{run_dump, run_wave}
use Rattle.sap_wave.specs.Waves.{Wave}
use Rattle.sap_wave_rows.specs.Rows.{rows_of_wave}

-- The rows of a netlist's cycles, counted from 1.
abbrev pub rows_of_cycles : Levels → Net → List Valuation → List ℕ
rows_of_cycles ls n vs = rows_from ls (shown_registers ls n) 1 (map (observed n) vs)

-- A run as a wave has the rows of the run.
abbrev pub RowsOfRuns : Type 0
RowsOfRuns = (ls : Levels) (n : Net) (vs : List Valuation) → rows_of_wave ls (run_wave n vs) ≡ rows_of_cycles ls n vs

-- And so has what the dump of a run reads as.
abbrev pub RowsOfDumps : Type 0
RowsOfDumps =
    (ls : Levels) (n : Net) (xss : List (List ℕ)) (vs : List Valuation) (w : Wave) → IsNetlist n
    → IsRun n xss vs → IsReading (run_dump n vs) w
    → rows_of_wave ls w ≡ rows_of_cycles ls n vs

-- They are what the netlist gives on a stimulus, where the run is on its lines before the first that is refused.
abbrev pub RowsOfStimuli : Type 0
RowsOfStimuli =
    (ls : Levels) (n : Net) (bytes : List ℕ) (rows : Rows) (vs : List Valuation) (w : Wave)
    → IsNetlist n → IsSimulated ls n bytes rows
    → IsRunOn n (numbers_of ls n) (read_for ls n bytes).stream vs → IsReading (run_dump n vs) w
    → rows_of_wave ls w ≡ rows.text
