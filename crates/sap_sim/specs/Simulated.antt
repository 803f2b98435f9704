-- The rows of a netlist on a stimulus.
use Rattle.std.specs.Prelude.{◌≡◌, ℕ, List, Option, map}
use Rattle.sap_lattice.specs.Levels.{Levels}
use Rattle.sap_maps.specs.Maps.{Valuation}
use Rattle.sap_net.specs.Net.{Net}
use Rattle.sap_net.specs.Runs.{IsRun, observed}
use Rattle.sap_stim.specs.declared.fault.StimFault.{StimFault}
use Rattle.sap_stim.specs.declared.stimulus.Parsed.{Parsed}
use Rattle.sap_stim.specs.Stimulus.{stimulus_of}
use Rattle.sap_sim.specs.Fields.{fields_of}
use Rattle.sap_sim.specs.Numbers.{numbers_of}
use Rattle.sap_sim.specs.Shown.{shown_registers, rows_from}

-- The rows of the cycles before the first refused line of a stimulus, and that line, where there is one.
pub record Rows : Type 0 where
  pub text : List ℕ
  pub fault : Option StimFault

-- What the bytes of a stimulus are to a netlist.
abbrev pub read_for : Levels → Net → List ℕ → Parsed
read_for ls n bytes = stimulus_of ls (fields_of ls n) bytes

-- The fault is that of the stimulus, and the text has the rows of what is seen of the netlist's run on the lines before
-- it, its cycles counted from 1. A netlist has one run on each list of inputs.
pub record IsSimulated (ls : Levels) (n : Net) (bytes : List ℕ) (rows : Rows) : Type 0 where
  pub fault : rows.fault ≡ (read_for ls n bytes).fault
  pub run : List Valuation
  pub is_run : IsRun n (map (numbers_of ls n) (read_for ls n bytes).stream) run
  pub text : rows.text ≡ rows_from ls (shown_registers ls n) 1 (map (observed n) run)
