-- What the rows of a design on a stimulus are.
use Rattle.std.specs.Prelude.{◌≡◌, ℕ, List}
use Rattle.sap_tree.specs.Syntax.{DesignTree}
use Rattle.sap_lattice.specs.Levels.{Levels}
use Rattle.sap_stim.specs.declared.stimulus.Parsed.{Parsed}
use Rattle.sap_stim.specs.Stimulus.{stimulus_of}
use Rattle.sap_net.specs.Net.{Net}
use Rattle.sap_sim.specs.Simulated.{IsSimulated, Rows}
use Rattle.sap_sim.specs.Labelled.Fields.{design_fields}
use Rattle.sap_sim.specs.Labelled.LabelledRows.{labelled_rows}

-- What the bytes of a stimulus are to a design.
abbrev pub read_for : Levels → DesignTree → List ℕ → Parsed
read_for ls d bytes = stimulus_of ls (design_fields d) bytes

-- The fault is that of the stimulus, and the text has the rows of the labelled run on the lines before it.
pub record IsRunOf (ls : Levels) (d : DesignTree) (bytes : List ℕ) (rows : Rows) : Type 0 where
  pub fault : rows.fault ≡ (read_for ls d bytes).fault
  pub text : rows.text ≡ labelled_rows ls d (read_for ls d bytes).stream

-- What a netlist gives on a stimulus, whichever that is, is the run of the design on it.
abbrev pub GivesRuns : Levels → DesignTree → Net → Type 0
GivesRuns ls d n = (bytes : List ℕ) (rows : Rows) → IsSimulated ls n bytes rows → IsRunOf ls d bytes rows
