-- The rows of a netlist that is stepped on the lines of a stimulus, one after another.
use Rattle.std.specs.Prelude.{◌≡◌, ℕ, ◌+◌, List, [], ◌∷◌, ◌++◌, All, length, Option}
use Rattle.sap_lattice.specs.Levels.{Levels}
use Rattle.sap_meaning.specs.Cycle.{Tagged as Given}
use Rattle.sap_net.specs.Net.{Net}
use Rattle.sap_stim.specs.declared.fault.StimFault.{StimFault}
use Rattle.sap_stim.specs.Line.{IsSized}
use Rattle.sap_stim.specs.Rows.{HoldsRows}
use Rattle.sap_sim.specs.declared.steps.Plan.{Plan}
use Rattle.sap_sim.specs.Fields.{fields_of}
use Rattle.sap_sim.specs.Numbers.{numbers_of}
use Rattle.sap_sim.specs.Shown.{shown_registers, row_of}
use Rattle.sap_sim.specs.Layout.{IsPlan}
use Rattle.sap_sim.specs.Simulated.{IsSimulated, Rows, read_for}
use Rattle.sap_sim.specs.Stepped as stepped
use Rattle.sap_sim.specs.Stepped.{Stepped, TellsMore, TellsAll}

-- Its plan, its fields and its room are those of the netlist.
pub record IsPlanned (ls : Levels) (s : Stepped Plan) : Type 0 where
  pub plan : IsPlan ls s.runner.net s.plan
  pub fields : s.fields ≡ fields_of ls s.runner.net
  pub sized : All IsSized s.fields
  pub room : HoldsRows ls s.plan.shown.names.items s.room

-- This netlist, stepped on these lines.
abbrev pub IsAfter : Levels → Net → (lines : List (List Given)) → Stepped Plan → Type 0
IsAfter ls n = stepped.IsAfter (IsPlanned ls) n (numbers_of ls n)

-- Behind the old bytes stands the row of the last of these lines.
abbrev pub HasRowMore : Levels → Net → (lines : List (List Given)) → (cycle : ℕ) → (old now : List ℕ) → Type 0
HasRowMore ls n = TellsMore (row_of ls (shown_registers ls n)) n (numbers_of ls n)

-- The rows of all these lines, their cycles counted from 1.
abbrev pub AreRows : Levels → Net → (lines : List (List Given)) → (text : List ℕ) → Type 0
AreRows ls n = TellsAll (row_of ls (shown_registers ls n)) n (numbers_of ls n)

-- The rows and the fault of a run.
abbrev pub rows_of : (text : List ℕ) → Option StimFault → Rows
rows_of text fault = record { text = text; fault = fault }

-- The rows of the lines, one behind another, add up to what the netlist gives on the whole stimulus.
pub record RowsAddUp (ls : Levels) (n : Net) : Type 0 where
  -- no line has no row
  pub begins : AreRows ls n [] []
  -- a line more has a row more
  pub goes_on : (lines : List (List Given)) (line : List Given) (text row : List ℕ) → AreRows ls n lines text
      → HasRowMore ls n (lines ++ line ∷ []) (length lines + 1) [] row → AreRows ls n (lines ++ line ∷ []) (text ++ row)
  -- with all lines the rows are all
  pub whole : (bytes text : List ℕ) → AreRows ls n (read_for ls n bytes).stream text
      → IsSimulated ls n bytes (rows_of text (read_for ls n bytes).fault)
  -- with the first lines they begin the whole text
  pub part : (bytes text : List ℕ) (lines more : List (List Given)) (rows : Rows)
      → (read_for ls n bytes).stream ≡ lines ++ more
      → AreRows ls n lines text → IsSimulated ls n bytes rows → (rest : List ℕ) × (rows.text ≡ text ++ rest)
