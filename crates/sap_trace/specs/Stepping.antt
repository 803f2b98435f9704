-- The lines of the trace of a netlist that stands for a design, and is stepped on the lines of a stimulus, one after
-- another.
use Rattle.std.specs.Prelude.{◌≡◌, ℕ, ◌+◌, List, [], ◌∷◌, ◌++◌, All, Option, length}
use Rattle.sap_tree.specs.Syntax.{DesignTree}
use Rattle.sap_lattice.specs.Levels.{Levels}
use Rattle.sap_meaning.specs.Cycle.{Tagged as Given}
use Rattle.sap_check.specs.Sites.{sites_of}
use Rattle.sap_net.specs.Net.{Net}
use Rattle.sap_interface.specs.Designs.{StandsForDesign}
use Rattle.sap_stim.specs.declared.fault.StimFault.{StimFault}
use Rattle.sap_stim.specs.Line.{IsSized}
use Rattle.sap_sim.specs.Labelled.Fields.{design_fields}
use Rattle.sap_sim.specs.Labelled.RunOf.{read_for}
use Rattle.sap_sim.specs.Stepped as stepped
use Rattle.sap_sim.specs.Stepped.{Stepped, TellsMore, TellsAll}
use Rattle.sap_trace.specs.declared.wires.Wires.{Wires}
use Rattle.sap_trace.specs.Given.{given}
use Rattle.sap_trace.specs.Lines.{labelled_trace}
use Rattle.sap_trace.specs.Rooms.{HoldsCycle}
use Rattle.sap_trace.specs.Seen.{AreWires, cycle_lines}
use Rattle.sap_trace.specs.TraceOf.{IsTraceOf, Trace}

-- The netlist stands for the design, and the wires of its check sites, its fields and its room are the design's.
pub record IsPlanned (ls : Levels) (d : DesignTree) (s : Stepped Wires) : Type 0 where
  pub stands : StandsForDesign ls d s.runner.net
  pub wires : AreWires s.runner.net (length (sites_of d)) s.plan
  pub fields : s.fields ≡ design_fields d
  pub sized : All IsSized s.fields
  pub room : HoldsCycle ls d s.room

-- This netlist, stepped on these lines.
abbrev pub IsAfter : Levels → DesignTree → Net → (lines : List (List Given)) → Stepped Wires → Type 0
IsAfter ls d n = stepped.IsAfter (IsPlanned ls d) n (given ls)

-- Behind the old bytes stand the lines of the sites that the last of these cycles refuses.
abbrev pub HasLinesMore : Levels → DesignTree → Net → (lines : List (List Given)) → (cycle : ℕ)
    → (old now : List ℕ) → Type 0
HasLinesMore ls d n = TellsMore (cycle_lines ls d) n (given ls)

-- The lines of all these cycles, counted from 1.
abbrev pub AreLines : Levels → DesignTree → Net → (lines : List (List Given)) → (text : List ℕ) → Type 0
AreLines ls d n = TellsAll (cycle_lines ls d) n (given ls)

-- The text and the fault of a trace.
abbrev pub trace_as : (text : List ℕ) → Option StimFault → Trace
trace_as text fault = record { text = text; fault = fault }

-- The lines of the cycles, one behind another, add up to the trace of the design on the whole stimulus.
pub record LinesAddUp (ls : Levels) (d : DesignTree) (n : Net) : Type 0 where
  -- no cycle has no line
  pub begins : AreLines ls d n [] []
  -- with a cycle more come its lines
  pub goes_on : (lines : List (List Given)) (line : List Given) (text more : List ℕ) → AreLines ls d n lines text
      → HasLinesMore ls d n (lines ++ line ∷ []) (length lines + 1) [] more
      → AreLines ls d n (lines ++ line ∷ []) (text ++ more)
  -- those of all cycles are the lines of the labelled run
  pub all : (bytes : List ℕ) → AreLines ls d n (read_for ls d bytes).stream
      (labelled_trace ls d (read_for ls d bytes).stream)
  -- with all cycles the lines are all
  pub whole : (bytes text : List ℕ) → AreLines ls d n (read_for ls d bytes).stream text
      → IsTraceOf ls d bytes (trace_as text (read_for ls d bytes).fault)
  -- with the first cycles they begin the whole text
  pub part : (bytes text : List ℕ) (lines more : List (List Given)) (trace : Trace)
      → (read_for ls d bytes).stream ≡ lines ++ more
      → AreLines ls d n lines text → IsTraceOf ls d bytes trace → (rest : List ℕ) × (trace.text ≡ text ++ rest)
