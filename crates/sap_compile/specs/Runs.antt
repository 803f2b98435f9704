-- That a module has exactly one run.
use Rattle.std.specs.Prelude.{ℕ, List}
use Rattle.sap_lattice.specs.Levels.{Levels}
use Rattle.sap_maps.specs.Maps.{Valuation}
use Rattle.sap_tree.specs.Syntax.{DesignTree}
use Rattle.sap_meaning.specs.Cycle.{Tagged}
use Rattle.sap_meaning.specs.State.{StreamFits}
use Rattle.sap_net.specs.Laws.{AreSameRuns}
use Rattle.sap_net.specs.Net.{Net}
use Rattle.sap_net.specs.Runs.{IsRun}
use Rattle.sap_interface.specs.Compiled.{coded_stream}
use Rattle.sap_interface.specs.Designs.{named_of}
use Rattle.sap_interface.specs.StandsFor.{world}

-- On these inputs the netlist has a run, and every run has its numbers.
pub record HasOneRun (n : Net) (inputs : List (List ℕ)) : Type 0 where
  pub run : List Valuation
  pub is_run : IsRun n inputs run
  pub only : (other : List Valuation) → IsRun n inputs other → AreSameRuns n run other

-- On every stream that fits the design, its levels given as codes, the netlist has exactly one run.
abbrev pub HasOneRunOnStreams : Levels → DesignTree → Net → Type 0
HasOneRunOnStreams ls d n =
    (stream : List (List Tagged)) → StreamFits (world (named_of ls d)) stream
    → HasOneRun n (coded_stream (named_of ls d).code stream)
