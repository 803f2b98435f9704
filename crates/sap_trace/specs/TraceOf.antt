-- What the trace of a design on a stimulus is.
use Rattle.std.specs.Prelude.{◌≡◌, ℕ, List, Option}
use Rattle.sap_tree.specs.Syntax.{DesignTree}
use Rattle.sap_lattice.specs.Levels.{Levels}
use Rattle.sap_stim.specs.declared.fault.StimFault.{StimFault}
use Rattle.sap_sim.specs.Labelled.RunOf.{read_for}
use Rattle.sap_trace.specs.Lines.{labelled_trace}

-- The lines of the cycles before the first refused line of a stimulus, and that line, where there is one.
pub record Trace : Type 0 where
  pub text : List ℕ
  pub fault : Option StimFault

-- The fault is that of the stimulus, and the text has the lines of the labelled run on the lines before it.
pub record IsTraceOf (ls : Levels) (d : DesignTree) (bytes : List ℕ) (t : Trace) : Type 0 where
  pub fault : t.fault ≡ (read_for ls d bytes).fault
  pub text : t.text ≡ labelled_trace ls d (read_for ls d bytes).stream
