-- What a stimulus is read as, and what commands print of it: rows of a design, lines of its trace, rows of a module.
use Rattle.std.specs.Prelude.{◌≡◌, ℕ, List, Option, None}
use Rattle.sap_lattice.specs.Levels.{Levels}
use Rattle.sap_tree.specs.Syntax.{DesignTree}
use Rattle.sap_meaning.specs.Cycle.{Tagged}
use Rattle.sap_net.specs.Net.{Net}
use Rattle.sap_stim.specs.declared.fault.StimFault.{StimFault}
use Rattle.sap_stim.specs.declared.stimulus.Parsed.{Parsed}
use Rattle.sap_sim.specs.Labelled.RunOf.{IsRunOf}
use Rattle.sap_trace.specs.TraceOf.{IsTraceOf}
use Rattle.sap_sim.specs.Simulated.{IsSimulated, read_for}

-- Every line of a stimulus is taken, and together they are this stream.
abbrev pub IsWholeStream : (read : List ℕ → Parsed) → (bytes : List ℕ) → (stream : List (List Tagged)) → Type 0
IsWholeStream read bytes stream = read bytes ≡ record { stream = stream; fault = None }

-- Every line of a stimulus is taken for a module, and together they are this stream.
abbrev pub IsModuleStream : Levels → Net → (bytes : List ℕ) → (stream : List (List Tagged)) → Type 0
IsModuleStream ls net = IsWholeStream (read_for ls net)

-- The text is the rows of a design's run on a stimulus, or on its lines before the first that is refused.
abbrev pub AreDesignRows : Levels → DesignTree → (bytes text : List ℕ) → Type 0
AreDesignRows ls d bytes text = (fault : Option StimFault) × IsRunOf ls d bytes (record { text = text; fault = fault })

-- The text is the lines of the trace of a design's run on a stimulus, or on its lines before the first that is refused.
abbrev pub AreTraceLines : Levels → DesignTree → (bytes text : List ℕ) → Type 0
AreTraceLines ls d bytes text = (fault : Option StimFault)
    × IsTraceOf ls d bytes (record { text = text; fault = fault })

-- The text is the rows of a module's run on a stimulus, or on its lines before the first that is refused.
abbrev pub AreModuleRows : Levels → Net → (bytes text : List ℕ) → Type 0
AreModuleRows ls net bytes text = (fault : Option StimFault)
    × IsSimulated ls net bytes (record { text = text; fault = fault })
