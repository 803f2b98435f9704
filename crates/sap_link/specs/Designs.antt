-- The laws of composites for designs: over every lattice, and all systems of designs that are well formed over it.
use Rattle.std.specs.Prelude.{◌≡◌, ℕ, List, map, Some, slice_get}
use Rattle.std.specs.List.{AllByRecursion}
use Rattle.sap_tree.specs.Syntax.{DesignTree}
use Rattle.sap_lattice.specs.Order.{Laws}
use Rattle.sap_lattice.specs.Levels.{Levels, order_of}
use Rattle.sap_shape.specs.WellFormed.{WellFormed}
use Rattle.sap_meaning.specs.Cycle.{Tagged}
use Rattle.sap_meaning.specs.State.{labelled_run}
use Rattle.sap_meaning.specs.State.{StreamFits as StreamFitsPart}
use Rattle.sap_meaning.specs.Agree.{StreamsAgree}
use Rattle.sap_resolved.specs.Fill.{program_of}
use Rattle.sap_link.specs.Systems.{Wire, System, WiresFit}
use Rattle.sap_link.specs.Composites.{CompositeState, composite_run_from, first_states, composite_run, run_of_part, stream_of_part, StreamFits}
use Rattle.sap_link.specs.Agree.{PartsAgree, CompositeRunsAgree, RunsOfStreamsAgree}
use Rattle.sap_link.specs.Laws.{FineSystem, SizedSystem, PartsRest}

-- Designs over the levels of a lattice, linked by wires.
abbrev pub linked : Levels → List DesignTree → List Wire → System
linked ls designs wires = record { order = order_of ls; parts = map (program_of ls) designs; wires = wires }

-- Each design is well formed, and the wires break no rule.
pub record WellLinked (ls : Levels) (designs : List DesignTree) (wires : List Wire) : Type 0 where
  pub designs_formed : AllByRecursion (WellFormed ls) designs
  pub wires_fit : WiresFit (linked ls designs wires)

-- Such a system has all that the laws of composites ask for.
abbrev pub LinkedDesignsServe : Type 0
LinkedDesignsServe = (ls : Levels) (designs : List DesignTree) (wires : List Wire) → Laws (order_of ls)
    → WellLinked ls designs wires
    → FineSystem (linked ls designs wires) × SizedSystem (linked ls designs wires)

-- From states between cycles that agree at a level in every part, streams that agree there give composite runs that
-- agree there in every cycle, states and refusals.
abbrev pub LaterLinkedRunsAgree : Type 0
LaterLinkedRunsAgree = (ls : Levels) (designs : List DesignTree) (wires : List Wire)
    → Laws (order_of ls) → WellLinked ls designs wires
    → let y = linked ls designs wires in
    (l : ℕ) (s t : CompositeState) → PartsRest y s → PartsRest y t → PartsAgree y l s t
    → (a b : List (List Tagged)) → StreamsAgree (order_of ls) l a b
    → CompositeRunsAgree y l (composite_run_from y s a) (composite_run_from y t b)

-- Streams that agree at a level give composite runs from the first states that agree there in every cycle.
abbrev pub LinkedRunsAgree : Type 0
LinkedRunsAgree = (ls : Levels) (designs : List DesignTree) (wires : List Wire) → Laws (order_of ls)
    → WellLinked ls designs wires
    → RunsOfStreamsAgree (linked ls designs wires)

-- And on a stream that fits, each design has its labelled run on what its inputs receive, which fits it.
abbrev pub PartsOfLinkedRun : Type 0
PartsOfLinkedRun = (ls : Levels) (designs : List DesignTree) (wires : List Wire) → Laws (order_of ls)
    → WellLinked ls designs wires
    → let y = linked ls designs wires in
    (stream : List (List Tagged)) → StreamFits y stream → (i : ℕ) (d : DesignTree) → slice_get designs i ≡ Some d
    → let received = stream_of_part y (first_states y) stream i in
    (run_of_part i (composite_run y stream) ≡ labelled_run (program_of ls d) received)
    × StreamFitsPart (program_of ls d).world received
