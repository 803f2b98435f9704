-- When composites agree at a level l: part by part.
use Rattle.std.specs.Prelude.{ℕ, List}
use Rattle.std.specs.List.{AllZip}
use Rattle.sap_meaning.specs.Cycle.{Tagged}
use Rattle.sap_meaning.specs.Agree.{StatesAgree, RefusalsAgree, StreamsAgree}
use Rattle.sap_link.specs.Systems.{System, part, IsPart}
use Rattle.sap_link.specs.Composites.{CompositeState, CompositeAfter, states_of, composite_run}

-- The states of each part agree.
abbrev pub PartsAgree : System → (l : ℕ) → CompositeState → CompositeState → Type 0
PartsAgree y l states others = (i : ℕ) → IsPart y i → StatesAgree (part y i) l (states i) (others i)

-- And so do its refusals.
pub record CompositesAgree (y : System) (l : ℕ) (a b : CompositeAfter) : Type 0 where
  pub states : PartsAgree y l (states_of a) (states_of b)
  pub refusals : (i : ℕ) → IsPart y i → RefusalsAgree y.order l (a i).refused (b i).refused

-- As many cycles, and in each the composites agree.
abbrev pub CompositeRunsAgree : System → (l : ℕ) → List CompositeAfter → List CompositeAfter → Type 0
CompositeRunsAgree y l run other = AllZip (CompositesAgree y l) run other

-- For every level l, and every two streams that agree at l: the composite runs on them agree there in every cycle, part
-- by part, in states and refusals.
abbrev pub RunsOfStreamsAgree : System → Type 0
RunsOfStreamsAgree y = (l : ℕ) (a b : List (List Tagged)) → StreamsAgree y.order l a b
    → CompositeRunsAgree y l (composite_run y a) (composite_run y b)
