-- The laws of composites.
use Rattle.std.specs.Prelude.{◌≡◌, ℕ, true, List, length, map}
use Rattle.std.specs.List.{AllByRecursion}
use Rattle.sap_meaning.specs.Program.{is_input}
use Rattle.sap_meaning.specs.Cycle.{Tagged, given, run_from}
use Rattle.sap_meaning.specs.State.{Resting, Fits}
use Rattle.sap_meaning.specs.State.{StreamFits as StreamFitsPart}
use Rattle.sap_meaning.specs.Agree.{InputsAgree, StreamsAgree}
use Rattle.sap_meaning.specs.Fine.{FineProgram}
use Rattle.sap_meaning.specs.Sized.{SizedProgram}
use Rattle.sap_link.specs.Systems.{System, endpoint, part, world, IsPart, free_inputs, FedOnce, WiresFit}
use Rattle.sap_link.specs.Composites.{CompositeState, states_of, carried, received, part_inputs, composite_cycle, composite_run_from, first_states, run_of_part, stream_of_part, InputsFit, StreamFits}
use Rattle.sap_link.specs.Agree.{PartsAgree, CompositesAgree, CompositeRunsAgree, RunsOfStreamsAgree}

-- Fine programs over the system's order, with wires that break no rule.
pub record FineSystem (y : System) : Type 0 where
  pub parts : (i : ℕ) → IsPart y i → FineProgram (part y i)
  pub order : (i : ℕ) → IsPart y i → (world y i).order ≡ y.order
  pub wires : WiresFit y

-- The widths in each part fit.
abbrev pub SizedSystem : System → Type 0
SizedSystem y = (i : ℕ) → IsPart y i → SizedProgram (part y i)

-- Each part's state is one between cycles.
abbrev pub PartsRest : System → CompositeState → Type 0
PartsRest y states = (i : ℕ) → IsPart y i → Resting (world y i) (states i)

-- The numbers and levels in each part's state fit.
abbrev pub PartsFit : System → CompositeState → Type 0
PartsFit y states = (i : ℕ) → IsPart y i → Fits (world y i) (states i)

-- Where no input is fed twice, the input to which a wire leads receives what the wire carries.
abbrev pub FedInputsReceive : Type 0
FedInputsReceive = (y : System) → FedOnce y.wires → (states : CompositeState) (inputs : List Tagged)
    → AllByRecursion (λ w. received y states inputs w.to ≡ carried y states w) y.wires

-- What a stream gives, one for each free input, is what the free inputs receive, in order.
abbrev pub FreeInputsReceive : Type 0
FreeInputsReceive = (y : System) (states : CompositeState) (inputs : List Tagged)
    → length inputs ≡ length (free_inputs y)
    → map (received y states inputs) (free_inputs y) ≡ inputs

-- Each input of a part, by its number, is given in the part's cycle what it receives.
abbrev pub PartsAreGiven : Type 0
PartsAreGiven = (y : System) (states : CompositeState) (inputs : List Tagged) (i x : ℕ) → is_input (world y i) x ≡ true
    → given (world y i) (part_inputs y states inputs i) x ≡ received y states inputs (endpoint i x)

-- The first states are ones between cycles, and a composite cycle leads from such states to others.
abbrev pub CompositesRest : Type 0
CompositesRest = (y : System) → FineSystem y
    → PartsRest y (first_states y)
    × ((inputs : List Tagged) (states : CompositeState) → PartsRest y states
    → PartsRest y (states_of (composite_cycle y inputs states)))

-- And numbers stay within their widths, and levels levels, as long as those of the stream do.
abbrev pub CompositesFit : Type 0
CompositesFit = (y : System) → FineSystem y → SizedSystem y
    → PartsFit y (first_states y)
    × ((inputs : List Tagged) (states : CompositeState) → InputsFit y inputs → PartsFit y states
    → PartsFit y (states_of (composite_cycle y inputs states)))

-- In a composite run each part does what it does alone on what its inputs receive.
abbrev pub PartsRunAlone : Type 0
PartsRunAlone = (y : System) (states : CompositeState) (stream : List (List Tagged)) (i : ℕ)
    → run_of_part i (composite_run_from y states stream)
    ≡ run_from (part y i) (states i) (stream_of_part y states stream i)

-- And that fits the part, where the stream fits the system.
abbrev pub StreamsOfPartsFit : Type 0
StreamsOfPartsFit = (y : System) → FineSystem y → SizedSystem y → (states : CompositeState) → PartsFit y states
    → (stream : List (List Tagged)) → StreamFits y stream → (i : ℕ) → IsPart y i
    → StreamFitsPart (world y i) (stream_of_part y states stream i)

-- Where the states of all parts agree at a level, and what a stream gives agrees there, what each part's inputs receive
-- agrees there, from wires and from the stream.
abbrev pub PartInputsAgree : Type 0
PartInputsAgree = (y : System) → FineSystem y → (l : ℕ) (s t : CompositeState) → PartsAgree y l s t
    → (a b : List Tagged) → InputsAgree y.order l a b
    → (i : ℕ) → IsPart y i → InputsAgree y.order l (part_inputs y s a i) (part_inputs y t b i)

-- From states between cycles that agree, one cycle gives composites that agree.
abbrev pub CompositeCyclesAgree : Type 0
CompositeCyclesAgree = (y : System) → FineSystem y → (l : ℕ) (s t : CompositeState) → PartsRest y s
    → PartsRest y t → PartsAgree y l s t
    → (a b : List Tagged) → InputsAgree y.order l a b
    → CompositesAgree y l (composite_cycle y a s) (composite_cycle y b t)

-- From such states, streams that agree give runs that agree in every cycle.
abbrev pub LaterCompositesAgree : Type 0
LaterCompositesAgree = (y : System) → FineSystem y → (l : ℕ) (s t : CompositeState) → PartsRest y s
    → PartsRest y t → PartsAgree y l s t
    → (a b : List (List Tagged)) → StreamsAgree y.order l a b
    → CompositeRunsAgree y l (composite_run_from y s a) (composite_run_from y t b)

-- From the first states, streams that agree give runs that agree in every cycle.
abbrev pub CompositesOfStreamsAgree : Type 0
CompositesOfStreamsAgree = (y : System) → FineSystem y → RunsOfStreamsAgree y
