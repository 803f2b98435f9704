-- The composite run: in each cycle all parts of a system do theirs at once.
use Rattle.std.specs.Prelude.{ℕ, List, [], ◌∷◌, map, get_or, Option, Some, None, if◌then◌else◌}
use Rattle.std.specs.List.{AllByRecursion, position_or_len}
use Rattle.sap_lattice.specs.Order.{Order}
use Rattle.sap_meaning.specs.Store.{Store, own, number, level, After}
use Rattle.sap_meaning.specs.Cycle.{Tagged, cycle}
use Rattle.sap_meaning.specs.State.{AllFit, first}
use Rattle.sap_link.specs.Systems.{Endpoint, endpoint, same_endpoint, Wire, System, part, world, width_at, feeding, inputs_in, free_inputs}

-- A state for each part, by the part's number.
abbrev pub CompositeState : Type 0
CompositeState = ℕ → Store

-- What a composite cycle comes to: for each part its state and what it refused.
abbrev pub CompositeAfter : Type 0
CompositeAfter = ℕ → After

-- The stores of all parts after a cycle.
abbrev pub states_of : CompositeAfter → CompositeState
states_of a i = (a i).store

-- The number and the level of an entity in the states of the parts.
abbrev pub content_at : System → CompositeState → Endpoint → Tagged
content_at y states e = record {
  number = number (own e.entity) (states e.part);
  level = level (world y e.part) (own e.entity) (states e.part);
}

-- What comes out of a wire whose register has the number and the level of v. Through no level that is just v. Through a
-- level it has this level, and v's number where v's level is at or below it, else 0.
abbrev pub let_through : Order → Option ℕ → (v : Tagged) → Tagged
let_through o None v = v
let_through o (Some t) v = record { number = if o.le v.level t then v.number else 0; level = t }

-- What a wire carries: the register's number and level, let through where the level is at or below the wire's.
abbrev pub carried : System → CompositeState → Wire → Tagged
carried y states w = let_through y.order w.level (content_at y states w.from)

-- What the stream gives a free input, by its place among the free ones.
abbrev pub given_to : System → (inputs : List Tagged) → Endpoint → Tagged
given_to y inputs e = get_or inputs (position_or_len (λ d. same_endpoint d e) (free_inputs y))
    (record { number = 0; level = y.order.bottom })

-- What an input receives: what the wire that feeds it carries; where there is none, what the stream gives.
abbrev pub received_by : System → CompositeState → (inputs : List Tagged) → Endpoint → (feeds : Option Wire) → Tagged
received_by y states inputs e (Some w) = carried y states w
received_by y states inputs e None = given_to y inputs e

-- What an input receives: what its wire carries, or the system's own input.
abbrev pub received : System → CompositeState → (inputs : List Tagged) → Endpoint → Tagged
received y states inputs e = received_by y states inputs e (feeding y.wires e)

-- What the inputs of part i receive, in the order of their declaration.
abbrev pub part_inputs : System → CompositeState → (inputs : List Tagged) → (i : ℕ) → List Tagged
part_inputs y states inputs i = map (λ x. received y states inputs (endpoint i x)) (inputs_in (world y i))

-- Each part does its cycle from its own state; what wires carry is read from the states of all parts before the cycle.
abbrev pub composite_cycle : System → (inputs : List Tagged) → CompositeState → CompositeAfter
composite_cycle y inputs states i = cycle (part y i) (part_inputs y states inputs i) (states i)

-- The states after each cycle, with what each part refused.
abbrev pub composite_run_from : System → CompositeState → List (List Tagged) → List CompositeAfter
composite_run_from y states [] = []
composite_run_from y states (inputs ∷ rest) = let a = composite_cycle y inputs states in
    a ∷ composite_run_from y (states_of a) rest

-- The stores of all parts at power-up.
abbrev pub first_states : System → CompositeState
first_states y i = first (world y i)

-- The run from the first states.
abbrev pub composite_run : System → List (List Tagged) → List CompositeAfter
composite_run y stream = composite_run_from y (first_states y) stream

-- A composite run projected to part i.
abbrev pub run_of_part : (i : ℕ) → List CompositeAfter → List After
run_of_part i run = map (λ a. a i) run

-- What the inputs of part i receive in each cycle.
abbrev pub stream_of_part : System → CompositeState → List (List Tagged) → (i : ℕ) → List (List Tagged)
stream_of_part y states [] i = []
stream_of_part y states (inputs ∷ rest) i =
    part_inputs y states inputs i ∷ stream_of_part y (states_of (composite_cycle y inputs states)) rest i

-- One number below 2 to its width and one level for each free input.
abbrev pub InputsFit : System → List Tagged → Type 0
InputsFit y inputs = AllFit y.order.count (map (width_at y) (free_inputs y)) inputs

-- A stream that fits the system: so in every cycle.
abbrev pub StreamFits : System → List (List Tagged) → Type 0
StreamFits y stream = AllByRecursion (InputsFit y) stream
