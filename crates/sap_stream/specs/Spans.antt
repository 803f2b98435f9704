-- The same inputs in several cycles, one after another.
use Rattle.std.specs.Prelude.{ℕ, ◌≤◌, List, replicate, flat_map}
use Rattle.sap_meaning.specs.Cycle.{Tagged}

-- What each input gets, for so many cycles.
pub record Span : Type 0 where
  pub inputs : List Tagged
  pub count : ℕ

-- A span has from 1 to 65,535 cycles.
abbrev pub IsCount : ℕ → Type 0
IsCount count = (1 ≤ count) × (count ≤ 65535)

-- The inputs of each cycle of a span.
abbrev pub cycles_in : Span → List (List Tagged)
cycles_in s = replicate s.count s.inputs

-- The inputs of each cycle of some spans, one span after another.
abbrev pub cycles_of : List Span → List (List Tagged)
cycles_of spans = flat_map cycles_in spans
