-- What the input of the generated run gets.
use Rattle.std.specs.Prelude.{ℕ, ◌+◌, ◌*◌, ◌%◌, List, [], ◌∷◌, map}
use Rattle.std.specs.List.{range_with_len}
use Rattle.sap_meaning.specs.Cycle.{Tagged}

-- How many cycles the run of a number has.
abbrev pub cycle_count : ℕ → ℕ
cycle_count n = 4 * n

-- In cycle c the number (37 * c + n) mod 256, at the level at place c mod 4 of the lattice.
abbrev pub given : (n c : ℕ) → Tagged
given n c = record { number = (37 * c + n) % 256; level = c % 4 }

-- For the one input, in the cycles from 1 on.
abbrev pub generated_stream : (n : ℕ) → List (List Tagged)
generated_stream n = map (λ c. given n c ∷ []) (range_with_len 1 (cycle_count n))
