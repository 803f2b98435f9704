-- Where two streams first don't agree at a level l.
use Rattle.std.specs.Prelude.{◌≡◌, ◌≢◌, ◌<◌, ◌≤◌, ◌-◌, ℕ, List, [], length, take, get_or, All}
use Rattle.sap_lattice.specs.Order.{Order}
use Rattle.sap_meaning.specs.Agree.{Alike, InputsAgree, StreamsAgree}
use Rattle.sap_meaning.specs.Cycle.{Tagged}
use Rattle.sap_stream.specs.declared.apart.Apart.{Apart}
use Rattle.sap_stream.specs.declared.apart.Apart.TheVariants.{Lengths, At}

-- The two numbers with levels look alike at or below a level.
abbrev pub AreAlike : Order → ℕ → Tagged → Tagged → Type 0
AreAlike o l a b = Alike o l (a.number ≡ b.number) a.level b.level

-- What the input at a place gets, the places being counted from 0.
abbrev pub input_at : List Tagged → ℕ → Tagged
input_at inputs place = get_or inputs place (record { number = 0; level = 0 })

-- The inputs of a cycle, the cycles being counted from 1.
abbrev pub cycle_at : List (List Tagged) → ℕ → List Tagged
cycle_at stream cycle = get_or stream (cycle - 1) []

-- Of the inputs of a cycle this one isn't alike, and all before it are.
pub record IsFirst (o : Order) (l : ℕ) (first second : List Tagged) (input : ℕ) : Type 0 where
  pub in_first : input < length first
  pub in_second : input < length second
  pub before : InputsAgree o l (take input first) (take input second)
  pub here : ¬ AreAlike o l (input_at first input) (input_at second input)

-- The streams have as many cycles; they agree before this cycle, and in it this is the first input that isn't alike.
pub record IsApartAt (o : Order) (l : ℕ) (first second : List (List Tagged)) (cycle input : ℕ) : Type 0 where
  pub lengths : length first ≡ length second
  pub counted : 1 ≤ cycle
  pub within : cycle ≤ length first
  pub before : StreamsAgree o l (take (cycle - 1) first) (take (cycle - 1) second)
  pub here : IsFirst o l (cycle_at first cycle) (cycle_at second cycle) input

-- How many cycles each has, where that differs; else the first cycle that doesn't agree, and its first input that isn't
-- alike.
abbrev pub IsApart : Order → ℕ → List (List Tagged) → List (List Tagged) → Apart → Type 0
IsApart o l first second (Lengths a b) = (a ≡ length first) × (b ≡ length second) × (a ≢ b)
IsApart o l first second (At cycle input) = IsApartAt o l first second cycle input

-- All cycles of both streams have the same number of inputs.
abbrev pub AreOfOneLength : List (List Tagged) → List (List Tagged) → Type 0
AreOfOneLength first second =
    (count : ℕ) × All (λ inputs. length inputs ≡ count) first × All (λ inputs. length inputs ≡ count) second
