-- Streams, and refusals, that agree at a level and that don't.
use Rattle.std.specs.Prelude.{List, [], ◌∷◌}
use Rattle.sap_meaning.specs.Store.{Refusal}
use Rattle.sap_meaning.specs.Cycle.{Tagged}
use Rattle.sap_meaning.specs.Agree.{InputsAgree, StreamsAgree, RefusalsAgree}
use Rattle.sap_meaning.specs.Examples.{four_levels, at_level, refused_at}
use Rattle.sap_worked.specs.Rows.{low, left, right, high}

-- The two cycles' inputs don't agree at or below `left`.
abbrev pub InputsApart : List Tagged → List Tagged → Type 0
InputsApart a b = InputsAgree four_levels left a b → ⊥

-- The first has equal numbers and levels at or below left; the second has a level at or below left in neither.
abbrev pub InputsAlike : Type 0
InputsAlike = InputsAgree four_levels left (at_level left 5 ∷ at_level right 6 ∷ [])
    (at_level left 5 ∷ at_level high 7 ∷ [])

-- Inputs with different numbers, at a level at or below left in both, don't agree.
abbrev pub InputNumber : Type 0
InputNumber = InputsApart (at_level low 5 ∷ at_level left 5 ∷ []) (at_level low 5 ∷ at_level left 6 ∷ [])

-- Inputs with different levels, at or below left in both, don't agree.
abbrev pub InputLevel : Type 0
InputLevel = InputsApart (at_level low 5 ∷ []) (at_level left 5 ∷ [])

-- Inputs whose level is at or below left in one alone don't agree.
abbrev pub InputSeenInOne : Type 0
InputSeenInOne = InputsApart (at_level left 5 ∷ []) (at_level right 5 ∷ [])

-- Cycles of which one has an input more don't agree, though that input's level isn't at or below left.
abbrev pub InputTooMany : Type 0
InputTooMany = InputsApart (at_level low 5 ∷ []) (at_level low 5 ∷ at_level high 6 ∷ [])

-- The two streams don't agree at or below `left`.
abbrev pub StreamsApart : List (List Tagged) → List (List Tagged) → Type 0
StreamsApart a b = StreamsAgree four_levels left a b → ⊥

-- Two streams agree at left, since in each cycle the inputs do.
abbrev pub StreamsAlike : Type 0
StreamsAlike = StreamsAgree four_levels left ((at_level low 5 ∷ []) ∷ (at_level right 6 ∷ []) ∷ [])
    ((at_level low 5 ∷ []) ∷ (at_level high 7 ∷ []) ∷ [])

-- Streams with a different number in the second cycle, at left in both, don't agree.
abbrev pub LaterCycle : Type 0
LaterCycle = StreamsApart ((at_level low 5 ∷ []) ∷ (at_level left 6 ∷ []) ∷ [])
    ((at_level low 5 ∷ []) ∷ (at_level left 7 ∷ []) ∷ [])

-- Streams of which one has a cycle more don't agree, though the input of that cycle isn't at or below left.
abbrev pub CycleTooMany : Type 0
CycleTooMany = StreamsApart ((at_level low 5 ∷ []) ∷ []) ((at_level low 5 ∷ []) ∷ (at_level high 6 ∷ []) ∷ [])

-- Streams don't agree if what is at or below left is the same but comes a cycle later in one.
abbrev pub CycleLater : Type 0
CycleLater = StreamsApart ((at_level low 5 ∷ []) ∷ (at_level high 6 ∷ []) ∷ [])
    ((at_level high 6 ∷ []) ∷ (at_level low 5 ∷ []) ∷ [])

-- Two streams that agree at left, and not at right.
pub record StreamsAgreeBelow : Type 0 where
  pub at_left : StreamsAgree four_levels left ((at_level right 5 ∷ []) ∷ []) ((at_level right 6 ∷ []) ∷ [])
  pub not_at_right : StreamsAgree four_levels right ((at_level right 5 ∷ []) ∷ []) ((at_level right 6 ∷ []) ∷ []) → ⊥

-- The two lists of refusals don't agree at or below `left`.
abbrev pub RefusalsApart : List Refusal → List Refusal → Type 0
RefusalsApart a b = RefusalsAgree four_levels left a b → ⊥

-- Two lists of refusals agree at left: without those at right and high, both have site 1 at low and site 3 at left.
abbrev pub RefusalsAlike : Type 0
RefusalsAlike = RefusalsAgree four_levels left
    (refused_at 1 low ∷ refused_at 2 right ∷ refused_at 3 left ∷ [])
    (refused_at 1 low ∷ refused_at 3 left ∷ refused_at 4 high ∷ [])

-- Refusals of different sites, at or below left in both, don't agree.
abbrev pub RefusedSite : Type 0
RefusedSite = RefusalsApart (refused_at 1 left ∷ []) (refused_at 2 left ∷ [])

-- Refusals of one site at different levels, at or below left in both, don't agree.
abbrev pub RefusedLevel : Type 0
RefusedLevel = RefusalsApart (refused_at 1 low ∷ []) (refused_at 1 left ∷ [])

-- Refusals of one site whose level is at or below left in one alone don't agree.
abbrev pub RefusedSeenInOne : Type 0
RefusedSeenInOne = RefusalsApart (refused_at 1 left ∷ []) (refused_at 1 right ∷ [])

-- Lists of refusals of which one has a refusal more, at or below left, don't agree.
abbrev pub RefusedTooMany : Type 0
RefusedTooMany = RefusalsApart (refused_at 1 low ∷ []) (refused_at 1 low ∷ refused_at 2 low ∷ [])

-- Two lists that agree at left, and not at right.
pub record RefusalsAgreeBelow : Type 0 where
  pub at_left : RefusalsAgree four_levels left (refused_at 1 right ∷ []) []
  pub not_at_right : RefusalsAgree four_levels right (refused_at 1 right ∷ []) [] → ⊥
