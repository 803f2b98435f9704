-- What was read so far is in range.
use Rattle.std.specs.Prelude.{ℕ, ◌^◌, ◌<◌, List, Option, IfSome}
use Rattle.std.specs.List.{AllByRecursion, AllZip}
use Rattle.sap_wave.specs.declared.variable.Variable.{Variable}
use Rattle.sap_wave.specs.Reading.{State, before_timescale, before_scope, declaring, before_end, before_blocks, in_block}
use Rattle.sap_wave.specs.Waves.{AreVariables, NumbersFit}

-- The numbers that are there are within the widths.
abbrev pub SomeFit : List Variable → List (Option ℕ) → Type 0
SomeFit = AllZip (λ (x : Variable) (o : Option ℕ). IfSome o (λ n. n < 2 ^ x.width))

-- The variables can be declared, and the numbers are within the widths.
abbrev pub IsSound : State → Type 0
IsSound before_timescale = Unit {0}
IsSound before_scope = Unit {0}
IsSound (declaring xs) = AreVariables xs
IsSound (before_end xs) = AreVariables xs
IsSound (before_blocks xs) = AreVariables xs
IsSound (in_block xs o) = AreVariables xs × SomeFit xs o.now × AllByRecursion (NumbersFit xs) o.before
