-- Faults of a design, and which of several is answered.
use Rattle.std.specs.Prelude.{◌≡◌, ◌<◌, ◌≤◌, ◌⊎◌, ℕ, List, Option}
use Rattle.sap_text.specs.Best as best
pub use Rattle.sap_text.specs.Best.{StandsIn}
pub use Rattle.sap_names.specs.declared.fault.Fault.{Fault}
use Rattle.sap_names.specs.declared.kind.Code.{Code}
use Rattle.sap_names.specs.declared.kind.Code.TheVariants.{E3, E4, E5, E6, E7, E8, E9, E10, E11, E12, E14, E15, E16, E17}

-- The number of a code.
abbrev pub number : Code → ℕ
number E3 = 3
number E4 = 4
number E5 = 5
number E6 = 6
number E7 = 7
number E8 = 8
number E9 = 9
number E10 = 10
number E11 = 11
number E12 = 12
number E14 = 14
number E15 = 15
number E16 = 16
number E17 = 17

-- By place, then by code.
abbrev pub Before : Fault → Fault → Type 0
Before a b = (a.place.line < b.place.line)
    ⊎ ((a.place.line ≡ b.place.line) × (a.place.column < b.place.column)
    ⊎ ((a.place.line ≡ b.place.line) × (a.place.column ≡ b.place.column) × (number a.code ≤ number b.code)))

-- A fault comes before all of these.
abbrev pub BeforeAll : Fault → List Fault → Type 0
BeforeAll a fs = best.BeforeAll Before a fs

-- The first of the faults that stand; none where none stands.
abbrev pub First : Option Fault → List Fault → Type 0
First o fs = best.First Before o fs
