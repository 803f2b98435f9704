-- The faults of a module by their codes, and which of them is the first.
use Rattle.std.specs.Prelude.{◌≤◌, ℕ}
use Rattle.sap_vtext.specs.Items.{File}
use Rattle.sap_vtext.specs.Faults.{V3, V4, V5, V6, V7}
use Rattle.sap_vjudge.specs.declared.code.Code.{Code}
use Rattle.sap_vjudge.specs.declared.code.Code.TheVariants as code
use Rattle.sap_vjudge.specs.declared.fault.JudgeFault.{JudgeFault}
use Rattle.sap_vjudge.specs.declared.fault.JudgeFault.TheVariants.{Rule, Memory}

-- The number of a code.
abbrev pub number : Code → ℕ
number code.V3 = 3
number code.V4 = 4
number code.V5 = 5
number code.V6 = 6
number code.V7 = 7

-- A fault of this code stands at this place.
abbrev pub Stands : File → Code → ℕ → Type 0
Stands f code.V3 place = V3 f place
Stands f code.V4 place = V4 f place
Stands f code.V5 place = V5 f place
Stands f code.V6 place = V6 f place
Stands f code.V7 place = V7 f place

-- It stands there, none stands at an earlier place, and none of a lower code at this one.
pub record IsFirstFault (f : File) (c : Code) (place : ℕ) : Type 0 where
  pub stands : Stands f c place
  pub earliest : (other : Code) (at : ℕ) → Stands f other at → place ≤ at
  pub lowest : (other : Code) → Stands f other place → number c ≤ number other

-- Why a file is not taken: its first fault.
abbrev pub IsJudgeFault : File → JudgeFault → Type 0
IsJudgeFault f (Rule c place) = IsFirstFault f c place
IsJudgeFault f Memory = ⊥
