-- What holds of the runs of every netlist.
use Rattle.std.specs.Prelude.{◌≡◌, ℕ, List, Option, Some, None}
use Rattle.std.specs.List.{AllZip}
use Rattle.sap_maps.specs.Maps.{Name, Valuation}
use Rattle.sap_maps.specs.Scope.{find}
use Rattle.sap_net.specs.Net.{Net}
use Rattle.sap_net.specs.IsNetlist.{IsNetlist, readable, shapes}
use Rattle.sap_net.specs.Runs.{IsWithin, Begins, initial, InputsFit, AllFit, IsCycle, IsRun}

-- The numbers at all inputs, registers and wires, and in all memories, are equal.
pub record AreSame (n : Net) (v w : Valuation) : Type 0 where
  pub value : (x : Name) (u : ℕ) → find (readable n) x ≡ Some u → v.value x ≡ w.value x
  pub cell : (m : Name) (s : ℕ × ℕ) → find (shapes n) m ≡ Some s → (i : ℕ) → v.cell m i ≡ w.cell m i

-- The numbers in each cycle are equal.
abbrev pub AreSameRuns : Net → List Valuation → List Valuation → Type 0
AreSameRuns n = AllZip (AreSame n)

-- A run on each list of inputs that fit.
abbrev pub SomeRun : Net → Type 0
SomeRun n = (xss : List (List ℕ)) → AllFit n.inputs xss → (vs : List Valuation) × IsRun n xss vs

-- All runs on the same inputs have the same numbers.
abbrev pub OneRun : Net → Type 0
OneRun n = (xss : List (List ℕ)) (vs ws : List Valuation) → IsRun n xss vs → IsRun n xss ws → AreSameRuns n vs ws

-- The cycle before, if there was one, keeps within the net's widths.
abbrev pub WithinBefore : Net → Option Valuation → Type 0
WithinBefore n None = Unit {0}
WithinBefore n (Some p) = IsWithin n p

-- Two cycles before are both missing, or both there and the same on the net.
abbrev pub SameBefore : Net → Option Valuation → Option Valuation → Type 0
SameBefore n None None = Unit {0}
SameBefore n None (Some q) = ⊥
SameBefore n (Some p) None = ⊥
SameBefore n (Some p) (Some q) = AreSame n p q

-- There is a first cycle, and a cycle after each one whose numbers are within their widths, on all inputs that fit.
abbrev pub SomeCycle : Net → Type 0
SomeCycle n =
    (before : Option Valuation) (xs : List ℕ) → WithinBefore n before → InputsFit n.inputs xs
    → (v : Valuation) × IsCycle n before xs v

-- All cycles after the same one, or all first ones, on the same inputs have the same numbers.
abbrev pub OneCycle : Net → Type 0
OneCycle n =
    (p q : Option Valuation) (xs : List ℕ) (v w : Valuation) → SameBefore n p q → IsCycle n p xs v
    → IsCycle n q xs w → AreSame n v w

-- The first cycle begins with the numbers before it.
abbrev pub BeginsWithInitial : Type 0
BeginsWithInitial = (n : Net) → IsNetlist n → Begins n None (initial n)
