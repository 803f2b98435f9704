-- Slices of what helping wires define.
use Rattle.std.specs.Prelude.{◌≡◌, ℕ, ◌+◌, ◌-◌, ◌<◌, ◌≤◌, nat_le, nat_lt, ◌&&◌, List, length, ◌∷◌, ◌++◌, if◌then◌else◌}
use Rattle.sap_bits.specs.Arithmetic.{slice_of}
use Rattle.sap_maps.specs.Maps.{Name}
use Rattle.sap_maps.specs.Scope.{Scope}
use Rattle.sap_net.specs.Rules.{Shapes, IsOperand, AreOperands, AreWires, readable_after}
use Rattle.sap_net.specs.declared.parts.Operand.{Operand}
use Rattle.sap_net.specs.declared.parts.Operand.TheVariants.{Named, Constant}
use Rattle.sap_net.specs.declared.parts.Right.{Right}
use Rattle.sap_net.specs.declared.parts.Right.TheVariants.{Copy, Slice}
use Rattle.sap_net.specs.declared.parts.Wire.{Wire}
use Rattle.sap_fold.specs.Equals.{Equals}
use Rattle.sap_fold.specs.Seen.{Defines}

-- The bits of an operand from lo up to hi.
abbrev pub sliced : Operand → (hi lo : ℕ) → Right
sliced (Named x) hi lo = Slice x hi lo
sliced (Constant w n) hi lo =
    if nat_le lo hi && nat_lt hi 64 then Copy (Constant (hi + 1 - lo) (slice_of n hi lo)) else Copy (Constant 0 0)

-- Wherever o is an operand behind the wires, it has the width u.
abbrev pub HasWidth : List Wire → Operand → ℕ → Type 0
HasWidth ws o u = (memories : Shapes) (sc : Scope) (t : ℕ) → AreWires memories sc ws
    → IsOperand (readable_after sc ws) t o → t ≡ u

-- Wherever the operands are readable, their widths sum up to u.
abbrev pub HaveWidth : List Wire → List Operand → ℕ → Type 0
HaveWidth ws os u = (memories : Shapes) (sc : Scope) (t : ℕ) → AreWires memories sc ws
    → AreOperands (readable_after sc ws) t os → t ≡ u

-- The bits from lo up to hi lie within one part, with `behind` bits behind it.
pub record IsPartAt (ws : List Wire) (os : List Operand) (hi lo part behind : ℕ) : Type 0 where
  pub front : List Operand
  pub one : Operand
  pub rest : List Operand
  pub parts : os ≡ front ++ one ∷ rest
  pub place : part ≡ length front
  pub behind_is : HaveWidth ws rest behind
  pub low : behind ≤ lo
  pub wide : ℕ
  pub wide_is : HasWidth ws one wide
  pub high : hi < behind + wide

-- `r` is the slice of the part.
pub record OfParts (ws : List Wire) (os : List Operand) (hi lo : ℕ) (r : Right) : Type 0 where
  pub part : ℕ
  pub behind : ℕ
  pub part_at : IsPartAt ws os hi lo part behind
  pub is : r ≡ sliced part_at.one (hi - behind) (lo - behind)

-- `r` is the slice of a wire of this right side, which it names no more.
abbrev pub SlicesRight : List Wire → Right → (hi lo : ℕ) → Right → Type 0
SlicesRight ws d hi lo r = (x : Name) (u : ℕ) → Defines ws (Named x) d → Equals ws u (Slice x hi lo) r
