-- The wires that an expression becomes.
use Rattle.std.specs.Prelude.{ℕ, ◌+◌, ◌-◌, ◌%◌, nat_le, nat_lt, ◌||◌, Bool, false, List, [], ◌∷◌, ◌++◌, length, Option, Some, None, unwrap_or, if◌then◌else◌}
use Rattle.sap_bits.specs.Arithmetic.{width1, width2, slice_of}
use Rattle.sap_bits.specs.declared.Op2.{Op2}
use Rattle.sap_bits.specs.declared.Op2.TheVariants.{Shl, Shr}
use Rattle.sap_maps.specs.Maps.{Name}
use Rattle.sap_maps.specs.Scope.{find}
use Rattle.sap_maps.specs.Term.{Term, constant, read, cell, one, two, choose, join, part}
use Rattle.sap_net.specs.Rules.{Shapes}
use Rattle.sap_net.specs.declared.parts.Operand.{Operand}
use Rattle.sap_net.specs.declared.parts.Operand.TheVariants.{Named, Constant}
use Rattle.sap_net.specs.declared.parts.Right.{Right}
use Rattle.sap_net.specs.declared.parts.Right.TheVariants.{Copy, One, Two, Choose, Concat, Slice, Cell}
use Rattle.sap_net.specs.declared.parts.Wire.{Wire}
use Rattle.sap_share.specs.Keys.{key}
use Rattle.sap_share.specs.Names.{helper}
use Rattle.sap_share.specs.Rights.{rights}
use Rattle.sap_fold.specs.Folding.{settled}
use Rattle.sap_lower.specs.declared.parts.Part.{Part}

-- The part of what has no bits.
abbrev pub nothing : Part
nothing = record { operand = Constant 0 0; width = 0 }

-- What a name stands for.
abbrev pub present : List (Name × Part) → Name → Part
present es x = unwrap_or (find es x) nothing

-- Wires, and an operand with its width.
pub record Low : Type 0 where
  pub wires : List Wire
  pub part : Part

-- A wire that is there, or one more wire.
abbrev pub shared : Option Name → List Wire → (width : ℕ) → Right → Low
shared (Some n) ws w r = record { wires = ws; part = record { operand = Named n; width = w } }
shared None ws w r =
    record {
      wires = ws ++ record { name = helper (length ws); width = w; right = r } ∷ [];
      part = record { operand = Named (helper (length ws)); width = w };
    }

-- The wire of this width and right side.
abbrev pub plus : List Wire → (width : ℕ) → Right → Low
plus ws w r = shared (find (rights ws) (key w r)) ws w r

-- The operand that a right side copies.
abbrev pub copied : Right → Option Operand
copied (Copy o) = Some o
copied _ = None

-- This operand, or else the wire of this width and right side.
abbrev pub placed : Option Operand → List Wire → (width : ℕ) → Right → Low
placed (Some o) ws w r = record { wires = ws; part = record { operand = o; width = w } }
placed None ws w r = plus ws w r

-- The operand that a right side of this width folds to, or its wire.
unfoldable pub calculated : List Wire → (width : ℕ) → Right → Low
calculated ws w r = placed (copied (settled w r)) ws w r

-- A shift by a constant that leaves nothing.
abbrev pub is_past : (width : ℕ) → Operand → Bool
is_past w (Named x) = false
is_past w (Constant u n) = nat_le w n

-- The operator is a shift by the width or more.
abbrev pub leaves_nothing : Op2 → (width : ℕ) → Operand → Bool
leaves_nothing Shl w o = is_past w o
leaves_nothing Shr w o = is_past w o
leaves_nothing _ w o = false

-- The wires of an operator of two operands.
abbrev pub low_two : Op2 → Part → Part → List Wire → Low
low_two op x y ws =
    if leaves_nothing op x.width y.operand then record {
      wires = ws;
      part = record { operand = Constant x.width 0; width = x.width };
    }
    else calculated ws (width2 op x.width) (Two op x.operand y.operand)

-- The wires of a slice of an operand.
abbrev pub sliced : Operand → (hi lo : ℕ) → List Wire → Low
sliced (Named x) hi lo ws = plus ws (hi + 1 - lo) (Slice x hi lo)
sliced (Constant w n) hi lo ws =
    record { wires = ws; part = record { operand = Constant (hi + 1 - lo) (slice_of n hi lo); width = hi + 1 - lo } }

-- Bits that no number has.
abbrev pub is_outside : (hi lo : ℕ) → Bool
is_outside hi lo = nat_lt hi lo || nat_lt 63 hi

-- The wires of a slice; outside of its operand it is nothing.
abbrev pub low_slice : Operand → (hi lo : ℕ) → List Wire → Low
low_slice o hi lo ws = if is_outside hi lo then record { wires = ws; part = nothing } else sliced o hi lo ws

-- The width of a memory's cells.
abbrev pub cell_width : Shapes → Name → ℕ
cell_width ms m = (unwrap_or (find ms m) (0, 0)).0

-- The wires of two parts, one in front of the other.
abbrev pub low_join : Part → Part → List Wire → Low
low_join x y ws = plus ws ((x.width + y.width) % 4294967296) (Concat (x.operand ∷ y.operand ∷ []))

-- The wires of a term, and the part that stands for it.
abbrev pub low : Shapes → List (Name × Part) → Term Name → List Wire → Low
low ms es (constant w n) ws = record { wires = ws; part = record { operand = Constant w n; width = w } }
low ms es (read x) ws = record { wires = ws; part = present es x }
low ms es (cell m i) ws = let y = low ms es i ws in plus y.wires (cell_width ms m) (Cell m y.part.operand)
low ms es (one op a) ws = let x = low ms es a ws in calculated x.wires (width1 op x.part.width) (One op x.part.operand)
low ms es (two op a b) ws =
    let x = low ms es a ws in
    let y = low ms es b x.wires in
    low_two op x.part y.part y.wires
low ms es (choose c a b) ws =
    let z = low ms es c ws in
    let x = low ms es a z.wires in
    let y = low ms es b x.wires in
    calculated y.wires x.part.width (Choose z.part.operand x.part.operand y.part.operand)
low ms es (join a b) ws =
    let x = low ms es a ws in
    let y = low ms es b x.wires in
    low_join x.part y.part y.wires
low ms es (part a hi lo) ws = let x = low ms es a ws in low_slice x.part.operand hi lo x.wires
