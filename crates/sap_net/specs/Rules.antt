-- The rules of use and of widths.
use Rattle.std.specs.Prelude.{◌≡◌, ℕ, ◌+◌, ◌-◌, ◌^◌, ◌<◌, ◌≤◌, List, [], ◌∷◌, length, Some, None}
use Rattle.sap_bits.specs.Arithmetic.{width1, width2}
use Rattle.sap_maps.specs.Maps.{Name}
pub use Rattle.sap_maps.specs.Ranges.{IsDepth, IsWidth}
use Rattle.sap_maps.specs.Scope.{Scope, find}
use Rattle.sap_maps.specs.Term.{CountFits}
use Rattle.sap_net.specs.declared.parts.Operand.{Operand}
use Rattle.sap_net.specs.declared.parts.Operand.TheVariants.{Named, Constant}
use Rattle.sap_net.specs.declared.parts.Right.{Right}
use Rattle.sap_net.specs.declared.parts.Right.TheVariants.{Copy, One, Two, Choose, Concat, Slice, Cell}
use Rattle.sap_net.specs.declared.parts.Wire.{Wire}
use Rattle.sap_net.specs.declared.parts.Register.{Register}
use Rattle.sap_net.specs.declared.parts.Memory.{Memory}

-- `Shapes` has the width and the depth of each memory.
abbrev pub Shapes : Type 0
Shapes = List (Name × (ℕ × ℕ))

-- An operand of width w: a name that can be read, or a number that fits.
abbrev pub IsOperand : (readable : Scope) (w : ℕ) → Operand → Type 0
IsOperand readable w (Named x) = find readable x ≡ Some w
IsOperand readable w (Constant u n) = (u ≡ w) × (n < 2 ^ w)

-- Operands whose widths have the sum w.
abbrev pub AreOperands : (readable : Scope) (w : ℕ) → List Operand → Type 0
AreOperands readable w [] = w ≡ 0
AreOperands readable w (o ∷ os) =
    (u : ℕ) × (r : ℕ) × IsWidth u × IsOperand readable u o × AreOperands readable r os × (w ≡ u + r)

-- A right side suits a wire of width w: its operands can be read, and their widths are those that its form asks for.
abbrev pub IsRight : (memories : Shapes) (readable : Scope) (w : ℕ) → Right → Type 0
IsRight memories readable w (Copy a) = IsOperand readable w a
IsRight memories readable w (One op a) = (u : ℕ) × IsWidth u × IsOperand readable u a × (w ≡ width1 op u)
IsRight memories readable w (Two op a b) =
    (u : ℕ) × (t : ℕ) × IsWidth u × IsWidth t × IsOperand readable u a × IsOperand readable t b
    × CountFits op u t × (w ≡ width2 op u)
IsRight memories readable w (Choose c a b) = IsOperand readable 1 c × IsOperand readable w a × IsOperand readable w b
IsRight memories readable w (Concat os) = (2 ≤ length os) × AreOperands readable w os
IsRight memories readable w (Slice x hi lo) = (u : ℕ) × IsWidth u × (find readable x ≡ Some u)
    × (lo ≤ hi) × (hi < u) × (w ≡ hi + 1 - lo)
IsRight memories readable w (Cell m i) = (b : ℕ) × (find memories m ≡ Some (w, 2 ^ b)) × IsOperand readable b i

-- Each wire has a name of its own, and reads what was there before it.
abbrev pub AreWires : (memories : Shapes) (readable : Scope) → List Wire → Type 0
AreWires memories readable [] = Unit {0}
AreWires memories readable (w ∷ ws) =
    IsWidth w.width × (find readable w.name ≡ None) × (find memories w.name ≡ None)
    × IsRight memories readable w.width w.right
    × AreWires memories ((w.name, w.width) ∷ readable) ws

-- `readable_after` is what can be read behind some wires.
abbrev pub readable_after : Scope → List Wire → Scope
readable_after readable [] = readable
readable_after readable (w ∷ ws) = readable_after ((w.name, w.width) ∷ readable) ws

-- The register's start fits its width, and its next operand is readable and as wide.
abbrev pub IsRegister : (readable : Scope) → Register → Type 0
IsRegister readable r = (r.start < 2 ^ r.width) × IsOperand readable r.width r.next

-- A memory's depth is a power of two, its start fits, and its write port has a condition of one bit, an index of its
-- depth and a value of its width.
pub record IsMemory (readable : Scope) (m : Memory) : Type 0 where
  pub bits : ℕ
  pub depth : IsDepth m.depth bits
  pub start : m.start < 2 ^ m.width
  pub enable : IsOperand readable 1 m.enable
  pub index : IsOperand readable bits m.index
  pub value : IsOperand readable m.width m.value

-- Inputs and registers have a width, and each a name that nothing else has.
abbrev pub AreValues : (memories : Shapes) → Scope → Type 0
AreValues memories [] = Unit {0}
AreValues memories (e ∷ es) = IsWidth e.1 × (find es e.0 ≡ None) × (find memories e.0 ≡ None) × AreValues memories es

-- Memories have a width, and each a name of its own.
abbrev pub AreMemories : Shapes → Type 0
AreMemories [] = Unit {0}
AreMemories (e ∷ es) = IsWidth e.1.0 × (find es e.0 ≡ None) × AreMemories es
