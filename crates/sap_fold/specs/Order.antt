-- Comparisons of an operand with `|` of it and another.
use Rattle.std.specs.Prelude.{◌≡◌, ◌⊎◌, ℕ, ◌+◌, ◌-◌, ◌^◌, ◌<◌, Bool, true, List}
use Rattle.sap_bits.specs.declared.Op2.TheVariants.{Or}
use Rattle.sap_maps.specs.Maps.{Name}
use Rattle.sap_net.specs.declared.parts.Operand.{Operand}
use Rattle.sap_net.specs.declared.parts.Operand.TheVariants.{Named, Constant}
use Rattle.sap_net.specs.declared.parts.Right.TheVariants.{Two}
use Rattle.sap_net.specs.declared.parts.Wire.{Wire}
use Rattle.sap_fold.specs.Seen.{Defines}
use Rattle.sap_fold.specs.Slices.{HasWidth}

-- The operand is a number whose bits are all 1 but the one at place k.
pub record HasGap (o : Operand) (k : ℕ) : Type 0 where
  pub width : ℕ
  pub value : ℕ
  pub is : o ≡ Constant width value
  pub place : k < width
  pub gap : value + 2 ^ k ≡ 2 ^ width - 1

-- `b` is `|` of a and p, in either order.
pub record JoinedWith (ws : List Wire) (a b p : Operand) : Type 0 where
  pub first : Operand
  pub second : Operand
  pub defines : Defines ws b (Two Or first second)
  pub pair : ((first ≡ a) × (p ≡ second)) ⊎ ((second ≡ a) × (p ≡ first))

-- `b` is `|` of what x stands for and the number a, whose bits are all 1 but the one at place k.
pub record AsksBit (ws : List Wire) (a b : Operand) (x : Name) (k : ℕ) : Type 0 where
  pub number : HasGap a k
  pub joined : JoinedWith ws a b (Named x)

-- One of the two operands asks for the bit and the other is asked.
abbrev pub EitherAsks : List Wire → (a b : Operand) → Name → ℕ → Type 0
EitherAsks ws a b x k = AsksBit ws a b x k ⊎ AsksBit ws b a x k

-- Where the test holds the operand has one bit.
abbrev pub IsBitWire : List Wire → Operand → Bool → Type 0
IsBitWire ws o t = t ≡ true → HasWidth ws o 1

-- `b` has one bit, and is `|` of a and p.
pub record BitBeside (ws : List Wire) (a b p : Operand) : Type 0 where
  pub wide : HasWidth ws b 1
  pub joined : JoinedWith ws a b p
