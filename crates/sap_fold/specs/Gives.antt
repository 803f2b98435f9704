-- What is known of an operand that stands for a right side over helping wires, of which some are new.
use Rattle.std.specs.Prelude.{◌≡◌, ℕ, ◌^◌, ◌<◌, Bool, false, List, ◌++◌, None}
use Rattle.std.specs.List.{AllByRecursion}
use Rattle.sap_maps.specs.Maps.{Name, Valuation}
use Rattle.sap_maps.specs.Scope.{Scope, find}
use Rattle.sap_net.specs.Rules.{Shapes, IsWidth, IsOperand, IsRight, AreWires, readable_after}
use Rattle.sap_net.specs.Values.{operand_value, right_value}
use Rattle.sap_net.specs.declared.parts.Operand.{Operand}
use Rattle.sap_net.specs.declared.parts.Right.{Right}
use Rattle.sap_net.specs.declared.parts.Wire.{Wire}
use Rattle.sap_share.specs.Names.{helper}
use Rattle.sap_fold.specs.Equals.{Over}

-- Each of the wires is a helping wire whose number is below `next` and whose name isn't taken.
abbrev pub Each : (taken : Name → Bool) (ws : List Wire) (next : ℕ) → Type 0
Each taken ws next = AllByRecursion (λ w. (k : ℕ) × (k < next) × (w.name ≡ helper k) × (taken w.name ≡ false)) ws

-- The names of the wires are those of numbers below `next` that are not taken.
pub record Numbers (taken : Name → Bool) (ws : List Wire) (next : ℕ) : Type 0 where
  pub small : next < 2 ^ 64
  pub each : Each taken ws next

-- A name that is not taken is new to the scope and to the memories.
abbrev pub TakenApart : (taken : Name → Bool) → Shapes → Scope → Type 0
TakenApart taken ms sc = (n : Name) → taken n ≡ false → (find sc n ≡ None) × (find ms n ≡ None)

-- What is known of the wires before: they fit behind the scope, their names are numbered, a name that isn't taken is
-- new, and u is a width.
pub record Stand (taken : Name → Bool) (ms : Shapes) (sc : Scope) (ws : List Wire) (next u : ℕ) : Type 0 where
  pub apart : TakenApart taken ms sc
  pub named : Numbers taken ws next
  pub fits : AreWires ms sc ws
  pub wide : IsWidth u

-- What is known of wires to which a right side was added: the operand that stands for it is over them.
pub record Provided (taken : Name → Bool) (ms : Shapes) (sc : Scope) (ws : List Wire) (u : ℕ)
    (o : Operand) (after : List Wire) (next_after : ℕ) : Type 0 where
  pub fits : AreWires ms sc after
  pub named : Numbers taken after next_after
  pub more : List Wire
  pub wires : after ≡ ws ++ more
  pub operand : IsOperand (readable_after sc after) u o

-- Wherever r is a right side of width u behind the wires, o is an operand behind those after, the same ones and perhaps
-- more, and has its value.
pub record Gives (taken : Name → Bool) (ws : List Wire) (next u : ℕ) (r : Right) (o : Operand)
    (after : List Wire) (next_after : ℕ) : Type 0 where
  pub fits : (memories : Shapes) (sc : Scope) → Stand taken memories sc ws next u
      → IsRight memories (readable_after sc ws) u r → Provided taken memories sc ws u o after next_after
  pub same : (memories : Shapes) (sc : Scope) (widths : Name → ℕ) (v : Valuation) → Stand taken memories sc ws next u
      → IsRight memories (readable_after sc ws) u r → Over memories sc after widths v
      → right_value widths v r ≡ operand_value v o

-- The wires after are the same ones and perhaps more.
pub record Grown (taken : Name → Bool) (ms : Shapes) (sc : Scope) (ws after : List Wire) (next_after : ℕ) : Type 0 where
  pub fits : AreWires ms sc after
  pub named : Numbers taken after next_after
  pub more : List Wire
  pub wires : after ≡ ws ++ more

-- Wherever a is a right side of width u behind the wires, b is one behind those after, and has its value.
pub record Becomes (taken : Name → Bool) (ws : List Wire) (next u : ℕ) (a b : Right) (after : List Wire)
    (next_after : ℕ) : Type 0 where
  pub grown : (memories : Shapes) (sc : Scope) → Stand taken memories sc ws next u
      → IsRight memories (readable_after sc ws) u a → Grown taken memories sc ws after next_after
  pub fits : (memories : Shapes) (sc : Scope) → Stand taken memories sc ws next u
      → IsRight memories (readable_after sc ws) u a → IsRight memories (readable_after sc after) u b
  pub same : (memories : Shapes) (sc : Scope) (widths : Name → ℕ) (v : Valuation) → Stand taken memories sc ws next u
      → IsRight memories (readable_after sc ws) u a → Over memories sc after widths v
      → right_value widths v a ≡ right_value widths v b

-- Where the bit c has the number n, the operand a of width u has the value of p behind the wires after.
pub record ArmGives (taken : Name → Bool) (ws : List Wire) (next u : ℕ) (c : Operand) (n : ℕ)
    (a p : Operand) (after : List Wire) (next_after : ℕ) : Type 0 where
  pub fits : (memories : Shapes) (sc : Scope) → Stand taken memories sc ws next u → IsOperand (readable_after sc ws) 1 c
      → IsOperand (readable_after sc ws) u a → Provided taken memories sc ws u p after next_after
  pub same : (memories : Shapes) (sc : Scope) (widths : Name → ℕ) (v : Valuation) → Stand taken memories sc ws next u
      → IsOperand (readable_after sc ws) 1 c → IsOperand (readable_after sc ws) u a → Over memories sc after widths v
      → operand_value v c ≡ n → operand_value v a ≡ operand_value v p
