-- Wires that have one number as long as a register has its start.
use Rattle.std.specs.Prelude.{◌≡◌, ℕ, ◌==◌, ◌&&◌, Bool, List, Option, Some, None, bytes_eq, if◌then◌else◌, IfSome}
use Rattle.sap_maps.specs.Maps.{Name, Valuation}
use Rattle.sap_net.specs.Values.{operand_value, Holds}
use Rattle.sap_net.specs.declared.parts.Operand.{Operand}
use Rattle.sap_net.specs.declared.parts.Operand.TheVariants.{Named, Constant}
use Rattle.sap_net.specs.declared.parts.Right.{Right}
use Rattle.sap_net.specs.declared.parts.Right.TheVariants.{Copy, Choose}
use Rattle.sap_net.specs.declared.parts.Register.{Register}
use Rattle.sap_net.specs.declared.parts.Wire.{Wire}
use Rattle.sap_trim.specs.declared.stays.Stay.{Stay}
use Rattle.sap_trim.specs.declared.stays.Stay.TheVariants.{Always, While}

-- The number that stays.
abbrev pub number_of : Stay → ℕ
number_of (Always n) = n
number_of (While r n) = n

-- The register has the stay's number, if it asks for one.
abbrev pub Stays : Valuation → Stay → Type 0
Stays v (Always n) = Unit {0}
Stays v (While r n) = v.value r ≡ n

-- Where the wires' equations hold, x has the number as long as the register has it.
abbrev pub NameStays : List Wire → Name → Stay → Type 0
NameStays ws x s = (widths : Name → ℕ) (v : Valuation) → Holds widths v ws → Stays v s → v.value x ≡ number_of s

-- Each name of which something is said stays as it is said.
abbrev pub AllStay : List Wire → (Name → Option Stay) → Type 0
AllStay ws e = (x : Name) → IfSome (e x) (NameStays ws x)

-- What is known of an operand: a constant always stays.
abbrev pub operand_stay : (Name → Option Stay) → Operand → Option Stay
operand_stay e (Named x) = e x
operand_stay e (Constant w n) = Some (Always n)

-- Two are at one number, and ask for at most one register.
abbrev pub agree : (a b : Stay) → Bool
agree (Always m) (Always n) = m == n
agree (Always m) (While y n) = m == n
agree (While x m) (Always n) = m == n
agree (While x m) (While y n) = m == n && bytes_eq x y

-- The one that asks for a register.
abbrev pub stronger : (a b : Stay) → Stay
stronger (Always m) b = b
stronger (While x m) b = While x m

-- What two parts have in common, where they agree.
abbrev pub both : (a b : Stay) → Option Stay
both a b = if agree a b then Some (stronger a b) else None

-- What a choice of two has: what both have.
abbrev pub either : Option Stay → Option Stay → Option Stay
either None b = None
either (Some a) None = None
either (Some a) (Some b) = both a b

-- What is known of a right side.
abbrev pub right_stay : (Name → Option Stay) → Right → Option Stay
right_stay e (Copy a) = operand_stay e a
right_stay e (Choose c a b) = either (operand_stay e a) (operand_stay e b)
right_stay e r = None

-- The register keeps this number.
abbrev pub is_at : Stay → Name → ℕ → Bool
is_at (Always m) x n = m == n
is_at (While r m) x n = m == n && bytes_eq r x

-- What a register takes at the edge is its start, wherever the wires' equations hold and it has its start.
abbrev pub KeepsStart : List Wire → Register → Type 0
KeepsStart ws r = (widths : Name → ℕ) (v : Valuation) → Holds widths v ws → v.value r.name ≡ r.start
    → operand_value v r.next ≡ r.start
