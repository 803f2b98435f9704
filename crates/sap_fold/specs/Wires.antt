-- One more helping wire, or the one that has its right side already.
use Rattle.std.specs.Prelude.{◌≡◌, ℕ, ◌+◌, ◌^◌, ◌<◌, ◌≤◌, ◌⊎◌, Bool, false, List, [], ◌∷◌, ◌++◌, length, slice_index_or, Some, None}
use Rattle.sap_maps.specs.Maps.{Name}
use Rattle.sap_maps.specs.Scope.{find}
use Rattle.sap_net.specs.declared.parts.Operand.{Operand}
use Rattle.sap_net.specs.declared.parts.Operand.TheVariants.{Named}
use Rattle.sap_net.specs.declared.parts.Right.{Right}
use Rattle.sap_net.specs.declared.parts.Right.TheVariants.{Copy}
use Rattle.sap_net.specs.declared.parts.Wire.{Wire}
use Rattle.sap_share.specs.Keys.{key}
use Rattle.sap_share.specs.Names.{helper}
use Rattle.sap_share.specs.Rights.{rights}

-- A number from `from` on whose name is not taken, and that name; `from` itself, where its name is not taken.
pub record IsFree (taken : Name → Bool) (from k : ℕ) (n : Name) : Type 0 where
  pub behind : from ≤ k
  pub small : k + 1 < 2 ^ 64
  pub name : n ≡ helper k
  pub free : taken n ≡ false
  pub first : taken (helper from) ≡ false → k ≡ from

-- `n` is the name of a new last wire of width u and right side r.
pub record AddsNew (taken : Name → Bool) (ws : List Wire) (next u : ℕ) (r : Right) (n : Name)
    (after : List Wire) (next_after : ℕ) : Type 0 where
  pub new : find (rights ws) (key u r) ≡ None
  pub number : ℕ
  pub free : IsFree taken next number n
  pub wires : after ≡ ws ++ record { name = n; width = u; right = r } ∷ []
  pub next_is : next_after ≡ number + 1

-- `n` is the name of a wire of width u and right side r that is there.
pub record IsThere (ws : List Wire) (next u : ℕ) (r : Right) (n : Name) (after : List Wire)
    (next_after : ℕ) : Type 0 where
  pub found : find (rights ws) (key u r) ≡ Some n
  pub wires : after ≡ ws
  pub next_is : next_after ≡ next

-- The right side has its name among the wires already, or a new wire is added for it.
abbrev pub Adds : (taken : Name → Bool) (ws : List Wire) (next u : ℕ) (r : Right) (n : Name)
    (after : List Wire) (next_after : ℕ) → Type 0
Adds taken ws next u r n after next_after =
    IsThere ws next u r n after next_after ⊎ AddsNew taken ws next u r n after next_after

-- `w` is one of the wires, and has the name x.
pub record HasWire (ws : List Wire) (x : Name) (w : Wire) : Type 0 where
  pub place : ℕ
  pub within : place < length ws
  pub is : w ≡ slice_index_or ws place w
  pub named : w.name ≡ x

-- The operand that has a right side's value: the copied one, or a helping wire.
abbrev pub Provides : (taken : Name → Bool) (ws : List Wire) (next u : ℕ) → Right → Operand
    → (after : List Wire) (next_after : ℕ) → Type 0
Provides taken ws next u (Copy a) o after next_after = (o ≡ a) × (after ≡ ws) × (next_after ≡ next)
Provides taken ws next u r o after next_after = (x : Name) × (o ≡ Named x) × Adds taken ws next u r x after next_after
