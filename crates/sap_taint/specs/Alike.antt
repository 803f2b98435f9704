-- When contents with tags look alike, and runs of them.
use Rattle.std.specs.Prelude.{◌≡◌, ◌<◌, ℕ, Bool, true, false, ◌==◌, List, Some, bit_or}
use Rattle.std.specs.List.{AllZip}
use Rattle.sap_lattice.specs.Order.{Order}
use Rattle.sap_lattice.specs.Codes.{code_of}
use Rattle.sap_maps.specs.Maps.{Name}
use Rattle.sap_maps.specs.Scope.{find}
use Rattle.sap_meaning.specs.Agree.{Relation, AlikeBy}
use Rattle.sap_net.specs.Net.{Net}
use Rattle.sap_net.specs.IsNetlist.{readable, shapes}
use Rattle.sap_taint.specs.Runs.{TaggedNumber, TaggedValuation}

-- The same, with equal tags.
abbrev pub Equal : Relation
Equal Same t u = Same × (t ≡ u)

-- Every bit of t is one of c.
abbrev pub is_within : (t c : ℕ) → Bool
is_within t c = bit_or t c == c

-- They look alike to one to whom the tags within c are low and all others high, whatever numbers tags are.
abbrev pub AlikeWithin : (c : ℕ) → Relation
AlikeWithin c = AlikeBy (λ t. is_within t c ≡ true) (λ t. is_within t c ≡ false)

-- `t` is the code of a level.
abbrev pub IsCode : Order → (t : ℕ) → Type 0
IsCode o t = (a : ℕ) × (a < o.count) × (code_of o a ≡ t)

-- Every input, wire and register is so related, its content being its number, and every memory, its content being all
-- its cells.
pub record AreRelated (R : Relation) (n : Net) (c d : TaggedValuation) : Type 0 where
  pub value : (x : Name) (w : ℕ) → find (readable n) x ≡ Some w
      → R (c.numbers.value x ≡ d.numbers.value x) (c.tags.value x) (d.tags.value x)
  pub memory : (m : Name) (s : ℕ × ℕ) → find (shapes n) m ≡ Some s
      → R ((i : ℕ) → c.numbers.cell m i ≡ d.numbers.cell m i) (c.tags.memory m) (d.tags.memory m)

-- As many cycles, and each is so related.
abbrev pub RunsRelated : Relation → Net → List TaggedValuation → List TaggedValuation → Type 0
RunsRelated R n = AllZip (AreRelated R n)

-- As many inputs, and each is so related.
abbrev pub InputsRelated : Relation → List TaggedNumber → List TaggedNumber → Type 0
InputsRelated R = AllZip (λ (a b : TaggedNumber). R (a.number ≡ b.number) a.tag b.tag)

-- Two streams are related cycle by cycle.
abbrev pub StreamsRelated : Relation → List (List TaggedNumber) → List (List TaggedNumber) → Type 0
StreamsRelated R = AllZip (InputsRelated R)
