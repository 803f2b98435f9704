-- The wires of a netlist one after another.
use Rattle.std.specs.Prelude.{◌≡◌, ◌⊎◌, ℕ, Bool, Option, List, [], ◌∷◌, ◌++◌, Some, map}
use Rattle.sap_maps.specs.Maps.{Name}
use Rattle.sap_maps.specs.Scope.{find}
use Rattle.sap_net.specs.Net.{Net}
use Rattle.sap_net.specs.IsNetlist.{input_names, register_names}
use Rattle.sap_net.specs.declared.parts.Operand.{Operand}
use Rattle.sap_net.specs.declared.parts.Operand.TheVariants.{Named, Constant}
use Rattle.sap_net.specs.declared.parts.Right.{Right}
use Rattle.sap_net.specs.declared.parts.Register.{Register}
use Rattle.sap_net.specs.declared.parts.Wire.{Wire}
use Rattle.sap_net.specs.NameMaps.{Puts}
use Rattle.sap_trim.specs.declared.walk.Walk.{Walk}
use Rattle.sap_fold.specs.Folding.{settled}
use Rattle.sap_fold.specs.Gives.{Gives}
use Rattle.sap_trim.specs.Replaced.{Stands, replaced}
use Rattle.sap_fold.specs.Wires.{Provides}
use Rattle.sap_trim.specs.Stays.{KeepsStart}

-- The helping wires so far, the number of the next one, and what each name of the netlist stands for.
pub record State : Type 0 where
  pub wires : List Wire
  pub next : ℕ
  pub stands : Stands

-- What the walk holds, as the definitions have it.
abbrev pub state_of : Walk → State
state_of w = record { wires = w.wires.list.items; next = w.wires.next; stands = find w.stands }

-- P holds of some register.
abbrev pub SomeRegister : (Register → Type 0) → List Register → Type 0
SomeRegister P [] = ⊥
SomeRegister P (r ∷ rs) = P r ⊎ SomeRegister P rs

-- `x` is the name of a register that keeps its start, and stands for that.
abbrev pub StartsAt : List Wire → Name → Option Operand → Register → Type 0
StartsAt ws x o r = KeepsStart ws r × (r.name ≡ x) × (o ≡ Some (Constant r.width r.start))

-- `x` stands for what it did, or for the start of a register that keeps it.
abbrev pub Starts : List Wire → List Register → Name → (before after : Option Operand) → Type 0
Starts ws rs x before after = (after ≡ before) ⊎ SomeRegister (StartsAt ws x after) rs

-- A name stands for itself.
abbrev pub itself : Name → Name × Operand
itself x = (x, Named x)

-- Inputs and registers, each standing for itself.
abbrev pub themselves : Net → List (Name × Operand)
themselves n = map itself (input_names n ++ register_names n)

-- Inputs and registers stand for themselves, and no other name for anything.
abbrev pub StandForThemselves : Net → State → Type 0
StandForThemselves n s = (x : Name) → s.stands x ≡ find (themselves n) x

-- At first inputs and registers stand for themselves, or a register that keeps its start for that.
pub record Begins (n : Net) (s : State) : Type 0 where
  pub wires : s.wires ≡ []
  pub next : s.next ≡ 0
  pub stands : (x : Name) → Starts n.wires n.registers x (find (themselves n) x) (s.stands x)

-- The name x stands for what has the value of r.
pub record Steps (taken : Name → Bool) (s : State) (x : Name) (u : ℕ) (r : Right) (t : State) : Type 0 where
  pub operand : Operand
  pub provides : Provides taken s.wires s.next u r operand t.wires t.next
  pub binds : Puts s.stands x operand t.stands

-- A wire with its operands replaced, and its right side folded.
abbrev pub Settles : (taken : Name → Bool) → State → Wire → State → Type 0
Settles taken s w t = Steps taken s w.name w.width (settled w.width (replaced s.stands w.right)) t

-- `x` stands for an operand that has the value of its right side with the operands replaced.
pub record Folds (taken : Name → Bool) (s : State) (w : Wire) (t : State) : Type 0 where
  pub operand : Operand
  pub gives : Gives taken s.wires s.next w.width (replaced s.stands w.right) operand t.wires t.next
  pub binds : Puts s.stands w.name operand t.stands

-- A step for each wire, in order.
abbrev pub Walked : (State → Wire → State → Type 0) → State → List Wire → State → Type 0
Walked Step s [] t = s ≡ t
Walked Step s (w ∷ ws) t = (m : State) × Step s w m × Walked Step m ws t
