-- What an operand is where some facts hold.
use Rattle.std.specs.Prelude.{ℕ, zero, suc, ◌==◌, ◌&&◌, ◌||◌, not, Bool, false, List, map, bytes_eq, Option, Some, if◌then◌else◌}
use Rattle.std.specs.List.{list_any}
use Rattle.sap_bits.specs.declared.Op2.TheVariants.{And, Eq}
use Rattle.sap_maps.specs.Maps.{Name}
use Rattle.sap_net.specs.declared.parts.Operand.{Operand}
use Rattle.sap_net.specs.declared.parts.Operand.TheVariants.{Named, Constant}
use Rattle.sap_net.specs.declared.parts.Right.{Right}
use Rattle.sap_net.specs.declared.parts.Right.TheVariants.{Two, Choose}
use Rattle.sap_net.specs.declared.parts.Wire.{Wire}
use Rattle.sap_lower.specs.declared.facts.Fact.{Fact}
use Rattle.sap_lower.specs.declared.facts.Fact.TheVariants.{IsSet, Equals}
use Rattle.sap_lower.specs.declared.parts.Part.{Part}
use Rattle.sap_lower.specs.Facts.{right_of, is_zero, tests, gates}

-- The fact says that the name isn't 0.
abbrev pub sets : Name → Fact → Bool
sets n (IsSet m) = bytes_eq m n
sets n (Equals m x) = not (x == 0) && bytes_eq m n

-- The fact says that the name is 0.
abbrev pub clears : Name → Fact → Bool
clears n (IsSet m) = false
clears n (Equals m x) = x == 0 && bytes_eq m n

-- The fact says that the name isn't x.
abbrev pub differs : Name → ℕ → Fact → Bool
differs n x (IsSet m) = x == 0 && bytes_eq m n
differs n x (Equals m y) = not (y == x) && bytes_eq m n

-- Some fact says that the name isn't 0.
abbrev pub is_set : List Fact → Name → Bool
is_set fs n = list_any (sets n) fs

-- Some fact says that the name is 0.
abbrev pub is_clear : List Fact → Name → Bool
is_clear fs n = list_any (clears n) fs

-- Some fact says that the name isn't x.
abbrev pub is_other : List Fact → Name → ℕ → Bool
is_other fs n x = list_any (differs n x) fs

-- It holds of the operand's name.
abbrev pub of_name : (Name → Bool) → Operand → Bool
of_name holds (Named x) = holds x
of_name holds (Constant w x) = false

-- The right side of a test is 0 where the facts hold: one that it joins is 0, or what it compares has another number.
abbrev pub right_denied : List Fact → (operand : Name → Bool) → Option Right → Bool
right_denied fs operand (Some (Two And (Named a) (Named b))) = operand a || operand b
right_denied fs operand (Some (Two Eq (Named a) (Constant w x))) = is_other fs a x
right_denied fs operand _ = false

-- A test is 0 where the facts hold: because they say so, or by its right side.
abbrev pub test_denied : (most : ℕ) → List Wire → List Fact → Name → Bool
test_denied zero ws fs n = false
test_denied (suc k) ws fs n = is_clear fs n || right_denied fs (test_denied k ws fs) (right_of ws n)

-- The facts say that a gate is 0, by its right side.
abbrev pub gate_denied : List Wire → List Fact → (outer : Operand → Bool) → Name → Option Right → Bool
gate_denied ws fs outer n (Some (Choose around test other)) =
    if is_zero other then is_clear fs n || (of_name (test_denied tests ws fs) test || outer around)
    else test_denied tests ws fs n
gate_denied ws fs outer n _ = test_denied tests ws fs n

-- A gate is 0 where the facts hold: they say so, or its test is 0, or the gate around it.
abbrev pub excluded : (most : ℕ) → List Wire → List Fact → Operand → Bool
excluded zero ws fs o = false
excluded (suc k) ws fs (Named n) = if is_set fs n then false else gate_denied ws fs (excluded k ws fs) n (right_of ws n)
excluded (suc k) ws fs (Constant w x) = false

-- The operand isn't 0 where the facts hold: it is such a number, or they say so.
abbrev pub nonzero : List Fact → Operand → Bool
nonzero fs (Named n) = is_set fs n
nonzero fs (Constant w x) = not (x == 0)

-- The right side isn't 0 where the facts hold: a choice whose condition isn't, nor what it then is.
abbrev pub right_opened : List Fact → (outer : Operand → Bool) → Option Right → Bool
right_opened fs outer (Some (Choose around test other)) = nonzero fs test && outer around
right_opened fs outer _ = false

-- An operand isn't 0 where the facts hold, by the right side of its wire.
abbrev pub named_opened : List Wire → List Fact → (outer : Operand → Bool) → Operand → Bool
named_opened ws fs outer (Named n) = right_opened fs outer (right_of ws n)
named_opened ws fs outer (Constant w x) = false

-- A gate isn't 0 where the facts hold: because they say so, or its test isn't 0 and the gate around it isn't.
unfoldable pub opened : (most : ℕ) → List Wire → List Fact → Operand → Bool
opened zero ws fs o = false
opened (suc k) ws fs o = nonzero fs o || named_opened ws fs (opened k ws fs) o

-- How many choices a read looks through.
abbrev pub choices : ℕ
choices = 64

-- What a read sees through a choice that the facts decide.
abbrev pub chosen_part : List Wire → List Fact → (again : Operand → Operand) → Operand → Option Right → Operand
chosen_part ws fs again o (Some (Choose condition new old)) =
    if opened gates ws fs condition then again new else if excluded gates ws fs condition then again old else o
chosen_part ws fs again o _ = o

-- What an operand is where the facts hold: of a choice whose condition they decide, the part that is chosen.
abbrev pub seen_through : (most : ℕ) → List Wire → List Fact → Operand → Operand
seen_through zero ws fs o = o
seen_through (suc k) ws fs (Named n) = chosen_part ws fs (seen_through k ws fs) (Named n) (right_of ws n)
seen_through (suc k) ws fs (Constant w x) = Constant w x

-- What a read sees of an operand where the facts hold.
abbrev pub seen : List Wire → List Fact → Operand → Operand
seen ws fs o = seen_through choices ws fs o

-- The same of a part.
abbrev pub seen_part : List Wire → List Fact → Part → Part
seen_part ws fs p = record { operand = seen ws fs p.operand; width = p.width }

-- What each name stands for where the facts hold.
abbrev pub entries_seen : List Wire → List Fact → List (Name × Part) → List (Name × Part)
entries_seen ws fs es = map (λ e. (e.0, seen_part ws fs e.1)) es
