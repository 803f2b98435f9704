-- What is known where a gate isn't 0, from the wires that it is made of.
use Rattle.std.specs.Prelude.{ℕ, zero, suc, ◌==◌, Bool, false, List, [], ◌∷◌, ◌++◌, drop, slice_get, bytes_eq, Option, Some, None, if◌then◌else◌}
use Rattle.sap_text.specs.Runs.{number_of}
use Rattle.sap_bits.specs.declared.Op2.TheVariants.{And, Eq}
use Rattle.sap_maps.specs.Maps.{Name}
use Rattle.sap_net.specs.declared.parts.Operand.{Operand}
use Rattle.sap_net.specs.declared.parts.Operand.TheVariants.{Named, Constant}
use Rattle.sap_net.specs.declared.parts.Right.{Right}
use Rattle.sap_net.specs.declared.parts.Right.TheVariants.{Two, Choose}
use Rattle.sap_net.specs.declared.parts.Wire.{Wire}
use Rattle.sap_lower.specs.declared.facts.Fact.{Fact}
use Rattle.sap_lower.specs.declared.facts.Fact.TheVariants.{IsSet, Equals}

-- The right side of a wire, if it has this name.
abbrev pub right_if_named : Name → Option Wire → Option Right
right_if_named n None = None
right_if_named n (Some w) = if bytes_eq w.name n then Some w.right else None

-- The right side of the wire of a name, by its number.
abbrev pub right_numbered : List Wire → Name → Option ℕ → Option Right
right_numbered ws n None = None
right_numbered ws n (Some k) = right_if_named n (slice_get ws k)

-- The right side of the wire of this name. A helping wire stands at the place that its name ends in.
abbrev pub right_of : List Wire → Name → Option Right
right_of ws n = right_numbered ws n (number_of 10 (drop 1 n))

-- An operand is the constant 0.
abbrev pub is_zero : Operand → Bool
is_zero (Named x) = false
is_zero (Constant w n) = n == 0

-- What the right side of a test tells where the test isn't 0: the operands of a conjunction aren't 0, and what it
-- compares has the constant's number.
abbrev pub told_by_test : (of : Name → List Fact) → Option Right → List Fact
told_by_test of (Some (Two And (Named a) (Named b))) = of a ++ of b
told_by_test of (Some (Two Eq (Named a) (Constant w x))) = Equals a x ∷ []
told_by_test of _ = []

-- What is known where a test isn't 0: that, and what its right side tells.
abbrev pub test_facts : (most : ℕ) → List Wire → Name → List Fact
test_facts zero ws n = []
test_facts (suc k) ws n = IsSet n ∷ told_by_test (test_facts k ws) (right_of ws n)

-- The facts of an operand.
abbrev pub of_operand : (Name → List Fact) → Operand → List Fact
of_operand of (Named x) = of x
of_operand of (Constant w x) = []

-- How many tests are looked through.
abbrev pub tests : ℕ
tests = 3

-- What the right side of a gate tells where the gate isn't 0; `outer` is what the gate around it tells.
abbrev pub told_by_gate : List Wire → (outer : Operand → List Fact) → Name → Option Right → List Fact
told_by_gate ws outer n (Some (Choose around test other)) =
    if is_zero other then IsSet n ∷ of_operand (test_facts tests ws) test ++ outer around else test_facts tests ws n
told_by_gate ws outer n _ = test_facts tests ws n

-- What is known where a gate isn't 0: its test isn't 0, nor is the gate around it.
abbrev pub gate_facts : (most : ℕ) → List Wire → Operand → List Fact
gate_facts zero ws o = []
gate_facts (suc k) ws (Named n) = told_by_gate ws (gate_facts k ws) n (right_of ws n)
gate_facts (suc k) ws (Constant w x) = []

-- How many gates around a gate are looked at.
abbrev pub gates : ℕ
gates = 16

-- What is known where a gate is 1.
abbrev pub facts_of : List Wire → (gate : Operand) → List Fact
facts_of ws o = gate_facts gates ws o
