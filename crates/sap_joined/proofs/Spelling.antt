-- All names in netlists are made of letters, digits and `_`.
use Rattle.sap_lemmas.proofs.Common.{◌≡◌, ◌<◌, ◌≤◌, ℕ, zero, suc, true, List, [], ◌∷◌, ◌++◌, map, length, get_or, Some, ◌∙◌, ◌^◌, subst, inl, inr, arith, not, All, AllByRecursion, list_all, bytes_eq, and_parts, cases_Bool, nat_tests, all_append, all_follow, all_of_map, map_of_all, equal_of_bytes_eq}
use Rattle.std.specs.Str.{IsCharBoundary}
use Rattle.std.proofs.lemmas.Str.{IsCharBoundary-from_ascii}
use Rattle.sap_text.proofs.NamesLemmas.{word_inner}
use Rattle.sap_maps.specs.Prelude.{Name, find}
use Rattle.sap_net.specs.Prelude.{is_name, is_word, is_keyword, is_inner, is_among, Net, Shapes, IsOperand, AreOperands, IsRight, AreWires, IsRegister, IsMemory, readable_after, IsNetlist, PortShows, input_names, wire_names, register_names, memory_names, first_readable, readable, shapes}
use Rattle.sap_net.specs.declared.parts.Operand.{Operand}
use Rattle.sap_net.specs.declared.parts.Operand.TheVariants.{Named, Constant}
use Rattle.sap_net.specs.declared.parts.Right.{Right}
use Rattle.sap_net.specs.declared.parts.Right.TheVariants.{Copy, One, Two, Choose, Concat, Slice, Cell}
use Rattle.sap_net.specs.declared.parts.PortKind.{PortKind}
use Rattle.sap_net.specs.declared.parts.Port.{Port}
use Rattle.sap_net.specs.declared.parts.Input.{Input}
use Rattle.sap_net.specs.declared.parts.Wire.{Wire}
use Rattle.sap_net.specs.declared.parts.Register.{Register}
use Rattle.sap_net.specs.declared.parts.Memory.{Memory}
use Rattle.sap_net.specs.declared.parts.PortKind.TheVariants as kind
use Rattle.sap_net.proofs.NamesLemmas.{among_each, each_among, among_front, among_behind}
use Rattle.sap_joined.specs.Spelled.{IsSpelled, OperandSpelled, RightSpelled, WireSpelled, RegisterSpelled, MemorySpelled}

-- where such a name may be cut

inner_ascii : (c : ℕ) → is_inner c ≡ true → c < 128
inner_ascii c h = grind (arith, nat_tests)

all_ascii : (x : Name) → IsSpelled x → (i : ℕ) → get_or x i 0 < 128
all_ascii [] h i = grind (arith)
all_ascii (c ∷ cs) h zero = inner_ascii c (and_parts (is_inner c) (list_all is_inner cs) h).0
all_ascii (c ∷ cs) h (suc i) = all_ascii cs (and_parts (is_inner c) (list_all is_inner cs) h).1 i

pub cut_at : (x : Name) (i : ℕ) → IsSpelled x → i ≤ length x → IsCharBoundary x i
cut_at x i h l = IsCharBoundary-from_ascii x i (all_ascii x h) l

-- lists

one_and_all : {X : Type 0} (P : X → Type 0) (x : X) (xs : List X) → P x → All P xs → All P (x ∷ xs)
one_and_all P x xs here later zero d l = here
one_and_all P x xs here later (suc k) d l = later k d (omega arith)

at_each : {X : Type 0} (P : X → Type 0) (xs : List X) → AllByRecursion P xs → All P xs
at_each P [] a = λ k d l. absurd (omega arith)
at_each P (x ∷ xs) a = one_and_all P x xs a.0 (at_each P xs a.1)

-- scopes of such names

abbrev ScopeSpelled : {X : Type 0} → List (Name × X) → Type 0
ScopeSpelled es = AllByRecursion (λ e. IsSpelled e.0) es

found_spelled : {X : Type 0} (es : List (Name × X)) → ScopeSpelled es → (x : Name) (u : X) → find es x ≡ Some u → IsSpelled x
found_spelled [] a x u h = absurd (cc)
found_spelled (e ∷ es) a x u h =
    elim (cases_Bool (bytes_eq e.0 x)) [
      | inl t ↦ subst IsSpelled (equal_of_bytes_eq e.0 x t) a.0
      | inr q ↦ found_spelled es a.1 x u (rw q at h)
    ]

operand_spelled : (sc : List (Name × ℕ)) → ScopeSpelled sc → (u : ℕ) (o : Operand) → IsOperand sc u o → OperandSpelled o
operand_spelled sc a u (Named x) h = found_spelled sc a x u h
operand_spelled sc a u (Constant w n) h = tt

operands_spelled : (sc : List (Name × ℕ)) → ScopeSpelled sc → (u : ℕ) (os : List Operand) → AreOperands sc u os → AllByRecursion OperandSpelled os
operands_spelled sc a u [] h = tt
operands_spelled sc a u (o ∷ os) h = (operand_spelled sc a h.0 o h.3, operands_spelled sc a h.1 os h.4)

right_spelled : (ms : Shapes) (sc : List (Name × ℕ)) → ScopeSpelled ms → ScopeSpelled sc → (u : ℕ) (r : Right) → IsRight ms sc u r → RightSpelled r
right_spelled ms sc m a u (Copy o) h = operand_spelled sc a u o h
right_spelled ms sc m a u (One op o) h = operand_spelled sc a h.0 o h.2
right_spelled ms sc m a u (Two op o p) h = (operand_spelled sc a h.0 o h.4, operand_spelled sc a h.1 p h.5)
right_spelled ms sc m a u (Choose c o p) h = (operand_spelled sc a 1 c h.0, operand_spelled sc a u o h.1, operand_spelled sc a u p h.2)
right_spelled ms sc m a u (Concat os) h = at_each OperandSpelled os (operands_spelled sc a u os h.1)
right_spelled ms sc m a u (Slice x hi lo) h = found_spelled sc a x h.0 h.2
right_spelled ms sc m a u (Cell x i) h = (found_spelled ms m x (u, 2 ^ h.0) h.1, operand_spelled sc a h.0 i h.2)

wires_spelled : (ms : Shapes) → ScopeSpelled ms → (sc : List (Name × ℕ)) → ScopeSpelled sc → (ws : List Wire) → AreWires ms sc ws
    → AllByRecursion (λ w. IsSpelled w.name) ws → AllByRecursion WireSpelled ws
wires_spelled ms m sc a [] g h = tt
wires_spelled ms m sc a (w ∷ ws) g h = ((h.0, right_spelled ms sc m a w.width w.right g.3), wires_spelled ms m ((w.name, w.width) ∷ sc) (h.0, a) ws g.4 h.1)

after_spelled : (ws : List Wire) (sc : List (Name × ℕ)) → AllByRecursion (λ w. IsSpelled w.name) ws → ScopeSpelled sc → ScopeSpelled (readable_after sc ws)
after_spelled [] sc h a = a
after_spelled (w ∷ ws) sc h a = after_spelled ws ((w.name, w.width) ∷ sc) h.1 (h.0, a)

registers_spelled : (sc : List (Name × ℕ)) → ScopeSpelled sc → (rs : List Register) → AllByRecursion (IsRegister sc) rs
    → AllByRecursion (λ r. IsSpelled r.name) rs → AllByRecursion RegisterSpelled rs
registers_spelled sc a [] g h = tt
registers_spelled sc a (r ∷ rs) g h = ((h.0, operand_spelled sc a r.width r.next g.0.1), registers_spelled sc a rs g.1 h.1)

memories_spelled : (sc : List (Name × ℕ)) → ScopeSpelled sc → (ms : List Memory) → AllByRecursion (IsMemory sc) ms
    → AllByRecursion (λ m. IsSpelled m.name) ms → AllByRecursion MemorySpelled ms
memories_spelled sc a [] g h = tt
memories_spelled sc a (m ∷ ms) g h = (
  (h.0, operand_spelled sc a 1 m.enable g.0.enable, operand_spelled sc a g.0.bits m.index g.0.index, operand_spelled sc a m.width m.value g.0.value),
  memories_spelled sc a ms g.1 h.1,
)

-- what stands in a netlist

spelled_name : (x : Name) → is_name x ≡ true → IsSpelled x
unfolding is_name
spelled_name x h = word_inner x (and_parts (is_word x) (not (is_keyword x)) h).0

module _ (n : Net) (rules : IsNetlist n) where
  named : (x : Name) → is_among x n.names ≡ true → IsSpelled x
  named x h = spelled_name x (among_each (λ y. is_name y ≡ true) n.names rules.named x h)

  input_named : (x : Name) → is_among x (input_names n) ≡ true → IsSpelled x
  input_named x h =
      named x (rules.declared x ∙ among_front x ((input_names n ++ wire_names n) ++ register_names n) (memory_names n)
      (among_front x (input_names n ++ wire_names n) (register_names n) (among_front x (input_names n) (wire_names n) h)))

  wire_named : (x : Name) → is_among x (wire_names n) ≡ true → IsSpelled x
  wire_named x h =
      named x (rules.declared x ∙ among_front x ((input_names n ++ wire_names n) ++ register_names n) (memory_names n)
      (among_front x (input_names n ++ wire_names n) (register_names n) (among_behind x (input_names n) (wire_names n) h)))

  register_named : (x : Name) → is_among x (register_names n) ≡ true → IsSpelled x
  register_named x h =
      named x (rules.declared x ∙ among_front x ((input_names n ++ wire_names n) ++ register_names n) (memory_names n)
      (among_behind x (input_names n ++ wire_names n) (register_names n) h))

  memory_named : (x : Name) → is_among x (memory_names n) ≡ true → IsSpelled x
  memory_named x h = named x (rules.declared x ∙ among_behind x ((input_names n ++ wire_names n) ++ register_names n) (memory_names n) h)

  inputs : AllByRecursion (λ (i : Input). IsSpelled i.name) n.inputs
  inputs = all_of_map IsSpelled (λ (i : Input). i.name) n.inputs (each_among IsSpelled (input_names n) input_named)

  wires : AllByRecursion (λ (w : Wire). IsSpelled w.name) n.wires
  wires = all_of_map IsSpelled (λ (w : Wire). w.name) n.wires (each_among IsSpelled (wire_names n) wire_named)

  registers : AllByRecursion (λ (r : Register). IsSpelled r.name) n.registers
  registers = all_of_map IsSpelled (λ (r : Register). r.name) n.registers (each_among IsSpelled (register_names n) register_named)

  memories : AllByRecursion (λ (m : Memory). IsSpelled m.name) n.memories
  memories = all_of_map IsSpelled (λ (m : Memory). m.name) n.memories (each_among IsSpelled (memory_names n) memory_named)

  first : ScopeSpelled (first_readable n)
  first =
      all_append {A = Name × ℕ} (λ e. IsSpelled e.0) (map (λ i. (i.name, i.width)) n.inputs) (map (λ r. (r.name, r.width)) n.registers)
      (map_of_all {Y = Name × ℕ} (λ e. IsSpelled e.0) (λ (i : Input). (i.name, i.width)) n.inputs inputs)
      (map_of_all {Y = Name × ℕ} (λ e. IsSpelled e.0) (λ (r : Register). (r.name, r.width)) n.registers registers)

  all_readable : ScopeSpelled (readable n)
  all_readable = after_spelled n.wires (first_readable n) wires first

  sized : ScopeSpelled (shapes n)
  sized = map_of_all {Y = Name × (ℕ × ℕ)} (λ e. IsSpelled e.0) (λ (m : Memory). (m.name, (m.width, m.depth))) n.memories memories

  shown : (k : PortKind) (x : Name) → PortShows n k x → IsSpelled x
  shown kind.Input x h = input_named x h
  shown kind.Register x h = register_named x h
  shown kind.Wire x h = wire_named x h

  pub ports_spelled : All (λ (p : Port). IsSpelled p.name) n.ports
  ports_spelled = at_each (λ p. IsSpelled p.name) n.ports
      (all_follow (λ p. PortShows n p.kind p.name) (λ p. IsSpelled p.name) n.ports (λ p h. shown p.kind p.name h) rules.ports_show)

  pub inputs_spelled : All (λ (i : Input). IsSpelled i.name) n.inputs
  inputs_spelled = at_each (λ i. IsSpelled i.name) n.inputs inputs

  pub all_wires_spelled : All WireSpelled n.wires
  all_wires_spelled = at_each WireSpelled n.wires (wires_spelled (shapes n) sized (first_readable n) first n.wires rules.assigns wires)

  pub all_registers_spelled : All RegisterSpelled n.registers
  all_registers_spelled = at_each RegisterSpelled n.registers (registers_spelled (readable n) all_readable n.registers rules.nexts registers)

  pub all_memories_spelled : All MemorySpelled n.memories
  all_memories_spelled = at_each MemorySpelled n.memories (memories_spelled (readable n) all_readable n.memories rules.writes memories)
