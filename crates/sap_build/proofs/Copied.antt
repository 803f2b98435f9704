-- A copy keeps the rules of netlists.
use Rattle.sap_lemmas.proofs.Common.{◌≡◌, ℕ, List, [], ◌∷◌, ◌++◌, map, filter, take, length, None, suc, Bool, true, false, sym, ap, ◌∙◌, subst, refl, inl, inr, bytes_eq, ◌≤◌, AllByRecursion, option_map, cases_Bool, or_right, bytes_eq_same, equal_of_bytes_eq}
use Rattle.sap_maps.specs.Prelude.{Name, Scope, find}
use Rattle.sap_net.specs.Prelude.{Net, is_name, is_among, AreDistinct, Shapes, IsOperand, AreOperands, IsRight, AreWires, IsRegister, IsMemory, AreValues, AreMemories, IsNetlist, PortShows, is_input, input_names, wire_names, register_names, memory_names, names_of, first_readable, readable, shapes}
use Rattle.sap_net.specs.declared.parts.Operand.{Operand}
use Rattle.sap_net.specs.declared.parts.Operand.TheVariants.{Named, Constant}
use Rattle.sap_net.specs.declared.parts.Right.{Right}
use Rattle.sap_net.specs.declared.parts.Right.TheVariants.{Copy, One, Two, Choose, Concat, Slice, Cell}
use Rattle.sap_net.specs.declared.parts.PortKind.{PortKind}
use Rattle.sap_net.specs.declared.parts.Port.{Port}
use Rattle.sap_net.specs.declared.parts.Wire.{Wire}
use Rattle.sap_net.specs.declared.parts.Register.{Register}
use Rattle.sap_net.specs.declared.parts.Memory.{Memory}
use Rattle.sap_net.specs.declared.parts.PortKind.TheVariants as kind
use Rattle.sap_build.specs.Copies.{copy_operand, copy_right, copy_port, copy_input, copy_wire, copy_register, copy_memory, copy_net, IsOneToOne, KeepsApart}
use Rattle.sap_build.proofs.Found.{copied, AreDeclared, AllAmong, find_copied, found_copied, registers_among, memories_among, wires_among, first_declared, readable_declared, shapes_declared, first_readable_copied, readable_copied, shapes_copied}

-- names

pub among_copied : (f : Name → Name) (x : Name) (ns : List Name) → is_among x ns ≡ true → is_among (f x) (map f ns) ≡ true
among_copied f x [] h = absurd (cc)
among_copied f x (y ∷ ns) h =
    elim (cases_Bool (bytes_eq x y)) [
      | inl t ↦
          let i : bytes_eq (f x) (f y) ≡ true = subst (λ (z : Name). bytes_eq (f x) (f z) ≡ true) (equal_of_bytes_eq x y t) (bytes_eq_same (f x)) in
          rw i refl
      | inr q ↦ or_right (bytes_eq (f x) (f y)) (is_among (f x) (map f ns)) (among_copied f x ns (rw q at h))
    ]

-- a name among the copies is one of a name
among_back : (f : Name → Name) (x : Name) (ns : List Name) → is_among x (map f ns) ≡ true → (y : Name) × (is_among y ns ≡ true) × (f y ≡ x)
among_back f x [] h = absurd (cc)
among_back f x (y ∷ ns) h =
    elim (cases_Bool (bytes_eq x (f y))) [
      | inl t ↦ (y, rw (bytes_eq_same y) refl, sym (equal_of_bytes_eq x (f y) t))
      | inr q ↦ let r = among_back f x ns (rw q at h) in (r.0, or_right (bytes_eq r.0 y) (is_among r.0 ns) r.1, r.2)
    ]

among_follows : (f : Name → Name) (ns ms : List Name) → AllAmong ns ms → AllAmong (map f ns) (map f ms)
among_follows f ns ms h x k =
    let b = among_back f x ns k in
    subst (λ (y : Name). is_among y (map f ms) ≡ true) b.2 (among_copied f b.0 ms (h b.0 b.1))

equal_when : (a b : Bool) → (a ≡ true → b ≡ true) → (b ≡ true → a ≡ true) → a ≡ b
equal_when true b h k = sym (h refl)
equal_when false true h k = k refl
equal_when false false h k = refl

same_among : (f : Name → Name) (ns ms : List Name) → ((x : Name) → is_among x ns ≡ is_among x ms) → (x : Name) → is_among x (map f ns) ≡ is_among x (map f ms)
same_among f ns ms h x =
    equal_when (is_among x (map f ns)) (is_among x (map f ms)) (among_follows f ns ms (λ y k. sym (h y) ∙ k) x) (among_follows f ms ns (λ y k. h y ∙ k) x)

-- of declared names, those are among the copies of others that are among these
pub among_apart : (f : Name → Name) (all : List Name) → IsOneToOne f all → (x : Name) → is_among x all ≡ true → (ns : List Name)
    → AllAmong ns all → is_among (f x) (map f ns) ≡ is_among x ns
among_apart f all one x h ns k =
    equal_when (is_among (f x) (map f ns)) (is_among x ns)
    (λ t. let b = among_back f (f x) ns t in subst (λ (y : Name). is_among y ns ≡ true) (one b.0 x (k b.0 b.1) h b.2) b.1)
    (among_copied f x ns)

distinct_copied : (f : Name → Name) (all : List Name) → IsOneToOne f all → (ns : List Name) → AllAmong ns all → AreDistinct ns → AreDistinct (map f ns)
distinct_copied f all one [] k d = tt
distinct_copied f all one (x ∷ ns) k d =
    let rest : AllAmong ns all = λ y h. k y (or_right (bytes_eq y x) (is_among y ns) h) in
    let here : is_among x all ≡ true = k x (rw (bytes_eq_same x) refl) in (
      among_apart f all one x here ns rest ∙ d.0,
      distinct_copied f all one ns rest d.1,
    )

filter_copied : (f : Name → Name) (all : List Name) → IsOneToOne f all → (rs : List Name) → AllAmong rs all → (ns : List Name)
    → AllAmong ns all → filter (λ x. is_among x (map f rs)) (map f ns) ≡ map f (filter (λ x. is_among x rs) ns)
filter_copied f all one rs j [] k = refl
filter_copied f all one rs j (x ∷ ns) k =
    let rest : AllAmong ns all = λ y h. k y (or_right (bytes_eq y x) (is_among y ns) h) in
    let here : is_among x all ≡ true = k x (rw (bytes_eq_same x) refl) in
    let e = among_apart f all one x here rs j in
    elim (cases_Bool (is_among x rs)) [
      | inl t ↦ rw (e, t) (ap (λ ys. f x ∷ ys) (filter_copied f all one rs j ns rest))
      | inr q ↦ rw (e, q) (filter_copied f all one rs j ns rest)
    ]

pub names_copied : {Z : Type 0} (f : Name → Name) (copy : Z → Z) (name : Z → Name) → ((z : Z) → name (copy z) ≡ f (name z)) → (zs : List Z)
    → map name (map copy zs) ≡ map f (map name zs)
names_copied f copy name h [] = refl
names_copied f copy name h (z ∷ zs) =
    let a = h z in
    let r = names_copied f copy name h zs in
    cc

map_both : (f : Name → Name) (xs ys : List Name) → map f (xs ++ ys) ≡ map f xs ++ map f ys
map_both f [] ys = refl
map_both f (x ∷ xs) ys = ap (λ zs. f x ∷ zs) (map_both f xs ys)

take_copied : (f : Name → Name) (ps : List Port) (ns : List Name) → take (length (map (copy_port f) ps)) (map f ns) ≡ map f (take (length ps) ns)
take_copied f [] ns = refl
take_copied f (p ∷ ps) [] = refl
take_copied f (p ∷ ps) (x ∷ ns) = ap (λ zs. f x ∷ zs) (take_copied f ps ns)

inputs_copied : (f : Name → Name) (ps : List Port)
    → map (λ p. p.name) (filter (λ p. is_input p.kind) (map (copy_port f) ps)) ≡ map f (map (λ p. p.name) (filter (λ p. is_input p.kind) ps))
inputs_copied f [] = refl
inputs_copied f (p ∷ ps) =
    elim (cases_Bool (is_input p.kind)) [
      | inl t ↦ rw t (ap (λ zs. f p.name ∷ zs) (inputs_copied f ps))
      | inr q ↦ rw q (inputs_copied f ps)
    ]

-- rules of use

not_found_copied : {X Y : Type 0} (f : Name → Name) (g : X → Y) (all : List Name) → IsOneToOne f all → (es : List (Name × X))
    → AreDeclared all es → (x : Name) → is_among x all ≡ true → find es x ≡ None → find (copied f g es) (f x) ≡ None
not_found_copied f g all one es d x h k = find_copied f g all one es d x h ∙ ap (option_map g) k

abbrev widths : (Name → Name) → Scope → Scope
widths f sc = copied f (λ (u : ℕ). u) sc

abbrev sizes : (Name → Name) → Shapes → Shapes
sizes f ms = copied f (λ (s : ℕ × ℕ). s) ms

values_copied : (f : Name → Name) (all : List Name) → IsOneToOne f all → (ms : Shapes) → AreDeclared all ms → (es : Scope)
    → AreDeclared all es → AreValues ms es → AreValues (sizes f ms) (widths f es)
values_copied f all one ms dm [] d a = tt
values_copied f all one ms dm (e ∷ es) d a = (
  a.0,
  not_found_copied f (λ (u : ℕ). u) all one es d.1 e.0 d.0 a.1,
  not_found_copied f (λ (s : ℕ × ℕ). s) all one ms dm e.0 d.0 a.2,
  values_copied f all one ms dm es d.1 a.3,
)

memories_copied : (f : Name → Name) (all : List Name) → IsOneToOne f all → (ms : Shapes) → AreDeclared all ms → AreMemories ms → AreMemories (sizes f ms)
memories_copied f all one [] d a = tt
memories_copied f all one (e ∷ es) d a = (
  a.0,
  not_found_copied f (λ (s : ℕ × ℕ). s) all one es d.1 e.0 d.0 a.1,
  memories_copied f all one es d.1 a.2,
)

operand_copied : (f : Name → Name) (all : List Name) → IsOneToOne f all → (sc : Scope) → AreDeclared all sc → (u : ℕ) (o : Operand)
    → IsOperand sc u o → IsOperand (widths f sc) u (copy_operand f o)
operand_copied f all one sc d u (Named x) h = found_copied f (λ (w : ℕ). w) all one sc d x u h
operand_copied f all one sc d u (Constant k n) h = h

operands_copied : (f : Name → Name) (all : List Name) → IsOneToOne f all → (sc : Scope) → AreDeclared all sc → (u : ℕ) (os : List Operand)
    → AreOperands sc u os → AreOperands (widths f sc) u (map (copy_operand f) os)
operands_copied f all one sc d u [] h = h
operands_copied f all one sc d u (o ∷ os) h = (h.0, h.1, h.2, operand_copied f all one sc d h.0 o h.3, operands_copied f all one sc d h.1 os h.4, h.5)

length_copied : (f : Name → Name) (os : List Operand) → length (map (copy_operand f) os) ≡ length os
length_copied f [] = refl
length_copied f (o ∷ os) = ap (λ k. suc k) (length_copied f os)

right_copied : (f : Name → Name) (all : List Name) → IsOneToOne f all → (ms : Shapes) → AreDeclared all ms → (sc : Scope)
    → AreDeclared all sc → (u : ℕ) (r : Right) → IsRight ms sc u r → IsRight (sizes f ms) (widths f sc) u (copy_right f r)
right_copied f all one ms dm sc d u (Copy a) h = operand_copied f all one sc d u a h
right_copied f all one ms dm sc d u (One op a) h = (h.0, h.1, operand_copied f all one sc d h.0 a h.2, h.3)
right_copied f all one ms dm sc d u (Two op a b) h = (
  h.0,
  h.1,
  h.2,
  h.3,
  operand_copied f all one sc d h.0 a h.4,
  operand_copied f all one sc d h.1 b h.5,
  h.6,
  h.7,
)
right_copied f all one ms dm sc d u (Choose c a b) h = (
  operand_copied f all one sc d 1 c h.0,
  operand_copied f all one sc d u a h.1,
  operand_copied f all one sc d u b h.2,
)
right_copied f all one ms dm sc d u (Concat os) h = (subst (λ (k : ℕ). 2 ≤ k) (sym (length_copied f os)) h.0, operands_copied f all one sc d u os h.1)
right_copied f all one ms dm sc d u (Slice x hi lo) h = (h.0, h.1, found_copied f (λ (w : ℕ). w) all one sc d x h.0 h.2, h.3, h.4, h.5)
right_copied f all one ms dm sc d u (Cell m i) h = (h.0, found_copied f (λ (s : ℕ × ℕ). s) all one ms dm m _ h.1, operand_copied f all one sc d h.0 i h.2)

wires_copied : (f : Name → Name) (all : List Name) → IsOneToOne f all → (ms : Shapes) → AreDeclared all ms → (ws : List Wire)
    → AllAmong (names_of ws) all → (sc : Scope) → AreDeclared all sc → AreWires ms sc ws → AreWires (sizes f ms) (widths f sc) (map (copy_wire f) ws)
wires_copied f all one ms dm [] k sc d a = tt
wires_copied f all one ms dm (w ∷ ws) k sc d a =
    let rest : AllAmong (names_of ws) all = λ y h. k y (or_right (bytes_eq y w.name) (is_among y (names_of ws)) h) in
    let here : is_among w.name all ≡ true = k w.name (rw (bytes_eq_same w.name) refl) in (
      a.0,
      not_found_copied f (λ (u : ℕ). u) all one sc d w.name here a.1,
      not_found_copied f (λ (s : ℕ × ℕ). s) all one ms dm w.name here a.2,
      right_copied f all one ms dm sc d w.width w.right a.3,
      wires_copied f all one ms dm ws rest ((w.name, w.width) ∷ sc) (here, d) a.4,
    )

nexts_copied : (f : Name → Name) (all : List Name) → IsOneToOne f all → (sc : Scope) → AreDeclared all sc → (rs : List Register)
    → AllByRecursion (IsRegister sc) rs → AllByRecursion (IsRegister (widths f sc)) (map (copy_register f) rs)
nexts_copied f all one sc d [] a = tt
nexts_copied f all one sc d (r ∷ rs) a = ((a.0.0, operand_copied f all one sc d r.width r.next a.0.1), nexts_copied f all one sc d rs a.1)

writes_copied : (f : Name → Name) (all : List Name) → IsOneToOne f all → (sc : Scope) → AreDeclared all sc → (ms : List Memory)
    → AllByRecursion (IsMemory sc) ms → AllByRecursion (IsMemory (widths f sc)) (map (copy_memory f) ms)
writes_copied f all one sc d [] a = tt
writes_copied f all one sc d (m ∷ ms) a = (
  record {
    bits = a.0.bits;
    depth = a.0.depth;
    start = a.0.start;
    enable = operand_copied f all one sc d 1 m.enable a.0.enable;
    index = operand_copied f all one sc d a.0.bits m.index a.0.index;
    value = operand_copied f all one sc d m.width m.value a.0.value;
  },
  writes_copied f all one sc d ms a.1,
)

named_copied : (f : Name → Name) (ns : List Name) → AllByRecursion (λ x. is_name (f x) ≡ true) ns → AllByRecursion (λ x. is_name x ≡ true) (map f ns)
named_copied f [] a = tt
named_copied f (x ∷ ns) a = (a.0, named_copied f ns a.1)

-- the names of the parts of a copy

inputs_named : (f : Name → Name) (n : Net) (x : Name) → input_names (copy_net x f n) ≡ map f (input_names n)
inputs_named f n x = names_copied f (copy_input f) (λ i. i.name) (λ i. refl) n.inputs

wires_named : (f : Name → Name) (n : Net) (x : Name) → wire_names (copy_net x f n) ≡ map f (wire_names n)
wires_named f n x = names_copied f (copy_wire f) (λ w. w.name) (λ w. refl) n.wires

registers_named : (f : Name → Name) (n : Net) (x : Name) → register_names (copy_net x f n) ≡ map f (register_names n)
registers_named f n x = names_copied f (copy_register f) (λ r. r.name) (λ r. refl) n.registers

memories_named : (f : Name → Name) (n : Net) (x : Name) → memory_names (copy_net x f n) ≡ map f (memory_names n)
memories_named f n x = names_copied f (copy_memory f) (λ m. m.name) (λ m. refl) n.memories

all_named : (f : Name → Name) (n : Net) (x : Name) → let c = copy_net x f n in
    ((input_names c ++ wire_names c) ++ register_names c) ++ memory_names c ≡ map f (((input_names n ++ wire_names n) ++ register_names n) ++ memory_names n)
all_named f n x =
    let a = inputs_named f n x in
    let b = wires_named f n x in
    let c = registers_named f n x in
    let d = memories_named f n x in
    let e = map_both f ((input_names n ++ wire_names n) ++ register_names n) (memory_names n) in
    let g = map_both f (input_names n ++ wire_names n) (register_names n) in
    let h = map_both f (input_names n) (wire_names n) in
    cc

show_copied : (f : Name → Name) (n : Net) (x : Name) (k : PortKind) (y : Name) → PortShows n k y → PortShows (copy_net x f n) k (f y)
show_copied f n x kind.Input y h = ap (is_among (f y)) (inputs_named f n x) ∙ among_copied f y (input_names n) h
show_copied f n x kind.Register y h = ap (is_among (f y)) (registers_named f n x) ∙ among_copied f y (register_names n) h
show_copied f n x kind.Wire y h = ap (is_among (f y)) (wires_named f n x) ∙ among_copied f y (wire_names n) h

ports_copied : (f : Name → Name) (n : Net) (x : Name) (ps : List Port) → AllByRecursion (λ p. PortShows n p.kind p.name) ps
    → AllByRecursion (λ p. PortShows (copy_net x f n) p.kind p.name) (map (copy_port f) ps)
ports_copied f n x [] a = tt
ports_copied f n x (p ∷ ps) a = (show_copied f n x p.kind p.name a.0, ports_copied f n x ps a.1)

pub copy_is_netlist : (module_name : Name) (f : Name → Name) (n : Net) → is_name module_name ≡ true → IsNetlist n → KeepsApart f n → IsNetlist (copy_net module_name f n)
copy_is_netlist module_name f n named rules k =
    let all = n.names in
    let one = k.apart in
    let dm = shapes_declared n rules in
    let d = readable_declared n rules in
    let registers = registers_named f n module_name in
    let memories = memories_named f n module_name in
    record {
      module_named = named;
      named = named_copied f all k.named;
      declared_once = distinct_copied f all one all (λ y h. h) rules.declared_once;
      declared = λ x.
          same_among f all (((input_names n ++ wire_names n) ++ register_names n) ++ memory_names n) rules.declared x
          ∙ ap (is_among x) (sym (all_named f n module_name));
      registers_in_order =
          subst (λ (rs : List Name). filter (λ x. is_among x rs) (map f all) ≡ rs) (sym registers)
          (filter_copied f all one (register_names n) (registers_among n rules) all (λ y h. h) ∙ ap (map f) rules.registers_in_order);
      memories_in_order =
          subst (λ (rs : List Name). filter (λ x. is_among x rs) (map f all) ≡ rs) (sym memories)
          (filter_copied f all one (memory_names n) (memories_among n rules) all (λ y h. h) ∙ ap (map f) rules.memories_in_order);
      ports_first =
          names_copied f (copy_port f) (λ p. p.name) (λ p. refl) n.ports ∙ ap (map f) rules.ports_first ∙ sym (take_copied f n.ports all);
      ports_show = ports_copied f n module_name n.ports rules.ports_show;
      inputs_are_ports = inputs_copied f n.ports ∙ ap (map f) rules.inputs_are_ports ∙ sym (inputs_named f n module_name);
      values =
          subst (λ (ms : Shapes). AreValues ms (first_readable (copy_net module_name f n))) (sym (shapes_copied module_name f n))
          (subst (AreValues (sizes f (shapes n))) (sym (first_readable_copied module_name f n))
          (values_copied f all one (shapes n) dm (first_readable n) (first_declared n rules) rules.values));
      memory_shapes = subst AreMemories (sym (shapes_copied module_name f n)) (memories_copied f all one (shapes n) dm rules.memory_shapes);
      assigns =
          subst (λ (ms : Shapes). AreWires ms (first_readable (copy_net module_name f n)) (map (copy_wire f) n.wires)) (sym (shapes_copied module_name f n))
          (subst (λ (sc : Scope). AreWires (sizes f (shapes n)) sc (map (copy_wire f) n.wires)) (sym (first_readable_copied module_name f n))
          (wires_copied f all one (shapes n) dm n.wires (wires_among n rules) (first_readable n) (first_declared n rules) rules.assigns));
      nexts =
          subst (λ (sc : Scope). AllByRecursion (IsRegister sc) (map (copy_register f) n.registers)) (sym (readable_copied module_name f n))
          (nexts_copied f all one (readable n) d n.registers rules.nexts);
      writes =
          subst (λ (sc : Scope). AllByRecursion (IsMemory sc) (map (copy_memory f) n.memories)) (sym (readable_copied module_name f n))
          (writes_copied f all one (readable n) d n.memories rules.writes);
    }
