-- What a netlist has is declared once, with widths and depths in range.
use Rattle.sap_lemmas.proofs.Common.{◌≡◌, ℕ, List, [], ◌∷◌, ◌++◌, false, Some, refl, sym, ap, ◌∙◌, subst, inl, inr, map, AllByRecursion, cases_Bool}
use Rattle.sap_maps.specs.Prelude.{Name, Scope, find}
use Rattle.sap_net.specs.Prelude.{is_among, AreDistinct, Net, Shapes, IsWidth, IsMemory, AreWires, AreValues, AreMemories, IsNetlist, names_of, input_names, wire_names, register_names, memory_names, first_readable, readable, shapes}
use Rattle.sap_net.specs.declared.parts.Input.{Input}
use Rattle.sap_net.specs.declared.parts.Wire.{Wire}
use Rattle.sap_net.specs.declared.parts.Register.{Register}
use Rattle.sap_net.specs.declared.parts.Memory.{Memory}
use Rattle.sap_net.proofs.RulesLemmas.{wires_new, wires_distinct}
use Rattle.sap_text.specs.Best.{StandsIn}
use Rattle.sap_vtext.specs.Names.{Shape, input, wire, register, memory}
use Rattle.sap_vtext.specs.Faults.{HasIndex}
use Rattle.sap_vtext.proofs.NameLists.{AreNew, keys, none_key, new_keys, NoneAmong, none_among_append, distinct_append, distinct_parts, found_among, keys_map, keys_append, none_among_parts}
use Rattle.sap_vprint.specs.Printed.{entities}

-- What a netlist's rules say of its names.

values_distinct : (ms : Shapes) (es : Scope) → AreValues ms es → AreDistinct (keys es) × NoneAmong (keys es) (keys ms)
values_distinct ms [] h = (tt, tt)
values_distinct ms (e ∷ es) h =
    let r = values_distinct ms es h.3 in
    ((none_key es e.0 h.1, r.0), (none_key ms e.0 h.2, r.1))

memories_distinct : (ms : Shapes) → AreMemories ms → AreDistinct (keys ms)
memories_distinct [] h = tt
memories_distinct (m ∷ ms) h = (none_key ms m.0 h.1, memories_distinct ms h.2)

-- what can be read is none of the wires to come
wires_fresh : (ms : Shapes) (readable : Scope) (ws : List Wire) (n : Name) (k : ℕ) → AreWires ms readable ws → find readable n ≡ Some k → is_among n (names_of ws) ≡ false
wires_fresh ms readable ws n k h f = elim (cases_Bool (is_among n (names_of ws))) [
  | inl t ↦ absurd (let e = (wires_new ms ws readable h n t).0 in cc)
  | inr t ↦ t
]

-- no wire has the name of a memory
wires_no_memory : (ms : Shapes) (readable : Scope) (ws : List Wire) → AreWires ms readable ws → NoneAmong (names_of ws) (keys ms)
wires_no_memory ms readable [] h = tt
wires_no_memory ms readable (w ∷ ws) h = (none_key ms w.name h.2, wires_no_memory ms ((w.name, w.width) ∷ readable) ws h.4)

readable_apart : (ms : Shapes) (es readable : Scope) (ws : List Wire) → AreWires ms readable ws → ((n : Name) (k : ℕ) → StandsIn (n, k) es → find readable n ≡ Some k)
    → NoneAmong (keys es) (names_of ws)
readable_apart ms [] readable ws h f = tt
readable_apart ms (e ∷ es) readable ws h f =
    (wires_fresh ms readable ws e.0 e.1 h (f e.0 e.1 (inl refl)), readable_apart ms es readable ws h (λ n k m. f n k (inr m)))

pub entity_keys : (n : Net) → keys (entities n) ≡ input_names n ++ (register_names n ++ (wire_names n ++ memory_names n))
entity_keys n =
    let inputs = map (λ x. (x.name, input x.width)) n.inputs in
    let registers = map (λ x. (x.name, register x.width)) n.registers in
    let wires = map (λ x. (x.name, wire x.width)) n.wires in
    let memories = map (λ x. (x.name, memory x.width x.depth)) n.memories in
    keys_append inputs (registers ++ (wires ++ memories))
    ∙ ap (λ z. z ++ keys (registers ++ (wires ++ memories))) (keys_map (λ (x : Input). x.name) (λ (x : Input). input x.width) n.inputs)
    ∙ ap (λ z. input_names n ++ z)
    (keys_append registers (wires ++ memories)
    ∙ ap (λ z. z ++ keys (wires ++ memories)) (keys_map (λ (x : Register). x.name) (λ (x : Register). register x.width) n.registers)
    ∙ ap (λ z. register_names n ++ z)
    (keys_append wires memories
    ∙ ap (λ z. z ++ keys memories) (keys_map (λ (x : Wire). x.name) (λ (x : Wire). wire x.width) n.wires)
    ∙ ap (λ z. wire_names n ++ z) (keys_map (λ (x : Memory). x.name) (λ (x : Memory). memory x.width x.depth) n.memories)))

first_keys : (n : Net) → keys (first_readable n) ≡ input_names n ++ register_names n
first_keys n =
    keys_append (map (λ x. (x.name, x.width)) n.inputs) (map (λ x. (x.name, x.width)) n.registers)
    ∙ ap (λ z. z ++ keys (map (λ x. (x.name, x.width)) n.registers)) (keys_map (λ (x : Input). x.name) (λ (x : Input). x.width) n.inputs)
    ∙ ap (λ z. input_names n ++ z) (keys_map (λ (x : Register). x.name) (λ (x : Register). x.width) n.registers)

shape_keys : (n : Net) → keys (shapes n) ≡ memory_names n
shape_keys n = keys_map (λ (x : Memory). x.name) (λ (x : Memory). (x.width, x.depth)) n.memories

pub record NamesApart (n : Net) : Type 0 where
  pub inputs : AreDistinct (input_names n)
  pub registers : AreDistinct (register_names n)
  pub wires : AreDistinct (wire_names n)
  pub memories : AreDistinct (memory_names n)
  pub inputs_registers : NoneAmong (input_names n) (register_names n)
  pub inputs_wires : NoneAmong (input_names n) (wire_names n)
  pub inputs_memories : NoneAmong (input_names n) (memory_names n)
  pub registers_wires : NoneAmong (register_names n) (wire_names n)
  pub registers_memories : NoneAmong (register_names n) (memory_names n)
  pub wires_memories : NoneAmong (wire_names n) (memory_names n)

pub names_apart : (n : Net) → IsNetlist n → NamesApart n
names_apart n h =
    let values = values_distinct (shapes n) (first_readable n) h.values in
    let first = distinct_parts (input_names n) (register_names n) (subst AreDistinct (first_keys n) values.0) in
    let no_memory = none_among_parts (input_names n) (register_names n) (memory_names n)
    (subst (λ z. NoneAmong z (memory_names n)) (first_keys n) (subst (λ z. NoneAmong (keys (first_readable n)) z) (shape_keys n) values.1)) in
    let no_wire = none_among_parts (input_names n) (register_names n) (wire_names n)
    (subst (λ z. NoneAmong z (wire_names n)) (first_keys n)
    (readable_apart (shapes n) (first_readable n) (first_readable n) n.wires h.assigns (found_among (first_readable n) (new_keys (first_readable n) values.0)))) in
    record {
      inputs = first.0;
      registers = first.1;
      wires = wires_distinct (shapes n) n.wires (first_readable n) h.assigns;
      memories = subst AreDistinct (shape_keys n) (memories_distinct (shapes n) h.memory_shapes);
      inputs_registers = first.2;
      inputs_wires = no_wire.0;
      inputs_memories = no_memory.0;
      registers_wires = no_wire.1;
      registers_memories = no_memory.1;
      wires_memories = subst (λ z. NoneAmong (wire_names n) z) (shape_keys n) (wires_no_memory (shapes n) (first_readable n) n.wires h.assigns);
    }

pub entities_new : (n : Net) → IsNetlist n → AreNew (entities n)
entities_new n h =
    let a = names_apart n h in
    new_keys (entities n) (subst AreDistinct (sym (entity_keys n))
    (distinct_append (input_names n) (register_names n ++ (wire_names n ++ memory_names n)) a.inputs
    (distinct_append (register_names n) (wire_names n ++ memory_names n) a.registers
    (distinct_append (wire_names n) (memory_names n) a.wires a.memories a.wires_memories)
    (none_among_append (register_names n) (wire_names n) (memory_names n) a.registers_wires a.registers_memories))
    (none_among_append (input_names n) (register_names n) (wire_names n ++ memory_names n) a.inputs_registers
    (none_among_append (input_names n) (wire_names n) (memory_names n) a.inputs_wires a.inputs_memories))))

-- widths and depths

abbrev pub IsShape : Shape → Type 0
IsShape (input w) = IsWidth w
IsShape (register w) = IsWidth w
IsShape (wire w) = IsWidth w
IsShape (memory w d) = IsWidth w × HasIndex d

abbrev AreShapes : List (Name × Shape) → Type 0
AreShapes es = AllByRecursion (λ e. IsShape e.1) es

shapes_append : (es ds : List (Name × Shape)) → AreShapes es → AreShapes ds → AreShapes (es ++ ds)
shapes_append [] ds p q = q
shapes_append (e ∷ es) ds p q = (p.0, shapes_append es ds p.1 q)

register_widths : (ms : Shapes) (rs : List Register) → AreValues ms (map (λ x. (x.name, x.width)) rs) → AreShapes (map (λ x. (x.name, register x.width)) rs)
register_widths ms [] h = tt
register_widths ms (r ∷ rs) h = (h.0, register_widths ms rs h.3)

value_widths : (ms : Shapes) (is : List Input) (rs : List Register) → AreValues ms (map (λ x. (x.name, x.width)) is ++ map (λ x. (x.name, x.width)) rs)
    → AreShapes (map (λ x. (x.name, input x.width)) is) × AreShapes (map (λ x. (x.name, register x.width)) rs)
value_widths ms [] rs h = (tt, register_widths ms rs h)
value_widths ms (i ∷ is) rs h = let r = value_widths ms is rs h.3 in ((h.0, r.0), r.1)

wire_widths : (ms : Shapes) (readable : Scope) (ws : List Wire) → AreWires ms readable ws → AreShapes (map (λ x. (x.name, wire x.width)) ws)
wire_widths ms readable [] h = tt
wire_widths ms readable (w ∷ ws) h = (h.0, wire_widths ms ((w.name, w.width) ∷ readable) ws h.4)

memory_widths : (readable : Scope) (ms : List Memory) → AreMemories (map (λ x. (x.name, (x.width, x.depth))) ms) → AllByRecursion (IsMemory readable) ms
    → AreShapes (map (λ x. (x.name, memory x.width x.depth)) ms)
memory_widths readable [] h g = tt
memory_widths readable (m ∷ ms) h g = ((h.0, (g.0.bits, g.0.depth)), memory_widths readable ms h.2 g.1)

pub entities_fit : (n : Net) → IsNetlist n → AllByRecursion (λ e. IsShape e.1) (entities n)
entities_fit n h =
    let v = value_widths (shapes n) n.inputs n.registers h.values in
    shapes_append _ _ v.0 (shapes_append _ _ v.1
    (shapes_append _ _ (wire_widths (shapes n) (first_readable n) n.wires h.assigns) (memory_widths (readable n) n.memories h.memory_shapes h.writes)))
