-- What registers take and memories are written, given at the end.
use Rattle.sap_lemmas.proofs.Common.{◌≡◌, ℕ, List, [], ◌∷◌, ◌++◌, map, filter, ap, ap₂, sym, ◌∙◌, refl, subst, AllByRecursion, all_follow}
use Rattle.sap_maps.specs.Prelude.{Name, Scope}
use Rattle.sap_net.specs.Prelude.{is_among, Net, Shapes, AreValues, AreMemories, AreWires, IsRegister, IsMemory, readable_after, IsNetlist, PortShows, input_names, wire_names, register_names, memory_names, first_readable, readable, shapes}
use Rattle.sap_net.specs.declared.parts.PortKind.{PortKind}
use Rattle.sap_net.specs.declared.parts.Port.{Port}
use Rattle.sap_net.specs.declared.parts.Register.{Register}
use Rattle.sap_net.specs.declared.parts.Memory.{Memory}
use Rattle.sap_net.specs.declared.parts.PortKind.TheVariants as kind
use Rattle.sap_build.specs.Waiting.{at_edges}

names_of_entries : {X Y : Type 0} (name : Y → Name) (of : Y → X) (ys : List Y) → map (λ (e : Name × X). e.0) (map (λ y. (name y, of y)) ys) ≡ map name ys
names_of_entries name of [] = refl
names_of_entries name of (y ∷ ys) = ap (λ ns. name y ∷ ns) (names_of_entries name of ys)

-- equal entries have equal names
same_names : {X Y : Type 0} (name : Y → Name) (of : Y → X) (ys zs : List Y) → map {B = Name × X} (λ y. (name y, of y)) ys ≡ map (λ y. (name y, of y)) zs → map name ys ≡ map name zs
same_names {X} name of ys zs h =
    sym (names_of_entries name of ys) ∙ ap (λ (es : List (Name × X)). map (λ e. e.0) es) h ∙ names_of_entries name of zs

edges_show : (n : Net) (rs : List Register) (ms : List Memory) → map (λ r. r.name) rs ≡ register_names n → (k : PortKind) (x : Name)
    → PortShows n k x → PortShows (at_edges rs ms n) k x
edges_show n rs ms e kind.Input x h = h
edges_show n rs ms e kind.Register x h = ap (is_among x) e ∙ h
edges_show n rs ms e kind.Wire x h = h

pub edges_are_given : (n : Net) → IsNetlist n → (rs : List Register) (ms : List Memory)
    → map {B = Name × ℕ} (λ r. (r.name, r.width)) rs ≡ map (λ r. (r.name, r.width)) n.registers
    → map {B = Name × (ℕ × ℕ)} (λ m. (m.name, (m.width, m.depth))) ms ≡ shapes n
    → AllByRecursion (IsRegister (readable n)) rs → AllByRecursion (IsMemory (readable n)) ms → IsNetlist (at_edges rs ms n)
edges_are_given n rules rs ms d e nexts writes =
    let c = at_edges rs ms n in
    let registers : register_names c ≡ register_names n = same_names (λ (r : Register). r.name) (λ r. r.width) rs n.registers d in
    let memories : memory_names c ≡ memory_names n = same_names {X = ℕ × ℕ} (λ (m : Memory). m.name) (λ m. (m.width, m.depth)) ms n.memories e in
    let first : first_readable c ≡ first_readable n = ap (λ (sc : Scope). map (λ i. (i.name, i.width)) n.inputs ++ sc) d in
    let read : readable c ≡ readable n = ap (λ (sc : Scope). readable_after sc n.wires) first in
    record {
      module_named = rules.module_named;
      named = rules.named;
      declared_once = rules.declared_once;
      declared = λ x. rules.declared x ∙ sym (ap₂ (λ (a b : List Name). is_among x (input_names n ++ wire_names n ++ a ++ b)) registers memories);
      registers_in_order = subst (λ (ns : List Name). filter (λ x. is_among x ns) n.names ≡ ns) (sym registers) rules.registers_in_order;
      memories_in_order = subst (λ (ns : List Name). filter (λ x. is_among x ns) n.names ≡ ns) (sym memories) rules.memories_in_order;
      ports_first = rules.ports_first;
      ports_show = all_follow (λ (p : Port). PortShows n p.kind p.name) (λ p. PortShows c p.kind p.name) n.ports (λ p. edges_show n rs ms registers p.kind p.name) rules.ports_show;
      inputs_are_ports = rules.inputs_are_ports;
      values = subst (λ (sc : Scope). AreValues (shapes c) sc) (sym first) (subst (λ (es : Shapes). AreValues es (first_readable n)) (sym e) rules.values);
      memory_shapes = subst AreMemories (sym e) rules.memory_shapes;
      assigns = subst (λ (sc : Scope). AreWires (shapes c) sc n.wires) (sym first) (subst (λ (es : Shapes). AreWires es (first_readable n) n.wires) (sym e) rules.assigns);
      nexts = subst (λ (sc : Scope). AllByRecursion (IsRegister sc) rs) (sym read) nexts;
      writes = subst (λ (sc : Scope). AllByRecursion (IsMemory sc) ms) (sym read) writes;
    }
