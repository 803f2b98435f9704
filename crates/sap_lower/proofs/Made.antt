-- What is made of a program is its netlist, with all that is known of it.
use Rattle.std.proofs.Common.{◌≡◌, ℕ, ◌^◌, ◌<◌, List, [], ◌∷◌, ◌++◌, map, length, Some, true, false, sym, ap, ◌∙◌, subst, refl}
use Rattle.sap_net.proofs.RulesLemmas.{readable_kept, wires_distinct}
use Rattle.sap_net.proofs.NamesLemmas.{not_found}
use Rattle.sap_maps.proofs.ScopeLemmas.{found_second}
use Rattle.sap_maps.specs.Prelude.{Name, Scope, find}
use Rattle.sap_net.specs.Prelude.{is_among, AreDistinct, Net, readable_after, readable, names_of}
use Rattle.sap_net.specs.declared.parts.Wire.{Wire}
use Rattle.sap_net.specs.declared.parts.Register.{Register}
use Rattle.sap_net.specs.declared.parts.Memory.{Memory}
use Rattle.sap_ir.specs.Prelude.{Source, variable_names, IsGuarded}
use Rattle.sap_ir.specs.declared.guarded.Var.{Var}
use Rattle.sap_ir.specs.declared.guarded.MemoryVariable.{MemoryVariable}
use Rattle.sap_ir.specs.Source as source
use Rattle.sap_ir.specs.IsGuarded as ir
use Rattle.sap_ir.proofs.Declared.{not_front, distinct_front, distinct_behind, apart_lists, apart_lists_back}
use Rattle.sap_lower.specs.declared.parts.Part.{Part}
use Rattle.sap_lower.specs.declared.parts.WritePort.{WritePort}
use Rattle.sap_lower.specs.declared.lowering.Lowering.{Lowering}
use Rattle.sap_lower.specs.Lowered.{last_lowering, listed, out_wire, register_of, memory_of, registers_declared, all_wires, net_declared, lowered}
use Rattle.sap_lower.specs.Same.{Declares}
use Rattle.sap_lower.proofs.Order.{same_found, found_of}
use Rattle.sap_lower.proofs.Begins.{scope_of}
use Rattle.sap_lower.proofs.Cycle.{Known}
use Rattle.sap_lower.proofs.Kept.{names_kept}
use Rattle.sap_lower.proofs.Listed.{listed_distinct}
use Rattle.sap_lower.proofs.Netlist.{first_scope, first_found, last_fits, entries_have, ports_have, source_commands}
use Rattle.sap_lower.proofs.Rules.{first_readable_is, shapes_are, each_variable, kind_found, found_mapped}
use Rattle.sap_lower.proofs.Names.{outs_named}
use Rattle.sap_lower.proofs.Whole.{last_short, wires_are, registers_found, wires_found, stores_found, both_hold}
use Rattle.sap_lower.proofs.Final.{lowered_rules, scopes_append, distinct_values}

not_both_lists : (I R B : List Name) → AreDistinct (I ++ (R ++ B)) → (n : Name) → is_among n I ≡ true → is_among n R ≡ false
not_both_lists I R B d n h = not_front n R B (apart_lists_back I (R ++ B) d n h)

pub known_of : (s : Source) → IsGuarded s → length (all_wires s) < 2 ^ 64 → Known s
known_of s g l =
    let I = variable_names s.inputs in
    let R = variable_names s.registers in
    let W = variable_names s.wires in
    let M = ir.memory_names s.memories in
    let d1 = distinct_behind I (R ++ (W ++ M)) g.declared_once in
    let d2 = distinct_behind R (W ++ M) d1 in
    let dr = distinct_front R (W ++ M) d1 in
    let fits = last_fits s g (last_short s l) in
    let wires = wires_are s g fits in
    let each = kind_found (s.inputs ++ s.registers)
    (distinct_values s.inputs s.registers (distinct_front I (R ++ (W ++ M)) g.declared_once) dr (λ n h. not_both_lists I R (W ++ M) g.declared_once n h)) in
    record {
      rules = g;
      netlist = lowered_rules s g l;
      commands = source_commands s g;
      entries = entries_have s;
      ports = ports_have s;
      found = found_mapped (λ x. find (scope_of (s.inputs ++ s.registers)) x.name ≡ Some x.width) (λ x. find (readable (lowered s)) x.name ≡ Some x.width) (s.inputs ++ s.registers)
          (λ x h.
          let e : find (first_scope s) x.name ≡ Some x.width =
          first_found s x.name ∙ subst (λ (sc : Scope). find sc x.name ≡ Some x.width) (scopes_append s.inputs s.registers) h in
          let r = readable_kept (source.shapes s) (all_wires s) (first_scope s) wires x.name x.width e in
          subst (λ (sc : Scope). find (readable_after sc (all_wires s)) x.name ≡ Some x.width) (sym (first_readable_is s)) r)
          each;
      shapes = shapes_are s;
      registers_readable = registers_found s g;
      wires_readable = wires_found s g;
      memories_found = stores_found s.memories (distinct_behind W M d2);
      registers_differ = dr;
    }

-- what is declared

register_pairs : (es : List (Name × Part)) (xs : List Var)
    → ◌≡◌ {A = List (Name × (ℕ × ℕ))} (map (λ (r : Register). (r.name, (r.width, r.start))) (map (register_of es) xs)) (map (λ x. (x.name, (x.width, x.start))) xs)
register_pairs es [] = refl
register_pairs es (x ∷ xs) = ap (λ (l : List (Name × (ℕ × ℕ))). (x.name, (x.width, x.start)) ∷ l) (register_pairs es xs)

memory_parts : (ps : List (Name × WritePort)) (ms : List MemoryVariable)
    → ◌≡◌ {A = List (Name × (ℕ × (ℕ × ℕ)))} (map (λ (m : Memory). (m.name, (m.width, (m.depth, m.start)))) (map (memory_of ps) ms))
    (map (λ m. (m.name, (m.width, (m.depth, m.start)))) ms)
memory_parts ps [] = refl
memory_parts ps (m ∷ ms) = ap (λ (l : List (Name × (ℕ × (ℕ × ℕ)))). (m.name, (m.width, (m.depth, m.start))) ∷ l) (memory_parts ps ms)

outs_scope : (es : List (Name × Part)) (ws : List Wire) (xs : List Var)
    → ◌≡◌ {A = Scope} (map (λ (w : Wire). (w.name, w.width)) (ws ++ map (out_wire es) xs)) (map (λ w. (w.name, w.width)) ws ++ scope_of xs)
outs_scope es (w ∷ ws) xs = ap (λ (l : Scope). (w.name, w.width) ∷ l) (outs_scope es ws xs)
outs_scope es [] [] = refl
outs_scope es [] (x ∷ xs) = ap (λ (l : Scope). (x.name, x.width) ∷ l) (outs_scope es [] xs)

pub declares_all : (s : Source) → IsGuarded s → length (all_wires s) < 2 ^ 64 → Declares s (lowered s)
declares_all s g l =
    let t = last_lowering s in
    let M = ir.memory_names s.memories in
    let shown = listed s.ports s.wires in
    let W = variable_names shown in
    let fits = last_fits s g (last_short s l) in
    let wires = wires_are s g fits in
    let all = variable_names s.wires in
    let d2 = distinct_behind (variable_names s.registers) (all ++ M) (distinct_behind (variable_names s.inputs) (variable_names s.registers ++ (all ++ M)) g.declared_once) in
    let apart : AreDistinct (names_of t.wires ++ W) =
    subst AreDistinct (outs_named t.entries t.wires shown) (wires_distinct (source.shapes s) (all_wires s) (first_scope s) wires) in
    record {
      module_name = refl;
      ports = refl;
      inputs = refl;
      registers = λ x. ap (λ (es : List (Name × (ℕ × ℕ))). find es x) (register_pairs t.entries (registers_declared s))
          ∙ found_of (λ (y : Var). (y.width, y.start)) (registers_declared s) s.registers x (same_found s.registers s.ports x);
      memories = memory_parts t.ports s.memories;
      wires = both_hold (λ x. find (scope_of shown) x.name ≡ Some x.width) (λ x. is_among x.name W ≡ true)
          (λ x. find (map (λ w. (w.name, w.width)) (all_wires s)) x.name ≡ Some x.width) shown
          (λ x f a. ap (λ (es : Scope). find es x.name) (outs_scope t.entries t.wires shown)
          ∙ found_second (map (λ w. (w.name, w.width)) t.wires) (scope_of shown) x.name
          (not_found {X = ℕ} (λ (w : Wire). w.name) (λ w. w.width) t.wires x.name (apart_lists (names_of t.wires) W apart x.name a)) ∙ f)
          (kind_found shown (listed_distinct s.ports s.wires (distinct_front all M d2))) (each_variable (λ x. is_among x.name W ≡ true) shown (λ x a. a));
      names = names_kept s g fits.fits.helping;
    }

-- what the code makes

pub made_is : (s : Source) (net : Net) (l : Lowering) (ws : List Wire) → l ≡ last_lowering s → ws ≡ l.wires ++ map (out_wire l.entries) (listed s.ports s.wires)
    → net ≡ net_declared s ws l.entries l.ports → net ≡ lowered s
made_is s net l ws last all h =
    h
    ∙ ap (λ (x : List Wire). net_declared s x l.entries l.ports) all
    ∙ ap (λ (q : Lowering). net_declared s (q.wires ++ map (out_wire q.entries) (listed s.ports s.wires)) q.entries q.ports) last
