-- What the flat program declares, and that it is one.
use Rattle.sap_lemmas.proofs.Common.{◌≡◌, ℕ, ◌^◌, ◌≤◌, List, [], ◌∷◌, ◌++◌, map, None, true, false, sym, ap, ◌∙◌, subst, refl, arith, append_assoc, AllByRecursion, all_append}
use Rattle.sap_net.proofs.NamesLemmas.{among_front, not_found}
use Rattle.sap_maps.proofs.ScopeLemmas.{found_first, found_second}
use Rattle.sap_ir.proofs.IsGuardedLemmas.{variables_append}
use Rattle.sap_maps.specs.Prelude.{Name, Scope, find}
use Rattle.sap_net.specs.Prelude.{is_name, is_among, AreDistinct, root_seat}
use Rattle.sap_ir.specs.Prelude.{readable, width_of, assignable, variable_names, memory_names, declared, is_helping, IsPlainVar, IsGuarded, Nested, declarations, seats, IsPlain}
use Rattle.sap_ir.specs.declared.guarded.Var.{Var}
use Rattle.sap_ir.proofs.Declared.{not_front, not_behind_list, readable_width, shape_width}
use Rattle.sap_ir.proofs.Passes.{source_widths}
use Rattle.sap_flat.specs.Gates.{gate_name, gate_wires}
use Rattle.sap_flat.specs.Flat.{flat_states, flattened}
use Rattle.sap_flat.proofs.GateNames.{gate_not_among}
use Rattle.sap_flat.proofs.Alike.{World, seat_found}
use Rattle.sap_flat.proofs.Listed.{all_with, distinct_with, gates_distinct, gates_apart, gates_named, gates_not_helping, gates_plain, gate_found, not_declared}
use Rattle.sap_flat.proofs.Fits.{Grown, states_fit}

-- how many gates there are
abbrev pub gate_count : Nested → ℕ
gate_count p = (flat_states p.states).next

pub gate_undeclared : (p : Nested) → IsPlain p → (k : ℕ) → is_among (gate_name k) (declared (declarations p)) ≡ false
gate_undeclared p h k = gate_not_among k (declared (declarations p)) h.declares.named h.not_gates

-- the lists of names

front : Nested → List Name
front p = variable_names p.inputs ++ (variable_names p.registers ++ variable_names p.wires)

gate_names : Nested → List Name
gate_names p = variable_names (gate_wires 0 (gate_count p))

behind_front : (p : Nested) (ns : List Name) → front p ++ ns ≡ variable_names p.inputs ++ (variable_names p.registers ++ (variable_names p.wires ++ ns))
unfolding front
behind_front p ns =
    append_assoc (variable_names p.inputs) (variable_names p.registers ++ variable_names p.wires) ns
    ∙ ap (λ (ms : List Name). variable_names p.inputs ++ ms) (append_assoc (variable_names p.registers) (variable_names p.wires) ns)

plain_declared : (p : Nested) → front p ++ memory_names p.memories ≡ declared (declarations p)
plain_declared p = behind_front p (memory_names p.memories)

flat_declared : (p : Nested) → front p ++ (gate_names p ++ memory_names p.memories) ≡ declared (flattened p)
unfolding gate_names
flat_declared p =
    behind_front p (gate_names p ++ memory_names p.memories)
    ∙ ap (λ (ms : List Name). variable_names p.inputs ++ (variable_names p.registers ++ ms))
    (sym (append_assoc (variable_names p.wires) (gate_names p) (memory_names p.memories))
    ∙ ap (λ (ms : List Name). ms ++ memory_names p.memories) (sym (variables_append p.wires (gate_wires 0 (gate_count p)))))

pub flat_distinct : (p : Nested) → IsPlain p → AreDistinct (declared (flattened p))
unfolding gate_names
flat_distinct p h =
    let ms = memory_names p.memories in
    subst AreDistinct (flat_declared p)
    (distinct_with (front p) (gate_names p) ms (subst AreDistinct (sym (plain_declared p)) h.declares.declared_once) (gates_distinct 0 (gate_count p))
    (gates_apart (front p ++ ms) (λ k. ap (is_among (gate_name k)) (plain_declared p) ∙ gate_undeclared p h k) 0 (gate_count p)))

flat_all : (p : Nested) (P : Name → Type 0) → AllByRecursion P (declared (declarations p)) → AllByRecursion P (gate_names p) → AllByRecursion P (declared (flattened p))
flat_all p P a b =
    subst (AllByRecursion P) (flat_declared p) (all_with P (front p) (gate_names p) (memory_names p.memories) (subst (AllByRecursion P) (sym (plain_declared p)) a) b)

-- what can be read and assigned

scopes_append : (xs ys : List Var) → map {B = Name × ℕ} (λ x. (x.name, x.width)) (xs ++ ys) ≡ map (λ x. (x.name, x.width)) xs ++ map (λ x. (x.name, x.width)) ys
scopes_append [] ys = refl
scopes_append (x ∷ xs) ys = ap (λ (es : Scope). (x.name, x.width) ∷ es) (scopes_append xs ys)

flat_readable : (p : Nested) → readable (flattened p) ≡ readable (declarations p) ++ map (λ x. (x.name, x.width)) (gate_wires 0 (gate_count p))
flat_readable p =
    let first = map (λ x. (x.name, x.width)) p.inputs ++ map (λ x. (x.name, x.width)) p.registers in
    let wires = map (λ x. (x.name, x.width)) p.wires in
    let gates = map (λ x. (x.name, x.width)) (gate_wires 0 (gate_count p)) in
    ap (λ (es : Scope). first ++ es) (scopes_append p.wires (gate_wires 0 (gate_count p))) ∙ sym (append_assoc first wires gates)

flat_assignable : (p : Nested) → assignable (flattened p) ≡ assignable (declarations p) ++ map (λ x. (x.name, x.width)) (gate_wires 0 (gate_count p))
flat_assignable p =
    let first = map (λ x. (x.name, x.width)) p.registers in
    let wires = map (λ x. (x.name, x.width)) p.wires in
    let gates = map (λ x. (x.name, x.width)) (gate_wires 0 (gate_count p)) in
    ap (λ (es : Scope). first ++ es) (scopes_append p.wires (gate_wires 0 (gate_count p))) ∙ sym (append_assoc first wires gates)

not_assignable : (p : Nested) (n : Name) → is_among n (declared (declarations p)) ≡ false → find (assignable (declarations p)) n ≡ None
not_assignable p n h =
    let is = variable_names p.inputs in
    let rs = variable_names p.registers in
    let ws = variable_names p.wires in
    let ms = memory_names p.memories in
    let h1 = not_behind_list n is (rs ++ (ws ++ ms)) h in
    let b = not_front n rs (ws ++ ms) h1 in
    let c = not_front n ws ms (not_behind_list n rs (ws ++ ms) h1) in
    let registers = map (λ x. (x.name, x.width)) p.registers in
    found_second registers (map (λ x. (x.name, x.width)) p.wires) n (not_found (λ (x : Var). x.name) (λ x. x.width) p.registers n b)
    ∙ not_found (λ (x : Var). x.name) (λ x. x.width) p.wires n c

pub grown : (p : Nested) → IsPlain p → Grown p (gate_count p)
grown p h =
    let gates : Scope = map (λ x. (x.name, x.width)) (gate_wires 0 (gate_count p)) in
    record {
      reads = λ n u f. ap (λ (es : Scope). find es n) (flat_readable p) ∙ found_first (readable (declarations p)) gates n u f;
      sets = λ n u f. ap (λ (es : Scope). find es n) (flat_assignable p) ∙ found_first (assignable (declarations p)) gates n u f;
      gate_read = λ k l. ap (λ (es : Scope). find es (gate_name k)) (flat_readable p)
          ∙ found_second (readable (declarations p)) gates (gate_name k) (not_declared (declarations p) (gate_name k) (gate_undeclared p h k))
          ∙ gate_found 0 (gate_count p) k (omega arith) (omega (arith, l));
      gate_set = λ k l. ap (λ (es : Scope). find es (gate_name k)) (flat_assignable p)
          ∙ found_second (assignable (declarations p)) gates (gate_name k) (not_assignable p (gate_name k) (gate_undeclared p h k))
          ∙ gate_found 0 (gate_count p) k (omega arith) (omega (arith, l));
    }

pub world : (p : Nested) → IsPlain p → World (declarations p) (width_of (flattened p)) (width_of (declarations p))
world p h =
    let g = grown p h in
    record {
      distinct = h.declares.declared_once;
      flat = record {
        values = λ n u f. readable_width (flattened p) n u (g.reads n u f);
        cells = λ n e f. shape_width (flattened p) (flat_distinct p h) n e f;
      };
      plain = source_widths (declarations p) h.declares.declared_once;
      new = λ k. not_declared (declarations p) (gate_name k) (gate_undeclared p h k);
    }

more_ports : (rs ws gs xs : List Name) → AllByRecursion (λ x. is_among x (rs ++ ws) ≡ true) xs → AllByRecursion (λ x. is_among x (rs ++ (ws ++ gs)) ≡ true) xs
more_ports rs ws gs [] a = tt
more_ports rs ws gs (x ∷ xs) a = (
  ap (is_among x) (sym (append_assoc rs ws gs)) ∙ among_front x (rs ++ ws) gs a.0,
  more_ports rs ws gs xs a.1,
)

-- where there are no more gates than numbers of 64 bits
pub flat_is_guarded : (p : Nested) → IsPlain p → gate_count p ≤ 2 ^ 64 → IsGuarded (flattened p)
unfolding gate_names
flat_is_guarded p h l =
    let d = h.declares in
    let w = world p h in
    let gates = gate_wires 0 (gate_count p) in
    record {
      named = flat_all p (λ n. is_name n ≡ true) d.named (gates_named 0 (gate_count p) (omega (arith, l)));
      not_helping = flat_all p (λ n. is_helping n ≡ false) d.not_helping (gates_not_helping 0 (gate_count p) (omega (arith, l)));
      declared_once = flat_distinct p h;
      inputs = d.inputs;
      wires = all_append IsPlainVar p.wires gates d.wires (gates_plain 0 (gate_count p));
      registers = d.registers;
      memories = d.memories;
      ports_declared = subst (λ (ns : List Name). AllByRecursion (λ x. is_among x (variable_names p.registers ++ ns) ≡ true) p.ports)
          (sym (variables_append p.wires gates)) (more_ports (variable_names p.registers) (variable_names p.wires) (variable_names gates) p.ports d.ports_declared);
      ports_once = d.ports_once;
      commands = states_fit p (gate_count p) (grown p h)
          (seat_found (declarations p) (width_of (flattened p)) (width_of (declarations p)) w) (seats p) root_seat p.states h.root h.states_fine (omega arith);
    }
