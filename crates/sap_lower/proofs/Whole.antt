-- The netlist of a program is a netlist, and declares what the program declares.
use Rattle.sap_lemmas.proofs.Common.{◌≡◌, ℕ, ◌^◌, ◌<◌, ◌≤◌, List, [], ◌∷◌, ◌++◌, map, length, Some, None, true, false, sym, ◌∙◌, subst, refl, arith, inl, inr, bytes_eq, AllByRecursion, cases_Bool}
use Rattle.sap_net.proofs.RulesLemmas.{readable_both, readable_kept, wires_both, Grows, operand_grows}
use Rattle.sap_net.proofs.NamesLemmas.{among_behind, among_front, not_found, among_each}
use Rattle.sap_maps.proofs.ScopeLemmas.{found_first, found_second}
use Rattle.sap_ir.proofs.IsGuardedLemmas.{plain_wide}
use Rattle.sap_maps.specs.Prelude.{Name, Scope, find}
use Rattle.sap_maps.proofs.Scopes.{found_here}
use Rattle.sap_net.specs.Prelude.{is_among, AreDistinct, Shapes, IsWidth, IsOperand, AreWires, readable_after, IsRegister, IsMemory, AreValues, AreMemories}
use Rattle.sap_net.specs.declared.parts.Wire.{Wire}
use Rattle.sap_ir.specs.Prelude.{Source, variable_names, memory_names, declared, is_helping, IsRegisterVar, IsMemoryVariable, IsGuarded}
use Rattle.sap_ir.specs.declared.guarded.Var.{Var}
use Rattle.sap_ir.specs.declared.guarded.MemoryVariable.{MemoryVariable}
use Rattle.sap_ir.specs.Source as source
use Rattle.sap_ir.proofs.Declared.{distinct_front, distinct_behind, apart_lists}
use Rattle.sap_lower.specs.declared.parts.Part.{Part}
use Rattle.sap_lower.specs.declared.parts.WritePort.{WritePort}
use Rattle.sap_lower.specs.Lowering.{present}
use Rattle.sap_lower.specs.Commands.{port_of}
use Rattle.sap_lower.specs.Lowered.{listed, out_wire, register_of, memory_of, all_wires, last_lowering}
use Rattle.sap_lower.proofs.Fits.{EnvFits}
use Rattle.sap_lower.proofs.CommandsFit.{PortsFit, StateFits}
use Rattle.sap_lower.proofs.Begins.{scope_of, shapes_list}
use Rattle.sap_lower.proofs.Netlist.{first_scope, first_found}
use Rattle.sap_lower.proofs.Listed.{listed_distinct, listed_holds}
use Rattle.sap_lower.proofs.Rules.{outs_fit, wire_among, each_variable, kind_found}

long_front : (ws vs : List Wire) → length ws ≤ length (ws ++ vs)
long_front [] vs = omega arith
long_front (w ∷ ws) vs = omega (arith, long_front ws vs)

pub last_short : (s : Source) → length (all_wires s) < 2 ^ 64 → length (last_lowering s).wires < 2 ^ 64
last_short s l = omega (arith, long_front (last_lowering s).wires (map (out_wire (last_lowering s).entries) (listed s.ports s.wires)))

pub both_hold : (P Q R : Var → Type 0) (xs : List Var) → ((x : Var) → P x → Q x → R x) → AllByRecursion P xs → AllByRecursion Q xs → AllByRecursion R xs
both_hold P Q R [] h a b = tt
both_hold P Q R (x ∷ xs) h a b = (h x a.0 b.0, both_hold P Q R xs h a.1 b.1)

wire_plain : (s : Source) → IsGuarded s → (n : Name) → is_among n (variable_names s.wires) ≡ true → is_helping n ≡ false
wire_plain s g n a =
    let is = variable_names s.inputs in
    let rs = variable_names s.registers in
    let ws = variable_names s.wires in
    let ms = memory_names s.memories in
    among_each (λ x. is_helping x ≡ false) (declared s) g.not_helping n (among_behind n is (rs ++ (ws ++ ms)) (among_behind n rs (ws ++ ms) (among_front n ws ms a)))

pub registers_found : (s : Source) → IsGuarded s → AllByRecursion (λ x. find (source.readable s) x.name ≡ Some x.width) s.registers
registers_found s g =
    let is = variable_names s.inputs in
    let rs = variable_names s.registers in
    let ws = variable_names s.wires in
    let ms = memory_names s.memories in
    let d1 = distinct_behind is (rs ++ (ws ++ ms)) g.declared_once in
    let k = kind_found s.registers (distinct_front rs (ws ++ ms) d1) in
    both_hold (λ x. find (scope_of s.registers) x.name ≡ Some x.width) (λ x. is_among x.name rs ≡ true) (λ x. find (source.readable s) x.name ≡ Some x.width) s.registers
    (λ x f a. found_first (scope_of s.inputs ++ scope_of s.registers) (scope_of s.wires) x.name x.width
    (found_second (scope_of s.inputs) (scope_of s.registers) x.name
    (not_found {X = ℕ} (λ (y : Var). y.name) (λ y. y.width) s.inputs x.name
    (apart_lists is (rs ++ (ws ++ ms)) g.declared_once x.name (among_front x.name rs (ws ++ ms) a))) ∙ f))
    k (each_variable (λ x. is_among x.name rs ≡ true) s.registers (λ x a. a))

pub wires_found : (s : Source) → IsGuarded s → AllByRecursion (λ x. find (source.readable s) x.name ≡ Some x.width) s.wires
wires_found s g =
    let is = variable_names s.inputs in
    let rs = variable_names s.registers in
    let ws = variable_names s.wires in
    let ms = memory_names s.memories in
    let d2 = distinct_behind rs (ws ++ ms) (distinct_behind is (rs ++ (ws ++ ms)) g.declared_once) in
    let k = kind_found s.wires (distinct_front ws ms d2) in
    both_hold (λ x. find (scope_of s.wires) x.name ≡ Some x.width) (λ x. is_among x.name ws ≡ true) (λ x. find (source.readable s) x.name ≡ Some x.width) s.wires
    (λ x f a. let o = wire_among s g.declared_once x.name a in
    found_second (scope_of s.inputs ++ scope_of s.registers) (scope_of s.wires) x.name
    (found_second (scope_of s.inputs) (scope_of s.registers) x.name (not_found {X = ℕ} (λ (y : Var). y.name) (λ y. y.width) s.inputs x.name o.0)
    ∙ not_found {X = ℕ} (λ (y : Var). y.name) (λ y. y.width) s.registers x.name o.1) ∙ f)
    k (each_variable (λ x. is_among x.name ws ≡ true) s.wires (λ x a. a))

-- the operands of entries fit behind all wires
env_operands : (sc vars : Scope) (es : List (Name × Part)) → EnvFits sc vars es → (xs : List Var)
    → AllByRecursion (λ x. find vars x.name ≡ Some x.width) xs → AllByRecursion (λ x. IsOperand sc x.width (present es x.name).operand) xs
env_operands sc vars es e [] f = tt
env_operands sc vars es e (x ∷ xs) f = ((e x.name x.width f.0).0, env_operands sc vars es e xs f.1)

abbrev outs : Source → List Wire
outs s = map (out_wire (last_lowering s).entries) (listed s.ports s.wires)

outs_are : (s : Source) → IsGuarded s → StateFits (source.shapes s) (first_scope s) (source.readable s) (last_lowering s)
    → AreWires (source.shapes s) (readable_after (first_scope s) (last_lowering s).wires) (outs s)
outs_are s g k =
    let t = last_lowering s in
    let sc = readable_after (first_scope s) t.wires in
    let d2 = distinct_behind (variable_names s.registers) (variable_names s.wires ++ memory_names s.memories)
    (distinct_behind (variable_names s.inputs) (variable_names s.registers ++ (variable_names s.wires ++ memory_names s.memories)) g.declared_once) in
    let P = s.ports in
    let W = s.wires in
    outs_fit (source.shapes s) t.entries (listed P W) sc
    (listed_distinct P W (distinct_front (variable_names W) (memory_names s.memories) d2)) (listed_holds (λ x. IsWidth x.width) P W (plain_wide W g.wires))
    (listed_holds (λ x. find sc x.name ≡ None) P W (each_variable (λ x. find sc x.name ≡ None) W (λ x a.
    let o = wire_among s g.declared_once x.name a in
    let h : is_helping x.name ≡ false = wire_plain s g x.name a in
    k.fits.others x.name h ∙ first_found s x.name
    ∙ found_second (scope_of s.inputs) (scope_of s.registers) x.name (not_found {X = ℕ} (λ (y : Var). y.name) (λ y. y.width) s.inputs x.name o.0)
    ∙ not_found {X = ℕ} (λ (y : Var). y.name) (λ y. y.width) s.registers x.name o.1)))
    (listed_holds (λ x. find (source.shapes s) x.name ≡ None) P W
    (each_variable (λ x. find (source.shapes s) x.name ≡ None) W
    (λ x a. not_found {X = ℕ × ℕ} (λ (m : MemoryVariable). m.name) (λ m. (m.width, m.depth)) s.memories x.name (wire_among s g.declared_once x.name a).2)))
    (env_operands sc (source.readable s) t.entries k.env (listed P W) (listed_holds (λ x. find (source.readable s) x.name ≡ Some x.width) P W (wires_found s g)))

pub wires_are : (s : Source) → IsGuarded s → StateFits (source.shapes s) (first_scope s) (source.readable s) (last_lowering s)
    → AreWires (source.shapes s) (first_scope s) (all_wires s)
wires_are s g k = wires_both (source.shapes s) (last_lowering s).wires (outs s) (first_scope s) k.fits.wires (outs_are s g k)

-- what can be read behind the helping wires can be read behind all
pub grows_to_all : (s : Source) → IsGuarded s → (k : StateFits (source.shapes s) (first_scope s) (source.readable s) (last_lowering s))
    → Grows (readable_after (first_scope s) (last_lowering s).wires) (readable_after (first_scope s) (all_wires s))
grows_to_all s g k n u h =
    let sc = readable_after (first_scope s) (last_lowering s).wires in
    subst (λ (sd : Scope). find sd n ≡ Some u) (sym (readable_both (last_lowering s).wires (outs s) (first_scope s)))
    (readable_kept (source.shapes s) (outs s) sc (outs_are s g k) n u h)

pub nexts_are : (sc sd vars : Scope) (es : List (Name × Part)) → Grows sc sd → EnvFits sc vars es → (xs : List Var)
    → AllByRecursion (λ x. find vars x.name ≡ Some x.width) xs → AllByRecursion IsRegisterVar xs → AllByRecursion (λ x. IsRegister sd (register_of es x)) xs
nexts_are sc sd vars es g e [] f a = tt
nexts_are sc sd vars es g e (x ∷ xs) f a =
    ((a.0.1, operand_grows sc sd g x.width (present es x.name).operand (e x.name x.width f.0).0), nexts_are sc sd vars es g e xs f.1 a.1)

pub writes_are : (ms : Shapes) (sc sd : Scope) (ps : List (Name × WritePort)) → Grows sc sd → PortsFit ms sc ps → (xs : List MemoryVariable)
    → AllByRecursion (λ m. find ms m.name ≡ Some (m.width, m.depth)) xs → AllByRecursion IsMemoryVariable xs → AllByRecursion (λ m. IsMemory sd (memory_of ps m)) xs
writes_are ms sc sd ps g k [] f a = tt
writes_are ms sc sd ps g k (m ∷ xs) f a =
    let p = port_of ps m.name in
    let h = k m.name (m.width, m.depth) f.0 in (
      record {
        bits = p.bits;
        depth = h.deep;
        start = a.0.2;
        enable = operand_grows sc sd g 1 p.enable h.enable;
        index = operand_grows sc sd g p.bits p.index h.index;
        value = operand_grows sc sd g m.width p.value h.value;
      },
      writes_are ms sc sd ps g k xs f.1 a.1,
    )

stores_kept : (n : Name) (e : ℕ × ℕ) (sh : Shapes) (ms : List MemoryVariable) → is_among n (memory_names ms) ≡ false
    → AllByRecursion (λ m. find sh m.name ≡ Some (m.width, m.depth)) ms → AllByRecursion (λ m. find ((n, e) ∷ sh) m.name ≡ Some (m.width, m.depth)) ms
stores_kept n e sh [] d a = tt
stores_kept n e sh (m ∷ ms) d a =
    elim (cases_Bool (bytes_eq n m.name)) [
      | inl t ↦ absurd (let q : is_among n (memory_names (m ∷ ms)) ≡ true = rw t refl in cc)
      | inr f ↦ (rw f a.0, stores_kept n e sh ms (rw f at d) a.1)
    ]

pub stores_found : (ms : List MemoryVariable) → AreDistinct (memory_names ms) → AllByRecursion (λ m. find (shapes_list ms) m.name ≡ Some (m.width, m.depth)) ms
stores_found [] d = tt
stores_found (m ∷ ms) d = (found_here m.name (m.width, m.depth) (shapes_list ms), stores_kept m.name (m.width, m.depth) (shapes_list ms) ms d.0 (stores_found ms d.1))

pub values_are : (ms : Shapes) (xs : List Var) → AreDistinct (variable_names xs) → AllByRecursion (λ x. IsWidth x.width) xs
    → AllByRecursion (λ x. find ms x.name ≡ None) xs → AreValues ms (scope_of xs)
values_are ms [] d w n = tt
values_are ms (x ∷ xs) d w n = (w.0, not_found {X = ℕ} (λ (y : Var). y.name) (λ y. y.width) xs x.name d.0, n.0, values_are ms xs d.1 w.1 n.1)

pub memories_are : (ms : List MemoryVariable) → AreDistinct (memory_names ms) → AllByRecursion IsMemoryVariable ms → AreMemories (shapes_list ms)
memories_are [] d a = tt
memories_are (m ∷ ms) d a = (a.0.0, not_found {X = ℕ × ℕ} (λ (y : MemoryVariable). y.name) (λ y. (y.width, y.depth)) ms m.name d.0, memories_are ms d.1 a.1)
