-- The netlist of a program follows all rules of netlists.
use Rattle.sap_lemmas.proofs.Common.{◌≡◌, ℕ, List, [], ◌∷◌, ◌++◌, map, Some, None, true, false, ap, ap₂, refl, inl, inr, bytes_eq, AllByRecursion, cases_Bool, or_right, bytes_eq_same}
use Rattle.sap_net.proofs.NamesLemmas.{among_behind, among_front}
use Rattle.sap_maps.specs.Prelude.{Name, Scope, find}
use Rattle.sap_maps.proofs.Scopes.{found_here, found_behind}
use Rattle.sap_net.specs.Prelude.{is_among, AreDistinct, Shapes, IsWidth, IsOperand, AreWires, first_readable, shapes}
use Rattle.sap_net.specs.declared.parts.Input.{Input}
use Rattle.sap_net.specs.declared.parts.Register.{Register}
use Rattle.sap_net.specs.declared.parts.Memory.{Memory}
use Rattle.sap_net.proofs.RulesLemmas.{operand_grows}
use Rattle.sap_ir.specs.Prelude.{Source, variable_names, declared}
use Rattle.sap_ir.specs.declared.guarded.Var.{Var}
use Rattle.sap_ir.specs.declared.guarded.MemoryVariable.{MemoryVariable}
use Rattle.sap_ir.specs.Source as source
use Rattle.sap_ir.specs.IsGuarded as ir
use Rattle.sap_ir.proofs.Declared.{distinct_behind, apart_lists, apart_lists_back}
use Rattle.sap_lower.specs.declared.parts.Part.{Part}
use Rattle.sap_lower.specs.declared.parts.WritePort.{WritePort}
use Rattle.sap_lower.specs.Lowering.{present}
use Rattle.sap_lower.specs.Lowered.{out_wire, register_of, memory_of, input_of, registers_declared, last_lowering, lowered}
use Rattle.sap_lower.proofs.Begins.{scope_of, shapes_list}
use Rattle.sap_lower.proofs.Netlist.{first_scope}

-- the parts of the netlist in terms of the program

pub inputs_scope : (xs : List Var) → map (λ (x : Input). (x.name, x.width)) (map input_of xs) ≡ scope_of xs
inputs_scope [] = refl
inputs_scope (x ∷ xs) = ap (λ es. (x.name, x.width) ∷ es) (inputs_scope xs)

pub registers_scope_is : (es : List (Name × Part)) (xs : List Var) → map (λ (r : Register). (r.name, r.width)) (map (register_of es) xs) ≡ scope_of xs
registers_scope_is es [] = refl
registers_scope_is es (x ∷ xs) = ap (λ ds. (x.name, x.width) ∷ ds) (registers_scope_is es xs)

pub first_readable_is : (s : Source) → first_readable (lowered s) ≡ first_scope s
first_readable_is s = ap₂ (λ (a b : Scope). a ++ b) (inputs_scope s.inputs) (registers_scope_is (last_lowering s).entries (registers_declared s))

shapes_of_memories : (ps : List (Name × WritePort)) (ms : List MemoryVariable) → map (λ (m : Memory). (m.name, (m.width, m.depth))) (map (memory_of ps) ms) ≡ shapes_list ms
shapes_of_memories ps [] = refl
shapes_of_memories ps (m ∷ ms) = ap (λ ds. (m.name, (m.width, m.depth)) ∷ ds) (shapes_of_memories ps ms)

pub shapes_are : (s : Source) → shapes (lowered s) ≡ source.shapes s
shapes_are s = shapes_of_memories (last_lowering s).ports s.memories

-- the wires that the program has

-- each name is new to a scope
abbrev AllNew : {X : Type 0} → List (Name × X) → List Var → Type 0
AllNew sc xs = AllByRecursion (λ x. find sc x.name ≡ None) xs

new_behind : (sc : Scope) (n : Name) (u : ℕ) (xs : List Var) → is_among n (variable_names xs) ≡ false → AllNew sc xs → AllNew ((n, u) ∷ sc) xs
new_behind sc n u [] d a = tt
new_behind sc n u (x ∷ xs) d a =
    elim (cases_Bool (bytes_eq n x.name)) [
      | inl t ↦ absurd (let e : is_among n (variable_names (x ∷ xs)) ≡ true = rw t refl in cc)
      | inr f ↦ (rw f a.0, new_behind sc n u xs (rw f at d) a.1)
    ]

operands_kept : (sc : Scope) (n : Name) (u : ℕ) → find sc n ≡ None → (es : List (Name × Part)) (xs : List Var)
    → AllByRecursion (λ x. IsOperand sc x.width (present es x.name).operand) xs → AllByRecursion (λ x. IsOperand ((n, u) ∷ sc) x.width (present es x.name).operand) xs
operands_kept sc n u new es [] o = tt
operands_kept sc n u new es (x ∷ xs) o =
    (operand_grows sc ((n, u) ∷ sc) (λ m w h. found_behind sc n u new m w h) x.width (present es x.name).operand o.0, operands_kept sc n u new es xs o.1)

pub outs_fit : (ms : Shapes) (es : List (Name × Part)) (xs : List Var) (sc : Scope) → AreDistinct (variable_names xs)
    → AllByRecursion (λ x. IsWidth x.width) xs → AllNew sc xs → AllNew ms xs
    → AllByRecursion (λ x. IsOperand sc x.width (present es x.name).operand) xs → AreWires ms sc (map (out_wire es) xs)
outs_fit ms es [] sc d w a b o = tt
outs_fit ms es (x ∷ xs) sc d w a b o =
    (w.0, a.0, b.0, o.0, outs_fit ms es xs ((x.name, x.width) ∷ sc) d.1 w.1 (new_behind sc x.name x.width xs d.0 a.1) b.1 (operands_kept sc x.name x.width a.0 es xs o.1))

-- names of a kind, found and new

pub wire_among : (s : Source) → AreDistinct (declared s) → (n : Name) → is_among n (variable_names s.wires) ≡ true
    → (is_among n (variable_names s.inputs) ≡ false) × (is_among n (variable_names s.registers) ≡ false) × (is_among n (ir.memory_names s.memories) ≡ false)
wire_among s d n h =
    let is = variable_names s.inputs in
    let rs = variable_names s.registers in
    let ws = variable_names s.wires in
    let ms = ir.memory_names s.memories in
    let d1 = distinct_behind is (rs ++ (ws ++ ms)) d in
    let d2 = distinct_behind rs (ws ++ ms) d1 in
    let f = among_front n ws ms h in
    (apart_lists is (rs ++ (ws ++ ms)) d n (among_behind n rs (ws ++ ms) f), apart_lists rs (ws ++ ms) d1 n f, apart_lists_back ws ms d2 n h)

each_var : (P : Var → Type 0) (all xs : List Var) → ((x : Var) → is_among x.name (variable_names all) ≡ true → P x)
    → ((n : Name) → is_among n (variable_names xs) ≡ true → is_among n (variable_names all) ≡ true) → AllByRecursion P xs
each_var P all [] h k = tt
each_var P all (x ∷ xs) h k = (h x (k x.name (rw (bytes_eq_same x.name) refl)), each_var P all xs h (λ n a. k n (or_right (bytes_eq n x.name) (is_among n (variable_names xs)) a)))

pub each_variable : (P : Var → Type 0) (xs : List Var) → ((x : Var) → is_among x.name (variable_names xs) ≡ true → P x) → AllByRecursion P xs
each_variable P xs h = each_var P xs xs h (λ n a. a)

kept_found : (n : Name) (u : ℕ) (sc : Scope) (xs : List Var) → is_among n (variable_names xs) ≡ false
    → AllByRecursion (λ x. find sc x.name ≡ Some x.width) xs → AllByRecursion (λ x. find ((n, u) ∷ sc) x.name ≡ Some x.width) xs
kept_found n u sc [] d a = tt
kept_found n u sc (x ∷ xs) d a =
    elim (cases_Bool (bytes_eq n x.name)) [
      | inl t ↦ absurd (let e : is_among n (variable_names (x ∷ xs)) ≡ true = rw t refl in cc)
      | inr f ↦ (rw f a.0, kept_found n u sc xs (rw f at d) a.1)
    ]

-- each variable is found among its kind
pub kind_found : (xs : List Var) → AreDistinct (variable_names xs) → AllByRecursion (λ x. find (scope_of xs) x.name ≡ Some x.width) xs
kind_found [] d = tt
kind_found (x ∷ xs) d = (found_here x.name x.width (scope_of xs), kept_found x.name x.width (scope_of xs) xs d.0 (kind_found xs d.1))

pub found_mapped : (f : Var → Type 0) (g : Var → Type 0) (xs : List Var) → ((x : Var) → f x → g x) → AllByRecursion f xs → AllByRecursion g xs
found_mapped f g [] h a = tt
found_mapped f g (x ∷ xs) h a = (h x a.0, found_mapped f g xs h a.1)
