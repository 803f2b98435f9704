-- How a cycle begins: what each name and each write port stand for at first.
use Rattle.sap_lemmas.proofs.Common.{if◌then◌else◌, ◌≡◌, ℕ, zero, suc, ◌^◌, ◌<◌, ◌≤◌, ◌==◌, List, [], ◌∷◌, ◌++◌, map, Option, Some, Bool, true, false, sym, ap, ◌∙◌, subst, refl, arith, inl, inr, append_assoc, bytes_eq, AllByRecursion, pow_pos, cases_Bool, Decides-eqb, same_power, equal_of_bytes_eq}
use Rattle.sap_lemmas.proofs.Numbers.{below_unequal}
use Rattle.sap_maps.specs.Prelude.{Name, Valuation, Scope, find}
use Rattle.sap_net.specs.Prelude.{is_among, Shapes, InputsAre, operand_value, operand_width}
use Rattle.sap_net.specs.declared.parts.Operand.TheVariants.{Named, Constant}
use Rattle.sap_ir.specs.Prelude.{Source, first_number, register_number, number_at_start, first_cell, cell_at_start}
use Rattle.sap_ir.specs.declared.guarded.Var.{Var}
use Rattle.sap_ir.specs.declared.guarded.MemoryVariable.{MemoryVariable}
use Rattle.sap_lower.specs.declared.parts.Part.{Part}
use Rattle.sap_lower.specs.declared.parts.WritePort.{WritePort}
use Rattle.sap_lower.specs.Lowered.{named_entry, targets, register_entry, zero_entry, first_entries, first_port, bits_within, index_bits, input_of}
use Rattle.sap_lower.proofs.Means.{Env}

abbrev pub scope_of : List Var → Scope
scope_of xs = map (λ x. (x.name, x.width)) xs

-- a variable has its width, and a number within it
abbrev pub IsKnown : (Name → ℕ) → Valuation → Var → Type 0
IsKnown widths v x = (widths x.name ≡ x.width) × (v.value x.name < 2 ^ x.width)

env_zero : (widths : Name → ℕ) (v : Valuation) (xs : List Var) → Env widths v (scope_of xs) (map zero_entry xs) (λ n. 0)
env_zero widths v [] n u f = absurd (cc)
env_zero widths v (x ∷ xs) n u f =
    elim (cases_Bool (bytes_eq x.name n)) [
      | inl t ↦
          let q : Some x.width ≡ Some u = rw t at f in
          let k : x.width ≡ u = cc in
          rw t (record { shows = record { value = refl; wide = k; width = k }; below = pow_pos u })
      | inr d ↦ rw d (env_zero widths v xs n u (rw d at f))
    ]

-- x has its start, if it is none of the assigned names
abbrev pub KeepsIfUnassigned : (assigned : List Name) → Valuation → Var → Type 0
KeepsIfUnassigned assigned v x = is_among x.name assigned ≡ false → v.value x.name ≡ x.start

either_value : (v : Valuation) (x : Var) (b : Bool) → (b ≡ false → v.value x.name ≡ x.start)
    → operand_value v (if b then Named x.name else Constant x.width x.start) ≡ v.value x.name
either_value v x true f = refl
either_value v x false f = sym (f refl)

either_wide : (widths : Name → ℕ) (x : Var) (b : Bool) → widths x.name ≡ x.width → operand_width widths (if b then Named x.name else Constant x.width x.start) ≡ x.width
either_wide widths x true e = e
either_wide widths x false e = refl

env_registers : (widths : Name → ℕ) (v : Valuation) (before : Option Valuation) (assigned : List Name) (rs : List Var) (sc : Scope) (es : List (Name × Part))
    → AllByRecursion (λ x. v.value x.name ≡ first_number before x) rs → AllByRecursion (KeepsIfUnassigned assigned v) rs → AllByRecursion (IsKnown widths v) rs
    → Env widths v sc es (λ n. 0) → Env widths v (scope_of rs ++ sc) (map (register_entry assigned) rs ++ es) (register_number before rs)
env_registers widths v before assigned [] sc es a k b env n u f = env n u f
env_registers widths v before assigned (x ∷ rs) sc es a keeps b env n u f =
    elim (cases_Bool (bytes_eq x.name n)) [
      | inl t ↦
          let q : Some x.width ≡ Some u = rw t at f in
          let k : x.width ≡ u = cc in
          rw t (record {
            shows = record {
              value = either_value v x (is_among x.name assigned) keeps.0 ∙ a.0;
              wide = either_wide widths x (is_among x.name assigned) b.0.0 ∙ k;
              width = k;
            };
            below =
                subst (λ (w : ℕ). first_number before x < 2 ^ w) k (subst (λ (y : ℕ). y < 2 ^ x.width) a.0 b.0.1);
          })
      | inr d ↦ rw d (env_registers widths v before assigned rs sc es a.1 keeps.1 b.1 env n u (rw d at f))
    ]

env_inputs : (s : Source) (widths : Name → ℕ) (v : Valuation) (before : Option Valuation) (is : List Var) (xs : List ℕ) (sc : Scope)
    (es : List (Name × Part)) → InputsAre v (map input_of is) xs → AllByRecursion (IsKnown widths v) is
    → Env widths v sc es (register_number before s.registers) → Env widths v (scope_of is ++ sc) (map named_entry is ++ es) (number_at_start s before is xs)
env_inputs s widths v before [] xs sc es a b env n u f = env n u f
env_inputs s widths v before (i ∷ is) [] sc es a b env n u f = absurd a
env_inputs s widths v before (i ∷ is) (x ∷ xs) sc es a b env n u f =
    elim (cases_Bool (bytes_eq i.name n)) [
      | inl t ↦
          let q : Some i.width ≡ Some u = rw t at f in
          let k : i.width ≡ u = cc in
          rw t (record { shows = record { value = a.0; wide = b.0.0 ∙ k; width = k }; below = subst (λ (w : ℕ). x < 2 ^ w) k (subst (λ (y : ℕ). y < 2 ^ i.width) a.0 b.0.1) })
      | inr d ↦ rw d (env_inputs s widths v before is xs sc es a.1 b.1 env n u (rw d at f))
    ]

pub env_first : (s : Source) (widths : Name → ℕ) (v : Valuation) (before : Option Valuation) (xs : List ℕ)
    → InputsAre v (map input_of s.inputs) xs → AllByRecursion (IsKnown widths v) s.inputs
    → AllByRecursion (λ x. v.value x.name ≡ first_number before x) s.registers → AllByRecursion (KeepsIfUnassigned (targets s.commands) v) s.registers
    → AllByRecursion (IsKnown widths v) s.registers
    → Env widths v (scope_of s.inputs ++ scope_of s.registers ++ scope_of s.wires) (first_entries s) (number_at_start s before s.inputs xs)
env_first s widths v before xs given inputs starts keeps registers =
    let zeros = env_zero widths v s.wires in
    let rs = env_registers widths v before (targets s.commands) s.registers (scope_of s.wires) (map zero_entry s.wires) starts keeps registers zeros in
    let all = env_inputs s widths v before s.inputs xs (scope_of s.registers ++ scope_of s.wires)
    (map (register_entry (targets s.commands)) s.registers ++ map zero_entry s.wires) given inputs rs in
    subst (λ (es : List (Name × Part)). Env widths v (scope_of s.inputs ++ scope_of s.registers ++ scope_of s.wires) es (number_at_start s before s.inputs xs))
    (sym (append_assoc (map named_entry s.inputs) (map (register_entry (targets s.commands)) s.registers) (map zero_entry s.wires)))
    (subst (λ (sc : Scope). Env widths v sc (map named_entry s.inputs ++ (map (register_entry (targets s.commands)) s.registers ++ map zero_entry s.wires))
    (number_at_start s before s.inputs xs))
    (sym (append_assoc (scope_of s.inputs) (scope_of s.registers) (scope_of s.wires))) all)

-- memories

abbrev pub shapes_list : List MemoryVariable → Shapes
shapes_list ms = map (λ m. (m.name, (m.width, m.depth))) ms

pub cells_first : (v : Valuation) (before : Option Valuation) (ms : List MemoryVariable)
    → AllByRecursion (λ m. (i : ℕ) → v.cell m.name i ≡ first_cell before m i) ms → (n : Name) (e : ℕ × ℕ) → find (shapes_list ms) n ≡ Some e
    → (i : ℕ) → v.cell n i ≡ cell_at_start before ms n i
cells_first v before [] a n e f i = absurd (cc)
cells_first v before (m ∷ ms) a n e f i =
    elim (cases_Bool (bytes_eq m.name n)) [
      | inl t ↦ rw t (subst (λ (y : Name). v.cell y i ≡ first_cell before m i) (equal_of_bytes_eq m.name n t) (a.0 i))
      | inr d ↦ rw d (cells_first v before ms a.1 n e (rw d at f) i)
    ]

-- the port of a memory that wasn't written
abbrev pub port_at_first : (shape : ℕ × ℕ) → WritePort
port_at_first e = record { width = e.0; bits = index_bits e.1; enable = Constant 1 0; index = Constant (index_bits e.1) 0; value = Constant e.0 0 }

pub first_port_found : (ms : List MemoryVariable) (n : Name) (e : ℕ × ℕ) → find (shapes_list ms) n ≡ Some e → find (map first_port ms) n ≡ Some (port_at_first e)
first_port_found [] n e f = absurd (cc)
first_port_found (m ∷ ms) n e f =
    elim (cases_Bool (bytes_eq m.name n)) [
      | inl t ↦
          let q : Some (m.width, m.depth) ≡ Some e = rw t at f in
          let k : (m.width, m.depth) ≡ e = cc in
          rw t (ap (λ (d : ℕ × ℕ). Some (port_at_first d)) k)
      | inr d ↦ rw d (first_port_found ms n e (rw d at f))
    ]

pub bits_of_depth : (k d b : ℕ) → b ≤ k → 1 ≤ b → d ≡ 2 ^ b → bits_within k d ≡ b
bits_of_depth zero d b l p e = absurd (omega (arith, l, p))
bits_of_depth (suc k) d b l p e =
    elim (cases_Bool (d == 2 ^ suc k)) [
      | inl t ↦ rw t (same_power (suc k) b (sym ((Decides-eqb d (2 ^ suc k)).0 t) ∙ e))
      | inr f ↦
          rw f (bits_of_depth k d b (elim (cases_Bool (b == suc k)) [
            | inl q ↦
                absurd (let r : b ≡ suc k = (Decides-eqb b (suc k)).0 q in
                let g : (d == 2 ^ suc k) ≡ true = (Decides-eqb d (2 ^ suc k)).1 (e ∙ ap (λ (n : ℕ). 2 ^ n) r) in cc)
            | inr q ↦ below_unequal b k l q
          ]) p e)
    ]
