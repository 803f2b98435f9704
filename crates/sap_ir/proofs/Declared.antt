-- Names on lists, and what is found under them.
use Rattle.sap_lemmas.proofs.Common.{◌≡◌, ℕ, List, [], ◌∷◌, ◌++◌, ◌||◌, map, Some, None, true, false, sym, ap, ◌∙◌, subst, refl, inl, inr, append_assoc, unwrap_or, bytes_eq, cases_Bool, equal_of_bytes_eq}
use Rattle.sap_net.proofs.NamesLemmas.{among_append, among_behind, among_front, found_among, not_found}
use Rattle.sap_maps.proofs.ScopeLemmas.{found_first, found_second}
use Rattle.sap_maps.specs.Prelude.{Name, find}
use Rattle.sap_net.specs.Names.{is_among, AreDistinct}
use Rattle.sap_ir.specs.declared.guarded.Var.{Var}
use Rattle.sap_ir.specs.declared.guarded.MemoryVariable.{MemoryVariable}
use Rattle.sap_ir.specs.Source.{Source, readable, shapes, width_of}
use Rattle.sap_ir.specs.IsGuarded.{assignable, variable_names, memory_names, declared}

-- a name that is not on the whole list is in neither part
pub not_front : (n : Name) (xs ys : List Name) → is_among n (xs ++ ys) ≡ false → is_among n xs ≡ false
not_front n xs ys h =
    elim (cases_Bool (is_among n xs)) [ inl t ↦ absurd (let e = among_front n xs ys t in cc) | inr f ↦ f ]

pub not_behind_list : (n : Name) (xs ys : List Name) → is_among n (xs ++ ys) ≡ false → is_among n ys ≡ false
not_behind_list n xs ys h =
    elim (cases_Bool (is_among n ys)) [ inl t ↦ absurd (let e = among_behind n xs ys t in cc) | inr f ↦ f ]

pub distinct_front : (xs ys : List Name) → AreDistinct (xs ++ ys) → AreDistinct xs
distinct_front [] ys d = tt
distinct_front (x ∷ xs) ys d = (not_front x xs ys d.0, distinct_front xs ys d.1)

pub distinct_behind : (xs ys : List Name) → AreDistinct (xs ++ ys) → AreDistinct ys
distinct_behind [] ys d = d
distinct_behind (x ∷ xs) ys d = distinct_behind xs ys d.1

-- what stands behind does not stand in front
pub apart_lists : (xs ys : List Name) → AreDistinct (xs ++ ys) → (n : Name) → is_among n ys ≡ true → is_among n xs ≡ false
apart_lists [] ys d n h = refl
apart_lists (x ∷ xs) ys d n h =
    elim (cases_Bool (bytes_eq n x)) [
      | inl t ↦ absurd (let e : n ≡ x = equal_of_bytes_eq n x t in let g = among_behind n xs ys h in
          let k : is_among n (xs ++ ys) ≡ false = subst (λ (m : Name). is_among m (xs ++ ys) ≡ false) (sym e) d.0 in cc)
      | inr f ↦ rw f (apart_lists xs ys d.1 n h)
    ]

pub apart_lists_back : (xs ys : List Name) → AreDistinct (xs ++ ys) → (n : Name) → is_among n xs ≡ true → is_among n ys ≡ false
apart_lists_back xs ys d n h =
    elim (cases_Bool (is_among n ys)) [ inl t ↦ absurd (let e = apart_lists xs ys d n t in cc) | inr f ↦ f ]

-- names and what is found under them

-- the names of a source

pub inputs_apart : (s : Source) → AreDistinct (declared s) → (n : Name)
    → is_among n (variable_names s.registers ++ (variable_names s.wires ++ memory_names s.memories)) ≡ true → is_among n (variable_names s.inputs) ≡ false
inputs_apart s d n h = apart_lists (variable_names s.inputs) (variable_names s.registers ++ (variable_names s.wires ++ memory_names s.memories)) d n h

pub not_readable : (s : Source) → AreDistinct (declared s) → (n : Name) → is_among n (memory_names s.memories) ≡ true → find (readable s) n ≡ None
not_readable s d n h =
    let is = variable_names s.inputs in
    let rs = variable_names s.registers in
    let ws = variable_names s.wires in
    let ms = memory_names s.memories in
    let behind_wires = among_behind n ws ms h in
    let behind_registers = among_behind n rs (ws ++ ms) behind_wires in
    let a = apart_lists is (rs ++ (ws ++ ms)) d n behind_registers in
    let d1 = distinct_behind is (rs ++ (ws ++ ms)) d in
    let b = apart_lists rs (ws ++ ms) d1 n behind_wires in
    let d2 = distinct_behind rs (ws ++ ms) d1 in
    let c = apart_lists ws ms d2 n h in
    let inputs = map (λ x. (x.name, x.width)) s.inputs in
    let registers = map (λ x. (x.name, x.width)) s.registers in
    found_second (inputs ++ registers) (map (λ x. (x.name, x.width)) s.wires) n
    (found_second inputs registers n (not_found (λ (x : Var). x.name) (λ x. x.width) s.inputs n a) ∙ not_found (λ (x : Var). x.name) (λ x. x.width) s.registers n b)
    ∙ not_found (λ (x : Var). x.name) (λ x. x.width) s.wires n c

pub readable_width : (s : Source) (n : Name) (u : ℕ) → find (readable s) n ≡ Some u → width_of s n ≡ u
readable_width s n u h = ap (λ o. unwrap_or o 0) (found_first (readable s) (map (λ m. (m.name, m.width)) s.memories) n u h)

memory_width_found : (ms : List MemoryVariable) (n : Name) (e : ℕ × ℕ)
    → find {X = ℕ × ℕ} (map (λ m. (m.name, (m.width, m.depth))) ms) n ≡ Some e → find (map (λ m. (m.name, m.width)) ms) n ≡ Some e.0
memory_width_found [] n e h = absurd (cc)
memory_width_found (m ∷ ms) n e h =
    elim (cases_Bool (bytes_eq m.name n)) [
      | inl t ↦ let g : Some (m.width, m.depth) ≡ Some e = rw t at h in let k : (m.width, m.depth) ≡ e = cc in rw t (ap (λ (q : ℕ × ℕ). Some q.0) k)
      | inr f ↦ rw f (memory_width_found ms n e (rw f at h))
    ]

pub shape_width : (s : Source) → AreDistinct (declared s) → (n : Name) (e : ℕ × ℕ) → find (shapes s) n ≡ Some e → width_of s n ≡ e.0
shape_width s d n e h =
    let a = not_readable s d n (found_among (λ (m : MemoryVariable). m.name) (λ m. (m.width, m.depth)) s.memories n e h) in
    ap (λ o. unwrap_or o 0) (found_second (readable s) (map (λ m. (m.name, m.width)) s.memories) n a ∙ memory_width_found s.memories n e h)

-- what is assigned can be read
assignable_among : (s : Source) (n : Name) (u : ℕ) → find (assignable s) n ≡ Some u → is_among n (variable_names s.registers ++ variable_names s.wires) ≡ true
assignable_among s n u h =
    elim (cases_Bool (is_among n (variable_names s.registers))) [
      | inl t ↦ among_front n (variable_names s.registers) (variable_names s.wires) t
      | inr f ↦
          let g = found_second (map (λ x. (x.name, x.width)) s.registers) (map (λ x. (x.name, x.width)) s.wires) n
          (not_found (λ (x : Var). x.name) (λ x. x.width) s.registers n f) in
          among_behind n (variable_names s.registers) (variable_names s.wires) (found_among (λ (x : Var). x.name) (λ x. x.width) s.wires n u (sym g ∙ h))
    ]

pub assignable_readable : (s : Source) → AreDistinct (declared s) → (n : Name) (u : ℕ) → find (assignable s) n ≡ Some u → find (readable s) n ≡ Some u
assignable_readable s d n u h =
    let rs = variable_names s.registers in
    let ws = variable_names s.wires in
    let ms = memory_names s.memories in
    let a = assignable_among s n u h in
    let b : is_among n (rs ++ (ws ++ ms)) ≡ true =
    elim (cases_Bool (is_among n rs)) [
      | inl t ↦ among_front n rs (ws ++ ms) t
      | inr f ↦ among_behind n rs (ws ++ ms) (among_front n ws ms (let e = among_append n rs ws in let g : (is_among n rs || is_among n ws) ≡ true = sym e ∙ a in rw f at g))
    ] in
    let inputs = map (λ x. (x.name, x.width)) s.inputs in
    let registers = map (λ x. (x.name, x.width)) s.registers in
    let wires = map (λ x. (x.name, x.width)) s.wires in
    ap (λ (o : List (Name × ℕ)). find o n) (append_assoc inputs registers wires)
    ∙ found_second inputs (registers ++ wires) n (not_found (λ (x : Var). x.name) (λ x. x.width) s.inputs n (inputs_apart s d n b)) ∙ h
