-- Names on lists with gates among them.
use Rattle.sap_lemmas.proofs.Common.{◌≡◌, ℕ, zero, suc, ◌+◌, ◌<◌, ◌≤◌, ◌^◌, ◌==◌, List, [], ◌∷◌, ◌++◌, map, Some, None, true, false, sym, ◌∙◌, subst, refl, arith, inl, inr, bytes_eq, AllByRecursion, cases_Bool, ne_eqb, all_append, above_unequal, equal_of_test, bytes_eq_apart_back, bytes_eq_same, equal_of_bytes_eq}
use Rattle.sap_net.proofs.NamesLemmas.{among_behind, among_neither, distinct_both, not_found}
use Rattle.sap_maps.proofs.ScopeLemmas.{found_second}
use Rattle.sap_maps.specs.Prelude.{Name, Scope, find}
use Rattle.sap_net.specs.Names.{is_name, is_among, AreDistinct}
use Rattle.sap_ir.specs.Prelude.{Source, readable, variable_names, memory_names, declared, is_helping, IsPlainVar}
use Rattle.sap_ir.specs.declared.guarded.Var.{Var}
use Rattle.sap_ir.proofs.Declared.{not_front, not_behind_list}
use Rattle.sap_flat.specs.Gates.{gate_name, gate_wires}
use Rattle.sap_flat.specs.Same.{IsGate}
use Rattle.sap_flat.proofs.GateNames.{gate_is_gate, gate_is_name, gate_is_not_helping, gate_differs}

-- more names before the last ones
pub all_with : {X : Type 0} (P : X → Type 0) (xs gs zs : List X) → AllByRecursion P (xs ++ zs) → AllByRecursion P gs → AllByRecursion P (xs ++ (gs ++ zs))
all_with P [] gs zs a b = all_append P gs zs b a
all_with P (x ∷ xs) gs zs a b = (a.0, all_with P xs gs zs a.1 b)

pub distinct_with : (xs gs zs : List Name) → AreDistinct (xs ++ zs) → AreDistinct gs
    → ((n : Name) → is_among n gs ≡ true → is_among n (xs ++ zs) ≡ false) → AreDistinct (xs ++ (gs ++ zs))
distinct_with [] gs zs a b k = distinct_both gs zs b a k
distinct_with (x ∷ xs) gs zs a b k =
    let new : is_among x gs ≡ false =
    elim (cases_Bool (is_among x gs)) [
      | inl t ↦ absurd (let e : is_among x (x ∷ (xs ++ zs)) ≡ false = k x t in let q : is_among x (x ∷ (xs ++ zs)) ≡ true = rw (bytes_eq_same x) refl in cc)
      | inr f ↦ f
    ] in (
      among_neither x xs (gs ++ zs) (not_front x xs zs a.0) (among_neither x gs zs new (not_behind_list x xs zs a.0)),
      distinct_with xs gs zs a.1 b (λ n h. not_behind_list n (x ∷ []) (xs ++ zs) (k n h)),
    )

-- the names of the gates

gate_among : (n : Name) (k count : ℕ) → is_among n (variable_names (gate_wires k count)) ≡ true → (i : ℕ) × (k ≤ i) × (n ≡ gate_name i)
gate_among n k zero h = absurd (cc)
gate_among n k (suc c) h =
    elim (cases_Bool (bytes_eq n (gate_name k))) [
      | inl t ↦ (k, omega arith, equal_of_bytes_eq n (gate_name k) t)
      | inr f ↦ let r = gate_among n (k + 1) c (rw f at h) in (r.0, omega (arith, r.1), r.2)
    ]

pub gates_distinct : (k count : ℕ) → AreDistinct (variable_names (gate_wires k count))
gates_distinct k zero = tt
gates_distinct k (suc c) = (
  elim (cases_Bool (is_among (gate_name k) (variable_names (gate_wires (k + 1) c)))) [
    | inl t ↦ absurd (let r = gate_among (gate_name k) (k + 1) c t in
        let d = gate_differs k r.0 (ne_eqb k r.0 (λ e. omega (arith, e, r.1))) in let s : bytes_eq (gate_name k) (gate_name r.0) ≡ true =
        subst (λ (m : Name). bytes_eq (gate_name k) m ≡ true) r.2 (bytes_eq_same (gate_name k)) in cc)
    | inr f ↦ f
  ],
  gates_distinct (k + 1) c,
)

pub gates_apart : (ns : List Name) → ((k : ℕ) → is_among (gate_name k) ns ≡ false) → (k count : ℕ) (n : Name)
    → is_among n (variable_names (gate_wires k count)) ≡ true → is_among n ns ≡ false
gates_apart ns new k count n h =
    let r = gate_among n k count h in subst (λ (m : Name). is_among m ns ≡ false) (sym r.2) (new r.0)

pub gates_named : (k count : ℕ) → k + count ≤ 2 ^ 64 → AllByRecursion (λ n. is_name n ≡ true) (variable_names (gate_wires k count))
gates_named k zero l = tt
gates_named k (suc c) l = (gate_is_name k (omega (arith, l)), gates_named (k + 1) c (omega (arith, l)))

pub gates_not_helping : (k count : ℕ) → k + count ≤ 2 ^ 64 → AllByRecursion (λ n. is_helping n ≡ false) (variable_names (gate_wires k count))
gates_not_helping k zero l = tt
gates_not_helping k (suc c) l = (gate_is_not_helping k (omega (arith, l)), gates_not_helping (k + 1) c (omega (arith, l)))

pub gates_plain : (k count : ℕ) → AllByRecursion IsPlainVar (gate_wires k count)
gates_plain k zero = tt
gates_plain k (suc c) = (((omega arith, omega arith), refl), gates_plain (k + 1) c)

pub gates_are : (k count : ℕ) → k + count ≤ 2 ^ 64 → AllByRecursion IsGate (gate_wires k count)
gates_are k zero l = tt
gates_are k (suc c) l = ((gate_is_gate k (omega (arith, l)), refl), gates_are (k + 1) c (omega (arith, l)))

pub gate_found : (k count i : ℕ) → k ≤ i → i < k + count → find (map (λ x. (x.name, x.width)) (gate_wires k count)) (gate_name i) ≡ Some 1
gate_found k zero i l m = absurd (omega (arith, l, m))
gate_found k (suc c) i l m =
    elim (cases_Bool (k == i)) [
      | inl t ↦ let e : k ≡ i = equal_of_test k i t in rw (subst (λ (j : ℕ). bytes_eq (gate_name k) (gate_name j) ≡ true) e (bytes_eq_same (gate_name k))) refl
      | inr f ↦ rw (gate_differs k i f) (gate_found (k + 1) c i (above_unequal k i l f) (omega (arith, m)))
    ]

-- a name that isn't declared is not found

pub not_declared : (s : Source) (n : Name) → is_among n (declared s) ≡ false → find (readable s) n ≡ None
not_declared s n h =
    let is = variable_names s.inputs in
    let rs = variable_names s.registers in
    let ws = variable_names s.wires in
    let ms = memory_names s.memories in
    let a = not_front n is (rs ++ (ws ++ ms)) h in
    let h1 = not_behind_list n is (rs ++ (ws ++ ms)) h in
    let b = not_front n rs (ws ++ ms) h1 in
    let c = not_front n ws ms (not_behind_list n rs (ws ++ ms) h1) in
    let inputs = map (λ x. (x.name, x.width)) s.inputs in
    let registers = map (λ x. (x.name, x.width)) s.registers in
    found_second (inputs ++ registers) (map (λ x. (x.name, x.width)) s.wires) n
    (found_second inputs registers n (not_found (λ (x : Var). x.name) (λ x. x.width) s.inputs n a) ∙ not_found (λ (x : Var). x.name) (λ x. x.width) s.registers n b)
    ∙ not_found (λ (x : Var). x.name) (λ x. x.width) s.wires n c

-- a declared one is

found_some : (xs : List Var) (n : Name) → is_among n (variable_names xs) ≡ true → (u : ℕ) × (find (map (λ x. (x.name, x.width)) xs) n ≡ Some u)
found_some [] n h = absurd (cc)
found_some (x ∷ xs) n h =
    elim (cases_Bool (bytes_eq x.name n)) [
      | inl t ↦ (x.width, rw t refl)
      | inr f ↦ let r = found_some xs n (rw (bytes_eq_apart_back x.name n f) at h) in (r.0, rw f r.1)
    ]

some_front : (es fs : Scope) (n : Name) (u : ℕ) → find es n ≡ Some u → (w : ℕ) × (find (es ++ fs) n ≡ Some w)
some_front [] fs n u h = absurd (cc)
some_front (e ∷ es) fs n u h =
    elim (cases_Bool (bytes_eq e.0 n)) [
      | inl t ↦ (e.1, rw t refl)
      | inr f ↦ let r = some_front es fs n u (rw f at h) in (r.0, rw f r.1)
    ]

some_behind : (es fs : Scope) (n : Name) (u : ℕ) → find fs n ≡ Some u → (w : ℕ) × (find (es ++ fs) n ≡ Some w)
some_behind [] fs n u h = (u, h)
some_behind (e ∷ es) fs n u h =
    elim (cases_Bool (bytes_eq e.0 n)) [
      | inl t ↦ (e.1, rw t refl)
      | inr f ↦ let r = some_behind es fs n u h in (r.0, rw f r.1)
    ]

pub register_found : (s : Source) (n : Name) → is_among n (variable_names s.registers) ≡ true → (u : ℕ) × (find (readable s) n ≡ Some u)
register_found s n h =
    let inputs = map (λ x. (x.name, x.width)) s.inputs in
    let registers = map (λ x. (x.name, x.width)) s.registers in
    let wires = map (λ x. (x.name, x.width)) s.wires in
    let a = found_some s.registers n h in
    let b = some_behind inputs registers n a.0 a.1 in
    some_front (inputs ++ registers) wires n b.0 b.1

pub wire_found : (s : Source) (n : Name) → is_among n (variable_names s.wires) ≡ true → (u : ℕ) × (find (readable s) n ≡ Some u)
wire_found s n h =
    let inputs = map (λ x. (x.name, x.width)) s.inputs in
    let registers = map (λ x. (x.name, x.width)) s.registers in
    let wires = map (λ x. (x.name, x.width)) s.wires in
    let a = found_some s.wires n h in
    some_behind (inputs ++ registers) wires n a.0 a.1

-- what holds of each name on a list
pub each_name : (xs : List Var) (P : Name → Type 0) → ((n : Name) → is_among n (variable_names xs) ≡ true → P n) → AllByRecursion (λ x. P x.name) xs
each_name [] P k = tt
each_name (x ∷ xs) P k = (
  k x.name (rw (bytes_eq_same x.name) refl),
  each_name xs P (λ n h. k n (among_behind n (x.name ∷ []) (variable_names xs) h)),
)
