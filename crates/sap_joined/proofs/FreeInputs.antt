-- The inputs of netlists that stand for designs, and which of them are free.
use Rattle.sap_lemmas.proofs.Common.{◌≡◌, ℕ, ◌+◌, true, false, List, [], ◌∷◌, ◌++◌, map, filter, Some, None, if◌then◌else◌, refl, sym, ◌∙◌, ap, ap₂, inl, inr, append-nil, AllByRecursion, bytes_eq, cases_Bool, neither_left, neither_right}
use Rattle.sap_maps.specs.Prelude.{Name, Scope, find}
use Rattle.sap_maps.proofs.Scopes.{found_here}
use Rattle.sap_meaning.specs.Program.{Entity, is_input, is_register, width}
use Rattle.sap_net.specs.declared.parts.PortKind.TheVariants as kind
use Rattle.sap_net.specs.Prelude.{is_among, Net, Shapes, AreValues, IsNetlist, shapes, is_input as is_input_port, value_name, tag_name}
use Rattle.sap_net.specs.declared.parts.Port.{Port}
use Rattle.sap_net.specs.declared.parts.Input.{Input}
use Rattle.sap_net.specs.declared.parts.Register.{Register}
use Rattle.sap_net.proofs.NamesLemmas.{found_of}
use Rattle.sap_interface.specs.Prelude.{Named, name, world, Shown, pairs_of, ports_of, HasInterface}
use Rattle.sap_joined.proofs.Sorting.{port, ports, behind, tested, pairs_all, pairs_none, sites_none, declared_ports}

abbrev scope : List Input → Scope
scope is = map (λ (i : Input). (i.name, i.width)) is

-- ---- inputs by their names

none_front : (es fs : Scope) (x : Name) → find (es ++ fs) x ≡ None → find es x ≡ None
none_front [] fs x h = refl
none_front (e ∷ es) fs x h =
    elim (cases_Bool (bytes_eq e.0 x)) [ inl t ↦ absurd (let g : Some e.1 ≡ None = rw t at h in cc) | inr q ↦ rw q (none_front es fs x (rw q at h)) ]

values_front : (ms : Shapes) (es fs : Scope) → AreValues ms (es ++ fs) → AreValues ms es
values_front ms [] fs v = tt
values_front ms (e ∷ es) fs v = (v.0, none_front es fs e.0 v.1, v.2, values_front ms es fs v.3)

not_among : (is : List Input) (x : Name) → find (scope is) x ≡ None → is_among x (map (λ (i : Input). i.name) is) ≡ false
not_among is x none =
    elim (cases_Bool (is_among x (map (λ (i : Input). i.name) is))) [
      | inl t ↦ absurd (let r = found_of (λ (i : Input). i.name) (λ (i : Input). i.width) is x t in let g = r.1 in cc)
      | inr q ↦ q
    ]

found_later : (i : Input) (is js : List Input) → is_among i.name (map (λ (j : Input). j.name) js) ≡ false → AllByRecursion (λ j. find (scope (i ∷ is)) j.name ≡ Some j.width) js
    → AllByRecursion (λ j. find (scope is) j.name ≡ Some j.width) js
found_later i is [] none f = tt
found_later i is (j ∷ js) none f =
    let unlike : bytes_eq i.name j.name ≡ false = neither_left (bytes_eq i.name j.name) (is_among i.name (map (λ (j : Input). j.name) js)) none in
    let later = neither_right (bytes_eq i.name j.name) (is_among i.name (map (λ (j : Input). j.name) js)) none in
    (rw unlike at f.0, found_later i is js later f.1)

same_inputs : (ms : Shapes) (is js : List Input) → AreValues ms (scope is) → map (λ (i : Input). i.name) is ≡ map (λ (i : Input). i.name) js
    → AllByRecursion (λ j. find (scope is) j.name ≡ Some j.width) js → is ≡ js
same_inputs ms [] [] v e f = refl
same_inputs ms [] (j ∷ js) v e f = absurd (cc)
same_inputs ms (i ∷ is) [] v e f = absurd (cc)
same_inputs ms (i ∷ is) (j ∷ js) v e f =
    let head : i.name ≡ j.name = cc in
    let tail : map (λ (i : Input). i.name) is ≡ map (λ (i : Input). i.name) js = cc in
    let widths : Some i.width ≡ Some j.width = sym (found_here i.name i.width (scope is)) ∙ ap (find (scope (i ∷ is))) head ∙ f.0 in
    let wide : i.width ≡ j.width = cc in
    let one : i ≡ j = ap₂ {A = Name} {B = ℕ} {C = Input} (λ n w. record { name = n; width = w }) head wide in
    let none : is_among i.name (map (λ (j : Input). j.name) js) ≡ false = ap (is_among i.name) (sym tail) ∙ not_among is i.name v.1 in
    ap₂ (λ (k : Input) (ks : List Input). k ∷ ks) one (same_inputs ms is js v.3 tail (found_later i is js none f.1))

-- ---- the inputs of a netlist with a design's interface

module _ (d : Named) (u : ℕ) where
  abbrev pub inputs_by : (x : ℕ) → List Entity → List Input
  inputs_by x [] = []
  inputs_by x (e ∷ es) =
      (if is_input (world d) x then record { name = value_name (name d x); width = width (world d) x } ∷ record {
        name =
            tag_name (name d x);
        width = u;
      } ∷ [] else []) ++ inputs_by (x + 1) es

  names_by : (x : ℕ) (es : List Entity) → map (λ (p : Port). p.name) (ports (λ z. z) (pairs_of (is_input (world d)) kind.Input d x es))
      ≡ map (λ (i : Input). i.name) (inputs_by x es)
  names_by x [] = refl
  names_by x (e ∷ es) =
      elim (cases_Bool (is_input (world d) x)) [
        | inl t ↦ rw t (ap (λ (ns : List Name). value_name (name d x) ∷ (tag_name (name d x) ∷ ns)) (names_by (x + 1) es))
        | inr q ↦ rw q (names_by (x + 1) es)
      ]

  module _ (sc : Scope) (found : (x : ℕ) → is_input (world d) x ≡ true → (find sc (value_name (name d x)) ≡ Some (width (world d) x))
      × (find sc (tag_name (name d x)) ≡ Some u)) where
    found_by : (x : ℕ) (es : List Entity) → AllByRecursion (λ j. find sc j.name ≡ Some j.width) (inputs_by x es)
    found_by x [] = tt
    found_by x (e ∷ es) =
        elim (cases_Bool (is_input (world d) x)) [
          | inl t ↦ rw t ((found x t).0, ((found x t).1, found_by (x + 1) es))
          | inr q ↦ rw q (found_by (x + 1) es)
        ]

  same_behind : (xs : List Shown) → xs ≡ behind (λ z. z) xs
  same_behind [] = refl
  same_behind (x ∷ xs) = ap (λ (ys : List Shown). x ∷ ys) (same_behind xs)

  pub inputs_are : (sites : ℕ) (n : Net) → IsNetlist n → HasInterface d u sites n → n.inputs ≡ inputs_by 0 (world d).entities
  inputs_are sites n rules interface =
      let test = λ (p : Port). is_input_port p.kind in
      let own = pairs_of (is_input (world d)) kind.Input d 0 (world d).entities in
      let there : n.ports ≡ ports (λ z. z) (ports_of d sites) = declared_ports d sites n.ports interface.declares.ports ∙ ap (map port) (same_behind (ports_of d sites)) in
      let kept : filter test n.ports ≡ ports (λ z. z) own =
      ap (filter test) there
      ∙ tested test (λ z. z) d sites (ports (λ z. z) own) [] []
      (pairs_all test (λ z. z) kind.Input d (is_input (world d)) (λ z. refl) (world d).entities)
      (pairs_none test (λ z. z) kind.Register d (is_register (world d)) (λ z. refl) (world d).entities)
      (sites_none test (λ z. z) (λ z. refl) 1 sites)
      ∙ append-nil _ ∙ append-nil _ in
      let names : map (λ (i : Input). i.name) n.inputs ≡ map (λ (i : Input). i.name) (inputs_by 0 (world d).entities) =
      sym rules.inputs_are_ports ∙ ap (map (λ (p : Port). p.name)) kept ∙ names_by 0 (world d).entities in
      same_inputs (shapes n) n.inputs (inputs_by 0 (world d).entities)
      (values_front (shapes n) (scope n.inputs) (map (λ (r : Register). (r.name, r.width)) n.registers) rules.values) names
      (found_by (scope n.inputs) interface.declares.inputs 0 (world d).entities)
