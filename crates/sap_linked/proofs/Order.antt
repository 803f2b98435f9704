-- The free inputs of a system come in the order of its ports.
use Rattle.sap_lemmas.proofs.Common.{◌≡◌, ℕ, suc, ◌+◌, Bool, true, false, not, List, [], ◌∷◌, ◌++◌, map, filter, get_or, refl, sym, ◌∙◌, ap, ap₂, inl, inr, arith, cases_Bool, one_more}
use Rattle.sap_maps.specs.Maps.{Name}
use Rattle.sap_meaning.specs.Program.{Entity, nothing, kind_is_input, is_input}
use Rattle.sap_net.specs.declared.parts.PortKind.TheVariants as kind
use Rattle.sap_net.specs.PortNames.{value_name, tag_name}
use Rattle.sap_net.specs.declared.parts.Input.{Input}
use Rattle.sap_interface.specs.Prelude.{name, world, Shown, pairs_of}
use Rattle.sap_link.specs.Systems.{Endpoint, endpoint, is_fed, inputs_from, inputs_of}
use Rattle.sap_linked.specs.Prelude.{Part, NamedSystem, no_part, part_at, in_part, value_at, tag_at, inputs_for, ports_in, is_free, input_ports, InputsInOrder}

filter_both : (test : Endpoint → Bool) (es fs : List Endpoint) → filter test (es ++ fs) ≡ filter test es ++ filter test fs
filter_both test [] fs = refl
filter_both test (e ∷ es) fs =
    elim (cases_Bool (test e)) [ inl t ↦ rw t (ap (λ (gs : List Endpoint). e ∷ gs) (filter_both test es fs)) | inr q ↦ rw q (filter_both test es fs) ]

shown_both : (xs ys : List Shown) → map (λ (p : Shown). p.0) (xs ++ ys) ≡ map (λ (p : Shown). p.0) xs ++ map (λ (p : Shown). p.0) ys
shown_both [] ys = refl
shown_both (x ∷ xs) ys = ap (λ (ns : List Name). x.0 ∷ ns) (shown_both xs ys)

module _ (s : NamedSystem) where
  abbrev free : Endpoint → Bool
  free e = not (is_fed s.wires e)

  abbrev names_for : List Endpoint → List Name
  names_for es = map (λ (i : Input). i.name) (inputs_for s es)

  abbrev names_in : Part → List Shown → List Name
  names_in p shown = map (λ (port : Shown). port.0) (ports_in p shown)

  names_both : (es fs : List Endpoint) → names_for (es ++ fs) ≡ names_for es ++ names_for fs
  names_both [] fs = refl
  names_both (e ∷ es) fs = ap (λ (ns : List Name). value_at s e ∷ (tag_at s e ∷ ns)) (names_both es fs)

  of_part : (p : Part) (k : ℕ) → part_at s k ≡ p → (x : ℕ) (es : List Entity) → ((j : ℕ) → get_or (world p.design).entities (x + j) nothing ≡ get_or es j nothing)
      → names_for (filter free (map (endpoint k) (inputs_from x es))) ≡ names_in p (pairs_of (is_free s.wires p k) kind.Input p.design x es)
  of_part p k same x [] at = refl
  of_part p k same x (e ∷ es) at =
      let from : x ≡ x + 0 = omega arith in
      let this : is_input (world p.design) x ≡ kind_is_input e.kind =
      ap (λ (n : ℕ). kind_is_input (get_or (world p.design).entities n nothing).kind) from ∙ ap (λ (y : Entity). kind_is_input y.kind) (at 0) in
      let behind = λ (j : ℕ). (let next : suc x + j ≡ x + suc j = omega arith in ap (λ (n : ℕ). get_or (world p.design).entities n nothing) next ∙ at (suc j)) in
      let later =
      of_part p k same (suc x) es behind
      ∙ ap (λ (n : ℕ). names_in p (pairs_of (is_free s.wires p k) kind.Input p.design n es)) (one_more x) in
      elim (cases_Bool (kind_is_input e.kind)) [
        | inl t ↦
            let is : is_input (world p.design) x ≡ true = this ∙ t in
            elim (cases_Bool (free (endpoint k x))) [
              | inl u ↦ rw (t, is, u)
                  (ap₂ (λ (n : Name) (ns : List Name). n ∷ ns) (ap (λ (q : Part). in_part q.name (value_name (name q.design x))) same)
                  (ap₂ (λ (n : Name) (ns : List Name). n ∷ ns) (ap (λ (q : Part). in_part q.name (tag_name (name q.design x))) same) later))
              | inr v ↦ rw (t, is, v) later
            ]
        | inr q ↦ let is : is_input (world p.design) x ≡ false = this ∙ q in rw (q, is) later
      ]

  all_parts : (k : ℕ) (ps : List Part) → ((j : ℕ) → part_at s (k + j) ≡ get_or ps j (no_part s.order))
      → names_for (filter free (inputs_of k (map (λ (p : Part). p.design.program) ps))) ≡ map (λ (port : Shown). port.0) (input_ports s.wires k ps)
  all_parts k [] at = refl
  all_parts k (p ∷ ps) at =
      let from : k ≡ k + 0 = omega arith in
      let behind = λ (j : ℕ). (let next : suc k + j ≡ k + suc j = omega arith in ap (part_at s) next ∙ at (suc j)) in
      let here = map (endpoint k) (inputs_from 0 (world p.design).entities) in
      let rest = inputs_of (suc k) (map (λ (p : Part). p.design.program) ps) in
      let own = ports_in p (pairs_of (is_free s.wires p k) kind.Input p.design 0 (world p.design).entities) in
      ap names_for (filter_both free here rest)
      ∙ names_both (filter free here) (filter free rest)
      ∙ ap₂ (λ (xs ys : List Name). xs ++ ys)
      (of_part p k (ap (part_at s) from ∙ at 0) 0 (world p.design).entities (λ j. let same : 0 + j ≡ j = omega arith in
      ap (λ (n : ℕ). get_or (world p.design).entities n nothing) same))
      (all_parts (suc k) ps behind)
      ∙ sym (shown_both own (input_ports s.wires (suc k) ps))

pub inputs_in_order : InputsInOrder
inputs_in_order s = all_parts s 0 s.parts (λ j. let same : 0 + j ≡ j = omega arith in ap (part_at s) same)
