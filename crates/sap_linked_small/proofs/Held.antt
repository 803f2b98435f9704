-- What holds of all ports of the netlist of a system holds of those of each input and each check site.
use Rattle.sap_lemmas.proofs.Common.{◌≡◌, ℕ, zero, suc, ◌+◌, ◌<◌, ◌≤◌, Bool, true, not, List, [], ◌∷◌, ◌++◌, length, refl, sym, ◌∙◌, ap, subst, inl, inr, arith, AllByRecursion, and_from, cases_Bool, all_of_map, all_parts}
use Rattle.sap_maps.specs.Maps.{Name}
use Rattle.sap_meaning.specs.Program.{Entity, is_input}
use Rattle.sap_net.specs.PortNames.{value_name, tag_name, refused_name, refused_level_name}
use Rattle.sap_net.specs.declared.parts.PortKind.{PortKind}
use Rattle.sap_net.specs.declared.parts.PortKind.TheVariants as kind
use Rattle.sap_interface.specs.Prelude.{Named, name, world, Shown, pairs_of, site_ports}
use Rattle.sap_link.specs.Systems.{endpoint, is_fed}
use Rattle.sap_linked.specs.Prelude.{Part, NamedSystem, part_at, in_part, ports_in, is_free, is_fed_input, input_ports, register_ports, refusal_ports, fed_inputs, linked_ports, held_ports}
use Rattle.sap_linked.proofs.Entities.{compared, input_low}
use Rattle.sap_linked.proofs.Families.{later, this, whole_list, Suffix}
use Rattle.sap_linked.proofs.Ports.{blocks, fed_are, fed_of, free_of, inputs_are, refusals_are, sites_of}

-- ---- of one part

pairs_at : (P : Shown → Type 0) (picks : ℕ → Bool) (k : PortKind) (d : Named) (n : ℕ) (es : List Entity)
    → AllByRecursion P (pairs_of picks k d n es) → (j : ℕ) → j < length es → picks (n + j) ≡ true
    → P (value_name (name d (n + j)), k) × P (tag_name (name d (n + j)), k)
pairs_at P picks k d n [] a j low is = absurd (omega (arith, low))
pairs_at P picks k d n (e ∷ es) a zero low is =
    let same : n ≡ n + 0 = omega arith in
    let here : picks n ≡ true = ap picks same ∙ is in
    let b : AllByRecursion P ((value_name (name d n), k) ∷ ((tag_name (name d n), k) ∷ pairs_of picks k d (n + 1) es)) = rw here at a in
    subst (λ (m : ℕ). P (value_name (name d m), k) × P (tag_name (name d m), k)) same (b.0, b.1.0)
pairs_at P picks k d n (e ∷ es) a (suc j) low is =
    let same : n + 1 + j ≡ n + suc j = omega arith in
    let rest : AllByRecursion P (pairs_of picks k d (n + 1) es) =
    elim (cases_Bool (picks n)) [
      | inl t ↦ (let b : AllByRecursion P ((value_name (name d n), k) ∷ ((tag_name (name d n), k) ∷ pairs_of picks k d (n + 1) es)) = rw t at a in b.1.1)
      | inr q ↦ rw q at a
    ] in
    subst (λ (m : ℕ). P (value_name (name d m), k) × P (tag_name (name d m), k)) same (pairs_at P picks k d (n + 1) es rest j (omega (arith, low)) (ap picks same ∙ is))

sites_at : (P : Shown → Type 0) (k n : ℕ) → AllByRecursion P (site_ports k n) → (j : ℕ) → k ≤ j → j < k + n → P (refused_name j, kind.Wire) × P (refused_level_name j, kind.Wire)
sites_at P k zero a j from to = absurd (omega (arith, from, to))
sites_at P k (suc n) a j from to = elim (compared k j) [
  | inl e ↦ subst (λ (m : ℕ). P (refused_name m, kind.Wire) × P (refused_level_name m, kind.Wire)) e (a.0, a.1.0)
  | inr unlike ↦ elim unlike [
    | inl less ↦ sites_at P (k + 1) n a.1.1 j (omega (arith, less)) (omega (arith, to))
    | inr more ↦ absurd (omega (arith, from, more))
  ]
]

-- ---- of all parts

module _ (s : NamedSystem) (shown : Part → ℕ → List Shown) (P : Shown → Type 0) where
  block_at : (k : ℕ) (ps : List Part) → Suffix s k ps → AllByRecursion P (blocks shown k ps) → (i : ℕ) → k ≤ i → i < length s.parts
      → AllByRecursion (λ (port : Shown). P (in_part (part_at s i).name port.0, port.1)) (shown (part_at s i) i)
  block_at k [] at a i from low = absurd (let e = at.1 in omega (arith, e, from, low))
  block_at k (p ∷ ps) at a i from low =
      let two = all_parts P (ports_in p (shown p k)) (blocks shown (suc k) ps) a in
      elim (compared k i) [
        | inl e ↦
            subst (λ (j : ℕ). AllByRecursion (λ (port : Shown). P (in_part (part_at s j).name port.0, port.1)) (shown (part_at s j) j)) e
            (subst (λ (q : Part). AllByRecursion (λ (port : Shown). P (in_part q.name port.0, port.1)) (shown q k)) (sym (this s k p ps at))
            (all_of_map P (λ (port : Shown). (in_part p.name port.0, port.1)) (shown p k) two.0))
        | inr unlike ↦ elim unlike [
          | inl less ↦ block_at (suc k) ps (later s k p ps at) two.1 i (omega (arith, less)) low
          | inr more ↦ absurd (omega (arith, from, more))
        ]
      ]

module _ (s : NamedSystem) (P : Shown → Type 0) (all : AllByRecursion P (held_ports s)) where
  four : AllByRecursion P (linked_ports s) × AllByRecursion P (fed_inputs s.wires 0 s.parts)
  four = all_parts P (linked_ports s) (fed_inputs s.wires 0 s.parts) all

  three : AllByRecursion P (input_ports s.wires 0 s.parts ++ register_ports s.parts) × AllByRecursion P (refusal_ports s.parts)
  three = all_parts P (input_ports s.wires 0 s.parts ++ register_ports s.parts) (refusal_ports s.parts) four.0

  free : AllByRecursion P (input_ports s.wires 0 s.parts)
  free = (all_parts P (input_ports s.wires 0 s.parts) (register_ports s.parts) three.0).0

  module _ (i : ℕ) (low : i < length s.parts) where
    abbrev d : Named
    d = (part_at s i).design

    abbrev f : Name → Name
    f = in_part (part_at s i).name

    abbrev Behind : Shown → Type 0
    Behind port = P (f port.0, port.1)

    at_pair : (k : PortKind) (picks : ℕ → Bool) → AllByRecursion Behind (pairs_of picks k d 0 (world d).entities) → (x : ℕ) → is_input (world d) x ≡ true → picks x ≡ true
        → P (f (value_name (name d x)), k) × P (f (tag_name (name d x)), k)
    at_pair k picks a x is picked =
        let same : 0 + x ≡ x = omega arith in
        subst (λ (m : ℕ). P (f (value_name (name d m)), k) × P (f (tag_name (name d m)), k)) same
        (pairs_at Behind picks k d 0 (world d).entities a x (input_low (world d).entities x is) (ap picks same ∙ picked))

    pub at_free : (x : ℕ) → is_input (world d) x ≡ true → not (is_fed s.wires (endpoint i x)) ≡ true
        → P (f (value_name (name d x)), kind.Input) × P (f (tag_name (name d x)), kind.Input)
    at_free x is none =
        at_pair kind.Input (is_free s.wires (part_at s i) i)
        (block_at s (free_of s.wires) P 0 s.parts (whole_list s) (subst (λ (xs : List Shown). AllByRecursion P xs) (inputs_are s.wires 0 s.parts) free) i (omega arith) low)
        x is (and_from (is_input (world d) x) (not (is_fed s.wires (endpoint i x))) is none)

    pub at_fed : (x : ℕ) → is_input (world d) x ≡ true → is_fed s.wires (endpoint i x) ≡ true → P (f (value_name (name d x)), kind.Wire) × P (f (tag_name (name d x)), kind.Wire)
    at_fed x is fed =
        at_pair kind.Wire (is_fed_input s.wires (part_at s i) i)
        (block_at s (fed_of s.wires) P 0 s.parts (whole_list s) (subst (λ (xs : List Shown). AllByRecursion P xs) (fed_are s.wires 0 s.parts) four.1) i (omega arith) low)
        x is (and_from (is_input (world d) x) (is_fed s.wires (endpoint i x)) is fed)

    pub at_site : (j : ℕ) → 1 ≤ j → j ≤ (part_at s i).sites → P (f (refused_name j), kind.Wire) × P (f (refused_level_name j), kind.Wire)
    at_site j from to =
        sites_at Behind 1 (part_at s i).sites
        (block_at s sites_of P 0 s.parts (whole_list s) (subst (λ (xs : List Shown). AllByRecursion P xs) (refusals_are 0 s.parts) three.1) i (omega arith) low)
        j from (omega (arith, to))

-- so what holds of the names of all ports holds of those of each input
pub at_input : (s : NamedSystem) (Q : Name → Type 0) → AllByRecursion (λ (port : Shown). Q port.0) (held_ports s) → (i : ℕ) → i < length s.parts
    → (x : ℕ) → is_input (world (part_at s i).design) x ≡ true
    → Q (in_part (part_at s i).name (value_name (name (part_at s i).design x))) × Q (in_part (part_at s i).name (tag_name (name (part_at s i).design x)))
at_input s Q all i low x is = elim (cases_Bool (is_fed s.wires (endpoint i x))) [
  | inl t ↦ at_fed s (λ (port : Shown). Q port.0) all i low x is t
  | inr q ↦ at_free s (λ (port : Shown). Q port.0) all i low x is (rw q refl)
]
