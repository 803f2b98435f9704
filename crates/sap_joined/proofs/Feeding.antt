-- The wires that feed by names, and which inputs they feed.
use Rattle.sap_lemmas.proofs.Common.{◌≡◌, ℕ, zero, suc, ◌+◌, ◌<◌, Bool, true, false, List, [], ◌∷◌, ◌++◌, map, get_or, length, Option, Some, None, refl, sym, ◌∙◌, ap, ap₂, subst, inl, inr, arith, not, option_map, bytes_eq, and_from, and_parts, cases_Bool, or_cases, or_right, equal_of_bytes_eq}
use Rattle.sap_maps.specs.Maps.{Name}
use Rattle.sap_lattice.specs.Codes.{code_of, width_of}
use Rattle.sap_meaning.specs.Program.{Entity, nothing, kind_is_input, is_input}
use Rattle.sap_net.specs.Prelude.{is_among, AreDistinct, Net, names_of, input_names, value_name, tag_name}
use Rattle.sap_net.specs.declared.parts.PortKind.{PortKind}
use Rattle.sap_net.specs.declared.parts.Wire.{Wire}
use Rattle.sap_net.specs.declared.parts.Register.{Register}
use Rattle.sap_net.specs.declared.parts.Memory.{Memory}
use Rattle.sap_net.specs.declared.parts.PortKind.TheVariants as kind
use Rattle.sap_net.proofs.NamesLemmas.{among_behind, among_front, among_here}
use Rattle.sap_interface.specs.Prelude.{Named, name, world, Shown, pairs_of}
use Rattle.sap_build.specs.Copies.{copy_wire, copy_register, copy_memory}
use Rattle.sap_link.specs.Systems.{Endpoint, endpoint, same_endpoint}
use Rattle.sap_link.specs.Systems.{Wire as SystemWire, is_fed as is_fed_end}
use Rattle.sap_linked.specs.Prelude.{Part, NamedSystem, no_part, part_at, in_part, value_at, tag_at, ports_in, is_free, input_ports, InputsInOrder, joined_at, below_at, feeds_through, feeds, copies_of, linked_net, inner_names}
use Rattle.sap_joined.specs.Joined.{feeds_by, feed_wires, fed_names, is_fed}
use Rattle.sap_joined.specs.Systems.{feed_of, feeds_of}
use Rattle.sap_joined.proofs.Sorting.{map_both}

same_ends : (d e : Endpoint) → same_endpoint d e ≡ true → d ≡ e
same_ends d e same = grind (arith, same)

input_low : (es : List Entity) (x : ℕ) → kind_is_input (get_or es x nothing).kind ≡ true → x < length es
input_low [] zero is = cc
input_low [] (suc x) is = cc
input_low (e ∷ es) zero is = omega arith
input_low (e ∷ es) (suc x) is = let l = input_low es x is in omega (arith, l)

-- what stands in both parts of a list stands there twice
not_twice : (z : Name) (xs ys : List Name) → AreDistinct (xs ++ ys) → is_among z xs ≡ true → is_among z ys ≡ true → ⊥
not_twice z [] ys d h k = cc
not_twice z (x ∷ xs) ys d h k =
    elim (or_cases (bytes_eq z x) (is_among z xs) h) [
      | inl t ↦
          let e : z ≡ x = equal_of_bytes_eq z x t in
          let there : is_among x (xs ++ ys) ≡ true = subst (λ (y : Name). is_among y (xs ++ ys) ≡ true) e (among_behind z xs ys k) in
          let not_there = d.0 in
          cc
      | inr r ↦ not_twice z xs ys d.1 r k
    ]

module _ (s : NamedSystem) where
  -- ---- the wires

  one_feed : (w : SystemWire) (l : Option ℕ) → feeds_through s w l ≡ feeds_by (width_of s.order) (feed_of s w) (option_map (code_of s.order) l)
  one_feed w None = refl
  one_feed w (Some l) = refl

  pub same_feeds : (ws : List SystemWire) → feeds s ws ≡ feed_wires (width_of s.order) (map (feed_of s) ws)
  same_feeds [] = refl
  same_feeds (w ∷ ws) = ap₂ (λ (xs ys : List Wire). xs ++ ys) (one_feed w w.level) (same_feeds ws)

  -- ---- the names that they have

  abbrev names_to : List SystemWire → List Name
  names_to ws = fed_names (map (feed_of s) ws)

  abbrev HasBoth : List Name → Endpoint → Type 0
  HasBoth ns e = (is_among (value_at s e) ns ≡ true) × (is_among (tag_at s e) ns ≡ true)

  fed_among : (ws : List SystemWire) (e : Endpoint) → is_fed_end ws e ≡ true → HasBoth (names_to ws) e
  fed_among [] e is = absurd (cc)
  fed_among (w ∷ ws) e is =
      elim (cases_Bool (same_endpoint w.to e)) [
        | inl t ↦
            subst (HasBoth (names_to (w ∷ ws))) (same_ends w.to e t) (
              among_here (value_at s w.to) (tag_at s w.to ∷ names_to ws),
              among_behind (tag_at s w.to) (value_at s w.to ∷ []) (tag_at s w.to ∷ names_to ws) (among_here (tag_at s w.to) (names_to ws)),
            )
        | inr q ↦
            let r = fed_among ws e (rw q at is) in (
              among_behind (value_at s e) (value_at s w.to ∷ tag_at s w.to ∷ []) (names_to ws) r.0,
              among_behind (tag_at s e) (value_at s w.to ∷ tag_at s w.to ∷ []) (names_to ws) r.1,
            )
      ]

  pair_first : (z v t : Name) (ns ms : List Name) → (is_among z ns ≡ true → is_among z ms ≡ true) → is_among z (v ∷ (t ∷ ns)) ≡ true → is_among z (v ∷ (t ∷ ms)) ≡ true
  pair_first z v t ns ms more h =
      elim (or_cases (bytes_eq z v) (is_among z (t ∷ ns)) h) [
        | inl a ↦ rw a refl
        | inr r ↦ or_right (bytes_eq z v) (is_among z (t ∷ ms)) (elim (or_cases (bytes_eq z t) (is_among z ns) r) [
          | inl b ↦ rw b refl
          | inr k ↦ or_right (bytes_eq z t) (is_among z ms) (more k)
        ])
      ]

  one_more : (z : Name) (w : SystemWire) (l : Option ℕ) (ns : List Name) (rest : List Wire) → (is_among z ns ≡ true → is_among z (names_of rest) ≡ true)
      → is_among z (value_at s w.to ∷ (tag_at s w.to ∷ ns)) ≡ true → is_among z (names_of (feeds_through s w l ++ rest)) ≡ true
  one_more z w None ns rest more h = pair_first z (value_at s w.to) (tag_at s w.to) ns (names_of rest) more h
  one_more z w (Some l) ns rest more h =
      among_behind z (joined_at s w.to ∷ below_at s w.to ∷ []) (value_at s w.to ∷ (tag_at s w.to ∷ names_of rest))
      (pair_first z (value_at s w.to) (tag_at s w.to) ns (names_of rest) more h)

  fed_in_wires : (ws : List SystemWire) (z : Name) → is_among z (names_to ws) ≡ true → is_among z (names_of (feeds s ws)) ≡ true
  fed_in_wires [] z h = h
  fed_in_wires (w ∷ ws) z h = one_more z w w.level (names_to ws) (feeds s ws) (fed_in_wires ws z) h

  -- ---- the names of free inputs

  abbrev BothAmong : (f : Name → Name) → Named → ℕ → List Name → Type 0
  BothAmong f d x ns = (is_among (f (value_name (name d x))) ns ≡ true) × (is_among (f (tag_name (name d x))) ns ≡ true)

  module _ (d : Named) (k : PortKind) (picks : ℕ → Bool) (f : Name → Name) where
    abbrev names_of_pairs : ℕ → List Entity → List Name
    names_of_pairs n es = map (λ (x : Shown). x.0) (map {B = Shown} (λ (x : Shown). (f x.0, x.1)) (pairs_of picks k d n es))

    placed : (n j : ℕ) (es : List Entity) → j < length es → picks (n + j) ≡ true → BothAmong f d (n + j) (names_of_pairs n es)
    placed n j [] low is = absurd (omega (arith, low))
    placed n zero (e ∷ es) low is =
        let same : n ≡ n + 0 = omega arith in
        let here : picks n ≡ true = ap picks same ∙ is in
        let v = f (value_name (name d n)) in
        let t = f (tag_name (name d n)) in
        let rest = names_of_pairs (n + 1) es in
        subst (λ (m : ℕ). BothAmong f d m (names_of_pairs n (e ∷ es))) same (rw here (among_here v (t ∷ rest), among_behind t (v ∷ []) (t ∷ rest) (among_here t rest)))
    placed n (suc j) (e ∷ es) low is =
        let same : n + 1 + j ≡ n + suc j = omega arith in
        let rest = subst (λ (m : ℕ). BothAmong f d m (names_of_pairs (n + 1) es)) same (placed (n + 1) j es (omega (arith, low)) (ap picks same ∙ is)) in
        let front = f (value_name (name d n)) ∷ f (tag_name (name d n)) ∷ [] in
        let behind = names_of_pairs (n + 1) es in
        elim (cases_Bool (picks n)) [
          | inl t ↦ rw t (
            among_behind (f (value_name (name d (n + suc j)))) front behind rest.0,
            among_behind (f (tag_name (name d (n + suc j)))) front behind rest.1,
          )
          | inr q ↦ rw q rest
        ]

  abbrev free_names : ℕ → List Part → List Name
  free_names k ps = map (λ (x : Shown). x.0) (input_ports s.wires k ps)

  in_ports : (k m : ℕ) (ps : List Part) (x : ℕ) → m < length ps → is_free s.wires (get_or ps m (no_part s.order)) (k + m) x ≡ true
      → BothAmong (in_part (get_or ps m (no_part s.order)).name) (get_or ps m (no_part s.order)).design x (free_names k ps)
  in_ports k m [] x low is = absurd (omega (arith, low))
  in_ports k zero (p ∷ ps) x low is =
      let from : k + 0 ≡ k = omega arith in
      let free : is_free s.wires p k x ≡ true = subst (λ (n : ℕ). is_free s.wires p n x ≡ true) from is in
      let input : is_input (world p.design) x ≡ true = (and_parts (is_input (world p.design) x) (not (is_fed_end s.wires (endpoint k x))) free).0 in
      let zeroth : 0 + x ≡ x = omega arith in
      let free_here : is_free s.wires p k (0 + x) ≡ true = ap (is_free s.wires p k) zeroth ∙ free in
      let pairs = pairs_of (is_free s.wires p k) kind.Input p.design 0 (world p.design).entities in
      let own : BothAmong (in_part p.name) p.design x (map (λ (x : Shown). x.0) (ports_in p pairs)) =
      subst (λ (n : ℕ). BothAmong (in_part p.name) p.design n (map (λ (x : Shown). x.0) (ports_in p pairs))) zeroth
      (placed p.design kind.Input (is_free s.wires p k) (in_part p.name) 0 x (world p.design).entities (input_low (world p.design).entities x input) free_here) in
      let xs = map (λ (x : Shown). x.0) (ports_in p pairs) in
      let ys = free_names (suc k) ps in
      subst (BothAmong (in_part p.name) p.design x) (sym (map_both (λ (x : Shown). x.0) (ports_in p pairs) (input_ports s.wires (suc k) ps))) (
        among_front (in_part p.name (value_name (name p.design x))) xs ys own.0,
        among_front (in_part p.name (tag_name (name p.design x))) xs ys own.1,
      )
  in_ports k (suc m) (p ∷ ps) x low is =
      let same : k + suc m ≡ suc k + m = omega arith in
      let q = get_or ps m (no_part s.order) in
      let r = in_ports (suc k) m ps x (omega (arith, low)) (subst (λ (n : ℕ). is_free s.wires q n x ≡ true) same is) in
      let pairs = pairs_of (is_free s.wires p k) kind.Input p.design 0 (world p.design).entities in
      let xs = map (λ (x : Shown). x.0) (ports_in p pairs) in
      let ys = free_names (suc k) ps in
      subst (BothAmong (in_part q.name) q.design x) (sym (map_both (λ (x : Shown). x.0) (ports_in p pairs) (input_ports s.wires (suc k) ps))) (
        among_behind (in_part q.name (value_name (name q.design x))) xs ys r.0,
        among_behind (in_part q.name (tag_name (name q.design x))) xs ys r.1,
      )

  -- ---- so names tell which inputs are fed

  module _ (nets : ℕ → Net) (in_order : InputsInOrder) (apart : AreDistinct (input_names (linked_net s nets) ++ inner_names s nets)) where
    within : (z : Name) → is_fed (feeds_of s) z ≡ true → is_among z (inner_names s nets) ≡ true
    within z h =
        let copies = copies_of (λ i. (nets i).wires) copy_wire 0 s.parts in
        let ws = names_of (feeds s s.wires ++ copies) in
        let rs = map (λ (r : Register). r.name) (copies_of (λ i. (nets i).registers) copy_register 0 s.parts) in
        let ms = map (λ (m : Memory). m.name) (copies_of (λ i. (nets i).memories) copy_memory 0 s.parts) in
        let fed : is_among z ws ≡ true =
        subst (λ (ns : List Name). is_among z ns ≡ true) (sym (map_both (λ (w : Wire). w.name) (feeds s s.wires) copies))
        (among_front z (names_of (feeds s s.wires)) (names_of copies) (fed_in_wires s.wires z h)) in
        among_front z (ws ++ rs) ms (among_front z ws rs fed)

    not_fed : (z : Name) → is_among z (free_names 0 s.parts) ≡ true → is_fed (feeds_of s) z ≡ false
    not_fed z h =
        elim (cases_Bool (is_fed (feeds_of s) z)) [
          | inl t ↦ absurd (not_twice z (input_names (linked_net s nets)) (inner_names s nets) apart
              (subst (λ (ns : List Name). is_among z ns ≡ true) (sym (in_order s)) h) (within z t))
          | inr q ↦ q
        ]

    pub told : (i x : ℕ) → i < length s.parts → is_input (world (part_at s i).design) x ≡ true
        → (is_fed (feeds_of s) (value_at s (endpoint i x)) ≡ is_fed_end s.wires (endpoint i x))
        × (is_fed (feeds_of s) (tag_at s (endpoint i x)) ≡ is_fed_end s.wires (endpoint i x))
    told i x low is =
        elim (cases_Bool (is_fed_end s.wires (endpoint i x))) [
          | inl t ↦ let r = fed_among s.wires (endpoint i x) t in (r.0 ∙ sym t, r.1 ∙ sym t)
          | inr q ↦
              let from : 0 + i ≡ i = omega arith in
              let none : not (is_fed_end s.wires (endpoint i x)) ≡ true = rw q refl in
              let free : is_free s.wires (part_at s i) i x ≡ true = and_from (is_input (world (part_at s i).design) x) (not (is_fed_end s.wires (endpoint i x))) is none in
              let r = in_ports 0 i s.parts x low (subst (λ (n : ℕ). is_free s.wires (part_at s i) n x ≡ true) (sym from) free) in
              (not_fed (value_at s (endpoint i x)) r.0 ∙ sym q, not_fed (tag_at s (endpoint i x)) r.1 ∙ sym q)
        ]
