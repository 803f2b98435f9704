-- The names of inputs, free and fed, in the netlist of a system.
use Rattle.sap_lemmas.proofs.Common.{◌≡◌, ◌⊎◌, ℕ, ◌+◌, ◌<◌, ◌≤◌, true, false, List, [], ◌∷◌, ◌++◌, map, length, Option, Some, None, refl, sym, ◌∙◌, ap, ap₂, subst, inl, inr, arith, AllByRecursion, byte, bytes_eq, cases_Bool, or_cases, equal_of_bytes_eq}
use Rattle.sap_maps.specs.Prelude.{Name, Scope, find}
use Rattle.sap_maps.proofs.Scopes.{not_behind, not_first}
use Rattle.sap_lattice.specs.Codes.{width_of}
use Rattle.sap_meaning.specs.Program.{is_input}
use Rattle.sap_net.specs.declared.parts.PortKind.TheVariants as kind
use Rattle.sap_net.specs.Prelude.{is_among, AreDistinct, Net, Shapes, AreValues, input_names, names_of, shapes, value_name, tag_name}
use Rattle.sap_net.specs.declared.parts.Input.{Input}
use Rattle.sap_net.specs.declared.parts.Wire.{Wire}
use Rattle.sap_net.specs.declared.parts.Register.{Register}
use Rattle.sap_net.proofs.NamesLemmas.{among_append, distinct_both, found_among}
use Rattle.sap_interface.specs.Prelude.{Named, name, world, HasInterface}
use Rattle.sap_link.specs.Systems.{Endpoint, endpoint, same_endpoint, System, feeding, FedOnce}
use Rattle.sap_link.specs.Systems.{Wire as SystemWire, world as world_at}
use Rattle.sap_linked.specs.Prelude.{NamedSystem, part_at, system_of, in_part, NamesFit, IsNetOf, names_of_inputs, feeds_through, feeds}
use Rattle.sap_linked.proofs.Entities.{compared, differ, input_low}
use Rattle.sap_linked.proofs.Families.{Behind, map_both, one_part}
use Rattle.sap_linked.proofs.Inputs.{input_names_are}
use Rattle.sap_linked.proofs.Linked.{design_at, design_is}
use Rattle.sap_linked.proofs.Own.{values_front}
use Rattle.sap_linked.proofs.PartNames.{IsFeedLetter, no_feed}

none_among : (es : Scope) (x : Name) → find es x ≡ None → is_among x (map (λ (e : Name × ℕ). e.0) es) ≡ false
none_among [] x none = refl
none_among (e ∷ es) x none = rw (not_first e es x none) (none_among es x (not_behind e es x none))

values_distinct : (ms : Shapes) (es : Scope) → AreValues ms es → AreDistinct (map (λ (e : Name × ℕ). e.0) es)
values_distinct ms [] a = tt
values_distinct ms (e ∷ es) a = (none_among es e.0 a.1, values_distinct ms es a.3)

names_twice : (is : List Input) → map (λ (e : Name × ℕ). e.0) (map {B = Name × ℕ} (λ (i : Input). (i.name, i.width)) is) ≡ map (λ (i : Input). i.name) is
names_twice [] = refl
names_twice (i ∷ is) = ap (λ (ns : List Name). i.name ∷ ns) (names_twice is)

tails : {a b : ℕ} {xs ys : Name} → a ∷ xs ≡ b ∷ ys → xs ≡ ys
tails e = cc

abbrev pub IsLetter : ℕ → Type 0
IsLetter c = ((c ≡ byte "v") ⊎ (c ≡ byte "t")) ⊎ IsFeedLetter c

module _ (s : NamedSystem) (nets : ℕ → Net) (fit : NamesFit s) (each : (i : ℕ) → i < length s.parts → IsNetOf s.order (part_at s i) (nets i)) where
  abbrev y : System
  y = system_of s

  module _ (i : ℕ) (low : i < length s.parts) where
    abbrev d : Named
    d = design_at s i

    pub interface_at : HasInterface d (width_of s.order) (part_at s i).sites (nets i)
    interface_at = subst (λ (d : Named). HasInterface d (width_of s.order) (part_at s i).sites (nets i)) (sym (design_is s i (each i low).codes)) (each i low).stands.interface

    pub inputs_distinct : AreDistinct (input_names (nets i))
    inputs_distinct =
        subst (λ (ns : List Name). AreDistinct ns) (names_twice (nets i).inputs)
        (values_distinct (shapes (nets i)) (map (λ (i : Input). (i.name, i.width)) (nets i).inputs)
        (values_front (shapes (nets i)) (map (λ (i : Input). (i.name, i.width)) (nets i).inputs)
        (map (λ (r : Register). (r.name, r.width)) (nets i).registers) (each i low).netlist.values))

    pub pairs_distinct : AreDistinct (names_of_inputs d)
    pairs_distinct = subst (λ (ns : List Name). AreDistinct ns) (input_names_are d (part_at s i).sites (nets i) (each i low).netlist interface_at.declares.ports) inputs_distinct

    apart_entities : (x z : ℕ) → is_input (world d) x ≡ true → is_input (world d) z ≡ true → name d x ≡ name d z → x < z → ⊥
    apart_entities x z is other e less =
        let first : 0 + x ≡ x = omega arith in
        let second : 0 + z ≡ z = omega arith in
        differ d kind.Input (is_input (world d)) 0 x z (world d).entities pairs_distinct less (input_low (world d).entities z other)
        (ap (is_input (world d)) first ∙ is) (ap (is_input (world d)) second ∙ other) (ap (name d) first ∙ e ∙ ap (name d) (sym second))

    name_apart : (x z : ℕ) → is_input (world d) x ≡ true → is_input (world d) z ≡ true → name d x ≡ name d z → x ≡ z
    name_apart x z is other e = elim (compared x z) [
      | inl same ↦ same
      | inr unlike ↦ elim unlike [ inl less ↦ absurd (apart_entities x z is other e less) | inr more ↦ absurd (apart_entities z x other is (sym e) more) ]
    ]

  abbrev pub end_name : ℕ → Endpoint → Name
  end_name c e = in_part (part_at s e.part).name (c ∷ (byte "_" ∷ name (part_at s e.part).design e.entity))

  -- an input of a part
  pub record IsInput (e : Endpoint) : Type 0 where
    pub low : e.part < length s.parts
    pub input : is_input (world_at y e.part) e.entity ≡ true

  -- z is a name of an input of which Q holds
  pub record IsEnd (Q : Endpoint → Type 0) (z : Name) : Type 0 where
    pub letter : ℕ
    pub end : Endpoint
    pub is : IsInput end
    pub holds : Q end
    pub known : IsLetter letter
    pub named : z ≡ end_name letter end

  long : (c : ℕ) (e : Endpoint) → 2 ≤ length (c ∷ (byte "_" ∷ name (part_at s e.part).design e.entity))
  long c e = omega arith

  pub one_end : (P Q : Endpoint → Type 0) (z : Name) (a : IsEnd P z) (b : IsEnd Q z) → a.end ≡ b.end
  one_end P Q z a b =
      let r = one_part s fit a.end.part b.end.part (a.letter ∷ (byte "_" ∷ name (part_at s a.end.part).design a.end.entity))
      (b.letter ∷ (byte "_" ∷ name (part_at s b.end.part).design b.end.entity)) a.is.low b.is.low (long a.letter a.end) (long b.letter b.end) (sym a.named ∙ b.named) in
      let names : name (part_at s a.end.part).design a.end.entity ≡ name (part_at s a.end.part).design b.end.entity =
      subst (λ (i : ℕ). name (part_at s a.end.part).design a.end.entity ≡ name (part_at s i).design b.end.entity) (sym r.0) (tails (tails r.1)) in
      let other : is_input (world_at y a.end.part) b.end.entity ≡ true = subst (λ (i : ℕ). is_input (world_at y i) b.end.entity ≡ true) (sym r.0) b.is.input in
      ap₂ endpoint r.0 (name_apart a.end.part a.is.low a.end.entity b.end.entity a.is.input other names)

  -- it is none of those names of parts that are no inputs
  pub end_apart : (Q : Endpoint → Type 0) (ns : ℕ → List Name) → ((i : ℕ) → i < length s.parts → (x : Name) → is_among x (ns i) ≡ true → is_among x (nets i).names ≡ true)
      → ((i : ℕ) → i < length s.parts → (x : Name) → is_among x (ns i) ≡ true → is_among x (input_names (nets i)) ≡ true → ⊥)
      → ((i : ℕ) → i < length s.parts → (x : Name) → is_among x (ns i) ≡ true → 2 ≤ length x)
      → (k : ℕ) (z : Name) → IsEnd Q z → Behind s ns k z → ⊥
  end_apart Q ns within others far k z a b =
      let x = a.letter ∷ (byte "_" ∷ name (part_at s a.end.part).design a.end.entity) in
      let r = one_part s fit a.end.part b.part x b.name a.is.low b.low (long a.letter a.end) (far b.part b.low b.name b.is) (sym a.named ∙ b.behind) in
      let there : is_among x (ns a.end.part) ≡ true =
      subst (λ (n : Name). is_among n (ns a.end.part) ≡ true) (sym r.1) (subst (λ (i : ℕ). is_among b.name (ns i) ≡ true) (sym r.0) b.is) in
      by_letter a.letter a.end a.is a.known there
    where
      by_letter : (c : ℕ) (e : Endpoint) → IsInput e → IsLetter c → is_among (c ∷ (byte "_" ∷ name (part_at s e.part).design e.entity)) (ns e.part) ≡ true → ⊥
      by_letter c e is (inl (inl v)) h =
          others e.part is.low (value_name (name (design_at s e.part) e.entity))
          (subst (λ (b : ℕ). is_among (b ∷ (byte "_" ∷ name (part_at s e.part).design e.entity)) (ns e.part) ≡ true) v h)
          (found_among (λ (i : Input). i.name) (λ i. i.width) (nets e.part).inputs (value_name (name (design_at s e.part) e.entity))
          _ ((interface_at e.part is.low).declares.inputs e.entity is.input).0)
      by_letter c e is (inl (inr t)) h =
          others e.part is.low (tag_name (name (design_at s e.part) e.entity))
          (subst (λ (b : ℕ). is_among (b ∷ (byte "_" ∷ name (part_at s e.part).design e.entity)) (ns e.part) ≡ true) t h)
          (found_among (λ (i : Input). i.name) (λ i. i.width) (nets e.part).inputs (tag_name (name (design_at s e.part) e.entity))
          _ ((interface_at e.part is.low).declares.inputs e.entity is.input).1)
      by_letter c e is (inr f) h =
          no_feed (design_at s e.part) (width_of s.order) (part_at s e.part).sites (nets e.part) (interface_at e.part is.low) c
          (c ∷ (byte "_" ∷ name (part_at s e.part).design e.entity))
          (within e.part is.low (c ∷ (byte "_" ∷ name (part_at s e.part).design e.entity)) h) f (byte "_" ∷ name (part_at s e.part).design e.entity, refl)

  -- ---- fed inputs

  among_two : (z a b : Name) → is_among z (a ∷ b ∷ []) ≡ true → (z ≡ a) ⊎ (z ≡ b)
  among_two z a b h = elim (or_cases (bytes_eq z a) (is_among z (b ∷ [])) h) [
    | inl t ↦ inl (equal_of_bytes_eq z a t)
    | inr r ↦ elim (or_cases (bytes_eq z b) false r) [ inl t ↦ inr (equal_of_bytes_eq z b t) | inr g ↦ absurd (cc) ]
  ]

  module _ (Q : Endpoint → Type 0) (w : SystemWire) (is : IsInput w.to) (q : Q w.to) where
    of_pair_fed : (z : Name) → is_among z (end_name (byte "v") w.to ∷ end_name (byte "t") w.to ∷ []) ≡ true → IsEnd Q z
    of_pair_fed z h = elim (among_two z (end_name (byte "v") w.to) (end_name (byte "t") w.to) h) [
      | inl e ↦ record { letter = byte "v"; end = w.to; is = is; holds = q; known = inl (inl refl); named = e }
      | inr e ↦ record { letter = byte "t"; end = w.to; is = is; holds = q; known = inl (inr refl); named = e }
    ]

    of_feed : (l : Option ℕ) (z : Name) → is_among z (names_of (feeds_through s w l)) ≡ true → IsEnd Q z
    of_feed None z h = of_pair_fed z h
    of_feed (Some l) z h =
        elim (or_cases (is_among z (end_name (byte "j") w.to ∷ end_name (byte "b") w.to ∷ [])) (is_among z (end_name (byte "v") w.to ∷ end_name (byte "t") w.to ∷ []))
        (sym (among_append z (end_name (byte "j") w.to ∷ end_name (byte "b") w.to ∷ []) (end_name (byte "v") w.to ∷ end_name (byte "t") w.to ∷ [])) ∙ h)) [
          | inl f ↦ elim (among_two z (end_name (byte "j") w.to) (end_name (byte "b") w.to) f) [
            | inl e ↦ record { letter = byte "j"; end = w.to; is = is; holds = q; known = inr (inl refl); named = e }
            | inr e ↦ record { letter = byte "b"; end = w.to; is = is; holds = q; known = inr (inr refl); named = e }
          ]
          | inr f ↦ of_pair_fed z f
        ]

  abbrev pub AllTo : (Endpoint → Type 0) → List SystemWire → Type 0
  AllTo Q ws = AllByRecursion (λ w. IsInput w.to × Q w.to) ws

  feed_names : (w : SystemWire) (ws : List SystemWire) → names_of (feeds s (w ∷ ws)) ≡ names_of (feeds_through s w w.level) ++ names_of (feeds s ws)
  feed_names w ws = map_both (λ (x : Wire). x.name) (feeds_through s w w.level) (feeds s ws)

  pub of_feeds : (Q : Endpoint → Type 0) (ws : List SystemWire) → AllTo Q ws → (z : Name) → is_among z (names_of (feeds s ws)) ≡ true → IsEnd Q z
  of_feeds Q [] a z h = absurd (cc)
  of_feeds Q (w ∷ ws) a z h =
      elim (or_cases (is_among z (names_of (feeds_through s w w.level))) (is_among z (names_of (feeds s ws)))
      (sym (among_append z (names_of (feeds_through s w w.level)) (names_of (feeds s ws))) ∙ ap (is_among z) (sym (feed_names w ws)) ∙ h)) [
        | inl f ↦ of_feed Q w a.0.0 a.0.1 w.level z f
        | inr g ↦ of_feeds Q ws a.1 z g
      ]

  same_self : (e : Endpoint) → same_endpoint e e ≡ true
  same_self e = grind arith

  elsewhere : (e : Endpoint) (ws : List SystemWire) → feeding ws e ≡ None → AllByRecursion (λ w. IsInput w.to) ws → AllTo (λ f. same_endpoint f e ≡ false) ws
  elsewhere e [] none a = tt
  elsewhere e (w ∷ ws) none a = elim (cases_Bool (same_endpoint w.to e)) [
    | inl t ↦ absurd (let g : Some w ≡ None = rw t at none in cc)
    | inr q ↦ ((a.0, q), elsewhere e ws (rw q at none) a.1)
  ]

  one_feed_distinct : (w : SystemWire) (l : Option ℕ) → AreDistinct (names_of (feeds_through s w l))
  one_feed_distinct w None = (refl, (refl, tt))
  one_feed_distinct w (Some l) = (refl, (refl, (refl, (refl, tt))))

  pub feeds_distinct : (ws : List SystemWire) → FedOnce ws → AllByRecursion (λ w. IsInput w.to) ws → AreDistinct (names_of (feeds s ws))
  feeds_distinct [] once a = tt
  feeds_distinct (w ∷ ws) once a =
      subst (λ (ns : List Name). AreDistinct ns) (sym (feed_names w ws))
      (distinct_both (names_of (feeds_through s w w.level)) (names_of (feeds s ws)) (one_feed_distinct w w.level) (feeds_distinct ws once.1 a.1)
      (λ z h. elim (cases_Bool (is_among z (names_of (feeds s ws)))) [
        | inl t ↦ absurd (
            let here = of_feed (λ e. e ≡ w.to) w a.0 refl w.level z h in
            let there = of_feeds (λ f. same_endpoint f w.to ≡ false) ws (elsewhere w.to ws once.0 a.1) z t in
            let e = one_end (λ e. e ≡ w.to) (λ f. same_endpoint f w.to ≡ false) z here there in
            let g : same_endpoint w.to w.to ≡ false = subst (λ (f : Endpoint). same_endpoint f w.to ≡ false) (sym e ∙ here.holds) there.holds in
            let yes = same_self w.to in
            cc)
        | inr q ↦ q
      ]))
