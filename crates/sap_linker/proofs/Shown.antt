-- A netlist has as many wires that ports show as ports that show wires.
use Rattle.sap_lemmas.proofs.Common.{◌≡◌, ℕ, suc, ◌≤◌, Bool, true, false, not, List, [], ◌∷◌, ◌++◌, map, filter, length, take, drop, bytes_eq, Some, None, refl, sym, ap, ◌∙◌, subst, inl, inr, arith, AllByRecursion, and_parts, cases_Bool, take-append-drop, none-some, length_map, bytes_eq_apart_back, equal_of_bytes_eq}
use Rattle.sap_maps.specs.Prelude.{Name, Scope, find}
use Rattle.sap_net.specs.Prelude.{Net, AreDistinct, is_among, IsNetlist, PortShows, first_readable, input_names, names_of, register_names, shapes, wire_names}
use Rattle.sap_net.specs.declared.parts.PortKind.{PortKind}
use Rattle.sap_net.specs.declared.parts.Port.{Port}
use Rattle.sap_net.specs.declared.parts.Input.{Input}
use Rattle.sap_net.specs.declared.parts.Register.{Register}
use Rattle.sap_net.specs.declared.parts.Wire.{Wire}
use Rattle.sap_net.specs.declared.parts.PortKind.TheVariants as kind
use Rattle.sap_net.proofs.NamesLemmas.{among_behind, among_here, apart_by_membership, filter_among, filter_distinct, found_of}
use Rattle.sap_net.proofs.RulesLemmas.{wires_distinct, wires_new}
use Rattle.sap_trim.specs.Names.{port_names, shown_wires}
use Rattle.sap_linked.proofs.Parted.{distinct_front}

-- ---- different names, each of which is among others, are no more than those

abbrev without : Name → List Name → List Name
without x ys = filter (λ (y : Name). not (bytes_eq y x)) ys

no_more : (x : Name) (ys : List Name) → length (without x ys) ≤ length ys
no_more x [] = omega arith
no_more x (y ∷ ys) =
    let rest = no_more x ys in
    elim (cases_Bool (bytes_eq y x)) [
      | inl t ↦ rw t (omega (arith, rest))
      | inr f ↦ rw f (omega (arith, rest))
    ]

less : (x : Name) (ys : List Name) → is_among x ys ≡ true → suc (length (without x ys)) ≤ length ys
less x [] h = absurd (cc)
less x (y ∷ ys) h = elim (cases_Bool (bytes_eq y x)) [
  | inl t ↦ (let rest = no_more x ys in rw t (omega (arith, rest)))
  | inr f ↦ (let rest = less x ys (rw (bytes_eq_apart_back y x f) at h) in rw f (omega (arith, rest)))
]

pub fewer : (xs ys : List Name) → AreDistinct xs → ((z : Name) → is_among z xs ≡ true → is_among z ys ≡ true) → length xs ≤ length ys
fewer [] ys d h = omega arith
fewer (x ∷ xs) ys d h =
    let here = less x ys (h x (among_here x xs)) in
    let kept : (z : Name) → is_among z xs ≡ true → is_among z (without x ys) ≡ true =
    λ z a. filter_among (λ (y : Name). not (bytes_eq y x)) ys z
    ∙ (let there = h z (among_behind z (x ∷ []) xs a) in let other = bytes_eq_apart_back x z (apart_by_membership x z xs d.0 a) in rw (there, other) refl) in
    let rest = fewer xs (without x ys) d.1 kept in
    omega (arith, here, rest)

-- ---- what is found among several

found_in_front : (sc sd : Scope) (x : Name) (u : ℕ) → find sc x ≡ Some u → find (sc ++ sd) x ≡ Some u
found_in_front [] sd x u h = absurd (none-some u h)
found_in_front (e ∷ sc) sd x u h = elim (cases_Bool (bytes_eq e.0 x)) [
  | inl t ↦ rw t (rw t at h)
  | inr f ↦ rw f (found_in_front sc sd x u (rw f at h))
]

found_behind : (sc sd : Scope) (x : Name) (u : ℕ) → find sd x ≡ Some u → (v : ℕ) × (find (sc ++ sd) x ≡ Some v)
found_behind [] sd x u h = (u, h)
found_behind (e ∷ sc) sd x u h = elim (cases_Bool (bytes_eq e.0 x)) [
  | inl t ↦ (e.1, rw t refl)
  | inr f ↦ (let r = found_behind sc sd x u h in (r.0, rw f r.1))
]

-- ---- some of the ports

among_some : (f : Port → Bool) (ps : List Port) (x : Name) → is_among x (map (λ (p : Port). p.name) (filter f ps)) ≡ true → is_among x (map (λ (p : Port). p.name) ps) ≡ true
among_some f [] x h = h
among_some f (p ∷ ps) x h = elim (cases_Bool (bytes_eq x p.name)) [
  | inl t ↦ rw t refl
  | inr e ↦
      elim (cases_Bool (f p)) [
        | inl a ↦ rw e (among_some f ps x (rw e at (rw a at h)))
        | inr b ↦ rw e (among_some f ps x (rw b at h))
      ]
]

not_among_some : (f : Port → Bool) (ps : List Port) (x : Name) → is_among x (map (λ (p : Port). p.name) ps) ≡ false → is_among x (map (λ (p : Port). p.name) (filter f ps)) ≡ false
not_among_some f ps x none = elim (cases_Bool (is_among x (map (λ (p : Port). p.name) (filter f ps)))) [
  | inl t ↦ absurd (let there = among_some f ps x t in cc)
  | inr e ↦ e
]

some_distinct : (f : Port → Bool) (ps : List Port) → AreDistinct (map (λ (p : Port). p.name) ps) → AreDistinct (map (λ (p : Port). p.name) (filter f ps))
some_distinct f [] d = tt
some_distinct f (p ∷ ps) d = elim (cases_Bool (f p)) [
  | inl a ↦ rw a (not_among_some f ps p.name d.0, some_distinct f ps d.1)
  | inr b ↦ rw b (some_distinct f ps d.1)
]

-- ---- wires that are shown

abbrev pub is_wire : PortKind → Bool
is_wire kind.Input = false
is_wire kind.Register = false
is_wire kind.Wire = true

names_filtered : (f : Name → Bool) (ws : List Wire) → names_of (filter (λ (w : Wire). f w.name) ws) ≡ filter f (names_of ws)
names_filtered f [] = refl
names_filtered f (w ∷ ws) = elim (cases_Bool (f w.name)) [
  | inl t ↦ rw t (ap (λ (xs : List Name). w.name ∷ xs) (names_filtered f ws))
  | inr e ↦ rw e (names_filtered f ws)
]

module _ (n : Net) (rules : IsNetlist n) where
  new : (x : Name) → is_among x (wire_names n) ≡ true → find (first_readable n) x ≡ None
  new x h = (wires_new (shapes n) n.wires (first_readable n) rules.assigns x h).0

  no_input : (x : Name) → is_among x (wire_names n) ≡ true → is_among x (input_names n) ≡ true → ⊥
  no_input x h i =
      let there = found_of (λ (y : Input). y.name) (λ (y : Input). y.width) n.inputs x i in
      none-some there.0 (sym (new x h) ∙ found_in_front (map (λ (y : Input). (y.name, y.width)) n.inputs) (map (λ (y : Register). (y.name, y.width)) n.registers) x there.0 there.1)

  no_register : (x : Name) → is_among x (wire_names n) ≡ true → is_among x (register_names n) ≡ true → ⊥
  no_register x h i =
      let there = found_of (λ (y : Register). y.name) (λ (y : Register). y.width) n.registers x i in
      let behind = found_behind (map (λ (y : Input). (y.name, y.width)) n.inputs) (map (λ (y : Register). (y.name, y.width)) n.registers) x there.0 there.1 in
      none-some behind.0 (sym (new x h) ∙ behind.1)

  shows_wire : (k : PortKind) (x : Name) → is_among x (wire_names n) ≡ true → PortShows n k x → is_wire k ≡ true
  shows_wire kind.Input x h s = absurd (no_input x h s)
  shows_wire kind.Register x h s = absurd (no_register x h s)
  shows_wire kind.Wire x h s = refl

  port_of : (ps : List Port) → AllByRecursion (λ (p : Port). PortShows n p.kind p.name) ps → (x : Name) → is_among x (wire_names n) ≡ true
      → is_among x (map (λ (p : Port). p.name) ps) ≡ true → is_among x (map (λ (p : Port). p.name) (filter (λ (p : Port). is_wire p.kind) ps)) ≡ true
  port_of [] a x h m = m
  port_of (p ∷ ps) a x h m = elim (cases_Bool (bytes_eq x p.name)) [
    | inl t ↦
        (let w = shows_wire p.kind x h (subst (λ (y : Name). PortShows n p.kind y) (sym (equal_of_bytes_eq x p.name t)) a.0) in
        rw (w, t) refl)
    | inr f ↦
        (let rest = port_of ps a.1 x h (rw f at m) in
        elim (cases_Bool (is_wire p.kind)) [ inl w ↦ rw (w, f) rest | inr o ↦ rw o rest ])
  ]

  pub shown_few : length (shown_wires n) ≤ length (filter (λ (p : Port). is_wire p.kind) n.ports)
  shown_few =
      let test : Name → Bool = λ x. is_among x (port_names n) in
      let distinct : AreDistinct (names_of (shown_wires n)) =
      subst (λ (xs : List Name). AreDistinct xs) (sym (names_filtered test n.wires))
      (filter_distinct test (wire_names n) (wires_distinct (shapes n) n.wires (first_readable n) rules.assigns)) in
      let each : (x : Name) → is_among x (names_of (shown_wires n)) ≡ true → is_among x (map (λ (p : Port). p.name) (filter (λ (p : Port). is_wire p.kind) n.ports)) ≡ true =
      λ x m.
      let parts = and_parts (is_among x (wire_names n)) (test x)
      (sym (ap (is_among x) (names_filtered test n.wires) ∙ filter_among test (wire_names n) x) ∙ m) in
      port_of n.ports rules.ports_show x parts.0 parts.1 in
      let few = fewer (names_of (shown_wires n)) (map (λ (p : Port). p.name) (filter (λ (p : Port). is_wire p.kind) n.ports)) distinct each in
      let a = length_map (λ (w : Wire). w.name) (shown_wires n) in
      let b = length_map (λ (p : Port). p.name) (filter (λ (p : Port). is_wire p.kind) n.ports) in
      omega (arith, few, a, b)

  ports_distinct : AreDistinct (port_names n)
  ports_distinct =
      subst (λ (xs : List Name). AreDistinct xs) (sym rules.ports_first)
      (distinct_front (take (length n.ports) n.names) (drop (length n.ports) n.names)
      (subst (λ (xs : List Name). AreDistinct xs) (sym (take-append-drop (length n.ports) n.names)) rules.declared_once))

  is_there : (k : PortKind) (x : Name) → is_wire k ≡ true → PortShows n k x → is_among x (wire_names n) ≡ true
  is_there kind.Input x w s = absurd (cc)
  is_there kind.Register x w s = absurd (cc)
  is_there kind.Wire x w s = s

  wire_of : (ps : List Port) → AllByRecursion (λ (p : Port). PortShows n p.kind p.name) ps → (x : Name)
      → is_among x (map (λ (p : Port). p.name) (filter (λ (p : Port). is_wire p.kind) ps)) ≡ true → is_among x (wire_names n) ≡ true
  wire_of [] a x m = absurd (cc)
  wire_of (p ∷ ps) a x m = elim (cases_Bool (is_wire p.kind)) [
    | inl w ↦
        elim (cases_Bool (bytes_eq x p.name)) [
          | inl t ↦ is_there p.kind x w (subst (λ (y : Name). PortShows n p.kind y) (sym (equal_of_bytes_eq x p.name t)) a.0)
          | inr f ↦ wire_of ps a.1 x (rw f at (rw w at m))
        ]
    | inr o ↦ wire_of ps a.1 x (rw o at m)
  ]

  pub shown_many : length (filter (λ (p : Port). is_wire p.kind) n.ports) ≤ length (shown_wires n)
  shown_many =
      let some : List Port = filter (λ (p : Port). is_wire p.kind) n.ports in
      let test : Name → Bool = λ x. is_among x (port_names n) in
      let each : (x : Name) → is_among x (map (λ (p : Port). p.name) some) ≡ true → is_among x (names_of (shown_wires n)) ≡ true =
      λ x m.
      let wire = wire_of n.ports rules.ports_show x m in
      let port = among_some (λ (p : Port). is_wire p.kind) n.ports x m in
      ap (is_among x) (names_filtered test n.wires) ∙ filter_among test (wire_names n) x ∙ rw (wire, port) refl in
      let few = fewer (map (λ (p : Port). p.name) some) (names_of (shown_wires n)) (some_distinct (λ (p : Port). is_wire p.kind) n.ports ports_distinct) each in
      let a = length_map (λ (w : Wire). w.name) (shown_wires n) in
      let b = length_map (λ (p : Port). p.name) some in
      omega (arith, few, a, b)
