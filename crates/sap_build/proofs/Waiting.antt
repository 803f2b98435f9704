-- Wires that wait for their `assign`.
use Rattle.sap_lemmas.proofs.Common.{◌≡◌, ℕ, Bool, true, false, ◌||◌, List, [], ◌∷◌, ◌++◌, map, Some, None, ap, ap₂, sym, ◌∙◌, refl, subst, inl, inr, bytes_eq, pow_pos, cases_Bool, append_assoc, map-append, or_false, or_true, all_follow, equal_of_bytes_eq}
use Rattle.sap_maps.specs.Prelude.{Name, Scope, find}
use Rattle.sap_maps.proofs.Scopes.{not_behind, not_first}
use Rattle.sap_net.specs.Prelude.{is_among, Net, Shapes, IsWidth, IsRight, AreWires, IsRegister, IsMemory, readable_after, IsNetlist, PortShows, names_of, input_names, wire_names, register_names, memory_names, first_readable, readable, shapes}
use Rattle.sap_net.specs.declared.parts.PortKind.{PortKind}
use Rattle.sap_net.specs.declared.parts.Port.{Port}
use Rattle.sap_net.specs.declared.parts.Wire.{Wire}
use Rattle.sap_net.specs.declared.parts.PortKind.TheVariants as kind
use Rattle.sap_net.proofs.NamesLemmas.{among_append}
use Rattle.sap_net.proofs.RulesLemmas.{Grows, readable_both, wires_both}
use Rattle.sap_build.specs.Writing.{declared, shown, assigned}
use Rattle.sap_build.specs.Written.{IsNew, ArePorts}
use Rattle.sap_build.specs.Waiting.{waiting, waiting_wire}
use Rattle.sap_build.proofs.Inserted.{grows_after, memory_grows, register_grows}
use Rattle.sap_build.proofs.OneMore.{four_parts}
use Rattle.sap_build.proofs.Written.{shown_wire_is_added, wire_is_added}

abbrev with_wires : Net → List Wire → Net
with_wires n ws =
    record {
      module_name = n.module_name;
      names = n.names;
      ports = n.ports;
      inputs = n.inputs;
      wires = ws;
      registers = n.registers;
      memories = n.memories;
    }

new_waiting : (n : Net) (es : Scope) (x : Name) → IsNew n x → IsNew (waiting es n) x
new_waiting n es x new = record { named = new.named; undeclared = new.undeclared }

behind_all : (ws : List Wire) (es : Scope) (x : Name) (u : ℕ) → (ws ++ map waiting_wire es) ++ waiting_wire (x, u) ∷ [] ≡ ws ++ map waiting_wire (es ++ (x, u) ∷ [])
behind_all ws es x u =
    append_assoc ws (map waiting_wire es) (waiting_wire (x, u) ∷ []) ∙ ap (λ (vs : List Wire). ws ++ vs) (sym (map-append {A = Name × ℕ} waiting_wire es ((x, u) ∷ [])))

pub wire_waits : (n : Net) (es : Scope) → IsNetlist (waiting es n) → (x : Name) (u : ℕ) → IsNew n x → IsWidth u → IsNetlist (waiting (es ++ (x, u) ∷ []) (declared x n))
wire_waits n es rules x u new wide =
    subst (λ (ws : List Wire). IsNetlist (with_wires (declared x n) ws)) (behind_all n.wires es x u)
    (wire_is_added (waiting es n) rules (waiting_wire (x, u)) (new_waiting n es x new) wide (refl, pow_pos u))

pub shown_wire_waits : (n : Net) (es : Scope) → IsNetlist (waiting es n) → ArePorts n → (x : Name) (u : ℕ) → IsNew n x → IsWidth u
    → IsNetlist (waiting (es ++ (x, u) ∷ []) (shown (record { name = x; kind = kind.Wire }) n))
shown_wire_waits n es rules ports x u new wide =
    subst (λ (ws : List Wire). IsNetlist (with_wires (shown (record { name = x; kind = kind.Wire }) n) ws)) (behind_all n.wires es x u)
    (shown_wire_is_added (waiting es n) rules ports (waiting_wire (x, u)) (new_waiting n es x new) wide (refl, pow_pos u))

-- ---- a wire in front of those that wait

-- what isn't found in the one isn't found in the other
abbrev Lacks : Scope → Scope → Type 0
Lacks sc sd = (y : Name) → find sc y ≡ None → find sd y ≡ None

lacks_behind : (e : Name × ℕ) (sc sd : Scope) → Lacks sc sd → Lacks (e ∷ sc) (e ∷ sd)
lacks_behind e sc sd l y h =
    elim (cases_Bool (bytes_eq e.0 y)) [
      | inl t ↦ absurd (let g = rw t at h in cc)
      | inr q ↦ rw q (l y (rw q at h))
    ]

-- wires that wait read nothing
waits_elsewhere : (ms : Shapes) (es sc sd : Scope) → Lacks sc sd → AreWires ms sc (map waiting_wire es) → AreWires ms sd (map waiting_wire es)
waits_elsewhere ms [] sc sd l a = tt
waits_elsewhere ms (e ∷ es) sc sd l a = (a.0, l e.0 a.1, a.2, a.3, waits_elsewhere ms es (e ∷ sc) (e ∷ sd) (lacks_behind e sc sd l) a.4)

lacks_swapped : (e f : Name × ℕ) (sc : Scope) → Lacks (e ∷ f ∷ sc) (f ∷ e ∷ sc)
lacks_swapped e f sc y h =
    elim (cases_Bool (bytes_eq e.0 y)) [
      | inl t ↦ absurd (let g = rw t at h in cc)
      | inr q ↦ elim (cases_Bool (bytes_eq f.0 y)) [
        | inl t ↦ absurd (let g = rw (q, t) at h in cc)
        | inr r ↦ rw (q, r) (rw (q, r) at h)
      ]
    ]

grows_swapped : (e f : Name × ℕ) (sc : Scope) → bytes_eq e.0 f.0 ≡ false → Grows (e ∷ f ∷ sc) (f ∷ e ∷ sc)
grows_swapped e f sc d y u h =
    elim (cases_Bool (bytes_eq f.0 y)) [
      | inl t ↦
          let q : bytes_eq e.0 y ≡ false = subst (λ (z : Name). bytes_eq e.0 z ≡ false) (equal_of_bytes_eq f.0 y t) d in
          rw t (rw (q, t) at h)
      | inr r ↦ rw r (rw r at h)
    ]

module _ (ms : Shapes) (x : Name) (u : ℕ) (fs : Scope) where
  -- one that waits behind others
  is_fresh : (es sc : Scope) → AreWires ms sc (map waiting_wire (es ++ (x, u) ∷ fs)) → IsWidth u × (find sc x ≡ None) × (find ms x ≡ None)
  is_fresh [] sc a = (a.0, a.1, a.2)
  is_fresh (e ∷ es) sc a = let r = is_fresh es (e ∷ sc) a.4 in (r.0, not_behind e sc x r.1, r.2)

  other : (e : Name × ℕ) (es sc : Scope) → AreWires ms sc (map waiting_wire (e ∷ es ++ (x, u) ∷ fs)) → bytes_eq x e.0 ≡ false
  other e es sc a = not_first e sc x (is_fresh es (e ∷ sc) a.4).1

  still_unread : (y : Name) (sc : Scope) → bytes_eq x y ≡ false → find sc y ≡ None → find ((x, u) ∷ sc) y ≡ None
  still_unread y sc q h = rw q h

  waits_behind : (es sc : Scope) → AreWires ms sc (map waiting_wire (es ++ (x, u) ∷ fs)) → AreWires ms ((x, u) ∷ sc) (map waiting_wire (es ++ fs))
  waits_behind [] sc a = a.4
  waits_behind (e ∷ es) sc a = (
    a.0,
    still_unread e.0 sc (other e es sc a) a.1,
    a.2,
    a.3,
    waits_elsewhere ms (es ++ fs) ((x, u) ∷ e ∷ sc) (e ∷ (x, u) ∷ sc) (lacks_swapped (x, u) e sc) (waits_behind es (e ∷ sc) a.4),
  )

  grows_in_front : (es sc : Scope) → AreWires ms sc (map waiting_wire (es ++ (x, u) ∷ fs))
      → Grows (readable_after sc (map waiting_wire (es ++ (x, u) ∷ fs))) (readable_after ((x, u) ∷ sc) (map waiting_wire (es ++ fs)))
  grows_in_front [] sc a y v h = h
  grows_in_front (e ∷ es) sc a y v h =
      grows_after (map waiting_wire (es ++ fs)) ((x, u) ∷ e ∷ sc) (e ∷ (x, u) ∷ sc) (grows_swapped (x, u) e sc (other e es sc a)) y v (grows_in_front es (e ∷ sc) a.4 y v h)

-- wires behind others
wires_second : (ms : Shapes) (ws vs : List Wire) (sc : Scope) → AreWires ms sc (ws ++ vs) → AreWires ms (readable_after sc ws) vs
wires_second ms [] vs sc a = a
wires_second ms (w ∷ ws) vs sc a = wires_second ms ws vs ((w.name, w.width) ∷ sc) a.4

wires_first : (ms : Shapes) (ws vs : List Wire) (sc : Scope) → AreWires ms sc (ws ++ vs) → AreWires ms sc ws
wires_first ms [] vs sc a = tt
wires_first ms (w ∷ ws) vs sc a = (a.0, a.1, a.2, a.3, wires_first ms ws vs ((w.name, w.width) ∷ sc) a.4)

-- the names of wires, in another order

to_front : (a b x c : Bool) → (a || (b || (x || c))) ≡ ((a || x) || (b || c))
to_front true b x c = refl
to_front false true x c = simp or_true
to_front false false x c = refl

waits_among : (y : Name) (es fs : Scope)
    → is_among y (names_of (map waiting_wire (es ++ fs))) ≡ (is_among y (names_of (map waiting_wire es)) || is_among y (names_of (map waiting_wire fs)))
waits_among y es fs =
    ap (λ (ws : List Wire). is_among y (names_of ws)) (map-append {A = Name × ℕ} waiting_wire es fs)
    ∙ ap (is_among y) (map-append (λ (w : Wire). w.name) (map waiting_wire es) (map waiting_wire fs))
    ∙ among_append y (names_of (map waiting_wire es)) (names_of (map waiting_wire fs))

wires_among_both : (y : Name) (ws vs : List Wire) → is_among y (names_of (ws ++ vs)) ≡ (is_among y (names_of ws) || is_among y (names_of vs))
wires_among_both y ws vs = ap (is_among y) (map-append (λ (w : Wire). w.name) ws vs) ∙ among_append y (names_of ws) (names_of vs)

names_moved : (y : Name) (ws : List Wire) (es fs : Scope) (w : Wire)
    → is_among y (names_of (ws ++ map waiting_wire (es ++ (w.name, w.width) ∷ fs))) ≡ is_among y (names_of ((ws ++ w ∷ []) ++ map waiting_wire (es ++ fs)))
names_moved y ws es fs w =
    let a = is_among y (names_of ws) in
    let b = is_among y (names_of (map waiting_wire es)) in
    let c = is_among y (names_of (map waiting_wire fs)) in
    let front : is_among y (names_of (ws ++ w ∷ [])) ≡ (a || bytes_eq y w.name) = wires_among_both y ws (w ∷ []) ∙ ap (λ (q : Bool). a || q) (or_false (bytes_eq y w.name)) in
    wires_among_both y ws (map waiting_wire (es ++ (w.name, w.width) ∷ fs)) ∙ ap (λ (q : Bool). a || q) (waits_among y es ((w.name, w.width) ∷ fs))
    ∙ to_front a b (bytes_eq y w.name) c
    ∙ sym (wires_among_both y (ws ++ w ∷ []) (map waiting_wire (es ++ fs)) ∙ ap₂ (λ (p q : Bool). p || q) front (waits_among y es fs))

moved_shows : (n : Net) (es fs : Scope) (w : Wire) (k : PortKind) (x : Name) → PortShows (waiting (es ++ (w.name, w.width) ∷ fs) n) k x
    → PortShows (waiting (es ++ fs) (assigned w n)) k x
moved_shows n es fs w kind.Input x h = h
moved_shows n es fs w kind.Register x h = h
moved_shows n es fs w kind.Wire x h = sym (names_moved x n.wires es fs w) ∙ h

pub wait_ends : (n : Net) (es fs : Scope) (w : Wire) → IsNetlist (waiting (es ++ (w.name, w.width) ∷ fs) n) → IsRight (shapes n) (readable n) w.width w.right
    → IsNetlist (waiting (es ++ fs) (assigned w n))
wait_ends n es fs w rules right =
    let old = waiting (es ++ (w.name, w.width) ∷ fs) n in
    let new = waiting (es ++ fs) (assigned w n) in
    let ms = shapes n in
    let sc = first_readable n in
    let before = map waiting_wire (es ++ (w.name, w.width) ∷ fs) in
    let behind = map waiting_wire (es ++ fs) in
    let waits : AreWires ms (readable n) before = wires_second ms n.wires before sc rules.assigns in
    let fresh = is_fresh ms w.name w.width fs es (readable n) waits in
    let after : readable_after sc (n.wires ++ w ∷ []) ≡ (w.name, w.width) ∷ readable n = readable_both n.wires (w ∷ []) sc in
    let read : readable new ≡ readable_after ((w.name, w.width) ∷ readable n) behind =
    readable_both (n.wires ++ w ∷ []) behind sc ∙ ap (λ (sd : Scope). readable_after sd behind) after in
    let grows : Grows (readable old) (readable new) = λ y v h.
    subst (λ (sd : Scope). find sd y ≡ Some v) (sym read)
    (grows_in_front ms w.name w.width fs es (readable n) waits y v (subst (λ (sd : Scope). find sd y ≡ Some v) (readable_both n.wires before sc) h)) in
    record {
      module_named = rules.module_named;
      named = rules.named;
      declared_once = rules.declared_once;
      declared = λ y.
          rules.declared y
          ∙ four_parts y (input_names n) (wire_names old) (register_names n) (memory_names n)
          ∙ ap (λ (q : Bool). ((is_among y (input_names n) || q) || is_among y (register_names n)) || is_among y (memory_names n)) (names_moved y n.wires es fs w)
          ∙ sym (four_parts y (input_names n) (wire_names new) (register_names n) (memory_names n));
      registers_in_order = rules.registers_in_order;
      memories_in_order = rules.memories_in_order;
      ports_first = rules.ports_first;
      ports_show = all_follow (λ (p : Port). PortShows old p.kind p.name) (λ p. PortShows new p.kind p.name) n.ports (λ p. moved_shows n es fs w p.kind p.name) rules.ports_show;
      inputs_are_ports = rules.inputs_are_ports;
      values = rules.values;
      memory_shapes = rules.memory_shapes;
      assigns =
          wires_both ms (n.wires ++ w ∷ []) behind sc
          (wires_both ms n.wires (w ∷ []) sc (wires_first ms n.wires before sc rules.assigns) (fresh.0, fresh.1, fresh.2, right, tt))
          (subst (λ (sd : Scope). AreWires ms sd behind) (sym after) (waits_behind ms w.name w.width fs es (readable n) waits));
      nexts = all_follow (IsRegister (readable old)) (IsRegister (readable new)) n.registers (register_grows (readable old) (readable new) grows) rules.nexts;
      writes = all_follow (IsMemory (readable old)) (IsMemory (readable new)) n.memories (memory_grows (readable old) (readable new) grows) rules.writes;
    }
