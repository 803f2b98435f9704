-- Netlists with one more part keep the rules of netlists.
use Rattle.sap_lemmas.proofs.Common.{◌≡◌, ℕ, true, false, List, [], ◌∷◌, ◌++◌, map, filter, Some, None, ap, sym, ◌∙◌, refl, subst, inl, inr, bytes_eq, AllByRecursion, cases_Bool, append-nil, append_assoc, map-append, neither_right, all_follow, equal_of_bytes_eq}
use Rattle.sap_maps.specs.Prelude.{Name, Scope, find}
use Rattle.sap_maps.proofs.Scopes.{found_behind}
use Rattle.sap_net.specs.Prelude.{AreDistinct, is_name, is_among, helper, Net, Shapes, IsWidth, IsRight, AreValues, AreMemories, AreWires, IsRegister, IsMemory, readable_after, IsNetlist, PortShows, is_input, input_names, wire_names, register_names, memory_names, first_readable, readable, shapes}
use Rattle.sap_net.specs.declared.parts.PortKind.{PortKind}
use Rattle.sap_net.specs.declared.parts.Port.{Port}
use Rattle.sap_net.specs.declared.parts.Input.{Input}
use Rattle.sap_net.specs.declared.parts.Wire.{Wire}
use Rattle.sap_net.specs.declared.parts.Register.{Register}
use Rattle.sap_net.specs.declared.parts.Memory.{Memory}
use Rattle.sap_net.specs.declared.parts.PortKind.TheVariants as kind
use Rattle.sap_net.proofs.NamesLemmas.{among_behind, among_front, among_here, apart_by_membership}
use Rattle.sap_net.proofs.RulesLemmas.{Grows, readable_both, readable_kept, wires_both, wires_new}
use Rattle.sap_share.proofs.Helpers.{helper_is_name}
use Rattle.sap_build.specs.Writing.{blank, declared, shown, with_input, assigned, registered, with_memory, taken, IsFresh}
use Rattle.sap_build.specs.Written.{IsNew, ArePorts}
use Rattle.sap_build.proofs.Found.{AllAmong, first_declared, memories_among, readable_declared, registers_among, shapes_declared, wires_among}
use Rattle.sap_build.proofs.Inserted.{AreFresh, GrowsIn, find_inserted, find_other, grows_after, inserted_grows, memories_inserted, memory_grows, register_grows, undeclared_not_found, values_inserted, values_past_memory, wires_grow}
use Rattle.sap_build.proofs.OneMore.{all_more, distinct_more, filter_skips, filter_takes, first_declared_more, first_kept, fourth_declared_more, order_kept, order_more, ports_first_more, second_declared_more, third_declared_more}

pub blank_is_netlist : (x : Name) → is_name x ≡ true → IsNetlist (blank x)
blank_is_netlist x named =
    record {
      module_named = named;
      named = tt;
      declared_once = tt;
      declared = λ y. refl;
      registers_in_order = refl;
      memories_in_order = refl;
      ports_first = refl;
      ports_show = tt;
      inputs_are_ports = refl;
      values = tt;
      memory_shapes = tt;
      assigns = tt;
      nexts = tt;
      writes = tt;
    }

pub helper_is_new : (n : Net) (x : Name) → IsFresh (taken n) x → IsNew n x
helper_is_new n x fresh =
    let k = fresh.number in
    let e : helper k ≡ x = sym fresh.named in
    record {
      named = subst (λ (y : Name). is_name y ≡ true) e (helper_is_name k fresh.counted);
      undeclared = subst (λ (y : Name). is_among y n.names ≡ false) e (neither_right (bytes_eq (helper k) n.module_name) (is_among (helper k) n.names) fresh.least.free);
    }

-- ---- ports

with_port : Port → Net → Net
with_port p n =
    record {
      module_name = n.module_name;
      names = n.names;
      ports = n.ports ++ p ∷ [];
      inputs = n.inputs;
      wires = n.wires;
      registers = n.registers;
      memories = n.memories;
    }

still_shows : (p : Port) (n : Net) (k : PortKind) (x : Name) → PortShows n k x → PortShows (with_port p n) k x
unfolding with_port
still_shows p n kind.Input x h = h
still_shows p n kind.Register x h = h
still_shows p n kind.Wire x h = h

-- what is declared next to the ports can be shown
last_is_shown : (n : Net) (p : Port) → IsNetlist n → map (λ p. p.name) n.ports ++ p.name ∷ [] ≡ n.names → is_input p.kind ≡ false → PortShows n p.kind p.name
    → IsNetlist (with_port p n)
unfolding with_port
last_is_shown n p rules next other shows =
    record {
      module_named = rules.module_named;
      named = rules.named;
      declared_once = rules.declared_once;
      declared = rules.declared;
      registers_in_order = rules.registers_in_order;
      memories_in_order = rules.memories_in_order;
      ports_first = ports_first_more n.ports p n.names next;
      ports_show = all_more (λ (q : Port). PortShows (with_port p n) q.kind q.name) n.ports p
          (all_follow (λ (q : Port). PortShows n q.kind q.name) (λ q. PortShows (with_port p n) q.kind q.name) n.ports (λ q. still_shows p n q.kind q.name) rules.ports_show)
          (still_shows p n p.kind p.name shows);
      inputs_are_ports = ap (λ (qs : List Port). map (λ q. q.name) qs) (filter_skips (λ (q : Port). is_input q.kind) n.ports p other) ∙ rules.inputs_are_ports;
      values = rules.values;
      memory_shapes = rules.memory_shapes;
      assigns = rules.assigns;
      nexts = rules.nexts;
      writes = rules.writes;
    }

-- ---- a new name

module _ (n : Net) (rules : IsNetlist n) (x : Name) (new : IsNew n x) where
  not_there : (xs : List Name) → AllAmong xs n.names → is_among x xs ≡ false
  not_there xs k = elim (cases_Bool (is_among x xs)) [ inl t ↦ absurd (let e = k x t in let f = new.undeclared in cc) | inr q ↦ q ]

  unreadable_first : find (first_readable n) x ≡ None
  unreadable_first = undeclared_not_found n.names (first_readable n) (first_declared n rules) x new.undeclared

  unreadable : find (readable n) x ≡ None
  unreadable = undeclared_not_found n.names (readable n) (readable_declared n rules) x new.undeclared

  no_memory : find (shapes n) x ≡ None
  no_memory = undeclared_not_found n.names (shapes n) (shapes_declared n rules) x new.undeclared

  all_named : AllByRecursion (λ y. is_name y ≡ true) (n.names ++ x ∷ [])
  all_named = all_more (λ (y : Name). is_name y ≡ true) n.names x rules.named new.named

  once : AreDistinct (n.names ++ x ∷ [])
  once = distinct_more n.names x rules.declared_once new.undeclared

  registers_kept : filter (λ y. is_among y (register_names n)) (n.names ++ x ∷ []) ≡ register_names n
  registers_kept = order_kept (register_names n) n.names x (not_there (register_names n) (registers_among n rules)) rules.registers_in_order

  memories_kept : filter (λ y. is_among y (memory_names n)) (n.names ++ x ∷ []) ≡ memory_names n
  memories_kept = order_kept (memory_names n) n.names x (not_there (memory_names n) (memories_among n rules)) rules.memories_in_order

-- ---- wires

wire_shows : (n : Net) (w : Wire) (k : PortKind) (x : Name) → PortShows n k x → PortShows (assigned w (declared w.name n)) k x
wire_shows n w kind.Input x h = h
wire_shows n w kind.Register x h = h
wire_shows n w kind.Wire x h = ap (is_among x) (map-append (λ (v : Wire). v.name) n.wires (w ∷ [])) ∙ among_front x (wire_names n) (w.name ∷ []) h

pub wire_is_added : (n : Net) → IsNetlist n → (w : Wire) → IsNew n w.name → IsWidth w.width
    → IsRight (shapes n) (readable n) w.width w.right → IsNetlist (assigned w (declared w.name n))
wire_is_added n rules w new wide right =
    let after : readable (assigned w (declared w.name n)) ≡ (w.name, w.width) ∷ readable n = readable_both n.wires (w ∷ []) (first_readable n) in
    let grows : Grows (readable n) (readable (assigned w (declared w.name n))) = λ y u h.
    subst (λ (sc : Scope). find sc y ≡ Some u) (sym after) (found_behind (readable n) w.name w.width (unreadable n rules w.name new) y u h) in
    record {
      module_named = rules.module_named;
      named = all_named n rules w.name new;
      declared_once = once n rules w.name new;
      declared = λ y.
          second_declared_more n.names (input_names n) (wire_names n) (register_names n) (memory_names n) w.name rules.declared y
          ∙ ap (λ (ns : List Name). is_among y (input_names n ++ ns ++ register_names n ++ memory_names n)) (sym (map-append (λ (v : Wire). v.name) n.wires (w ∷ [])));
      registers_in_order = registers_kept n rules w.name new;
      memories_in_order = memories_kept n rules w.name new;
      ports_first = first_kept n.ports n.names (w.name ∷ []) rules.ports_first;
      ports_show = all_follow (λ (p : Port). PortShows n p.kind p.name) (λ p. PortShows (assigned w (declared w.name n)) p.kind p.name)
          n.ports (λ p. wire_shows n w p.kind p.name) rules.ports_show;
      inputs_are_ports = rules.inputs_are_ports;
      values = rules.values;
      memory_shapes = rules.memory_shapes;
      assigns = wires_both (shapes n) n.wires (w ∷ []) (first_readable n) rules.assigns (wide, unreadable n rules w.name new, no_memory n rules w.name new, right, tt);
      nexts = all_follow (IsRegister (readable n)) (IsRegister (readable (assigned w (declared w.name n)))) n.registers
          (register_grows (readable n) (readable (assigned w (declared w.name n))) grows) rules.nexts;
      writes = all_follow (IsMemory (readable n)) (IsMemory (readable (assigned w (declared w.name n)))) n.memories
          (memory_grows (readable n) (readable (assigned w (declared w.name n))) grows) rules.writes;
    }

pub shown_wire_is_added : (n : Net) → IsNetlist n → ArePorts n → (w : Wire) → IsNew n w.name → IsWidth w.width → IsRight (shapes n) (readable n) w.width w.right
    → IsNetlist (assigned w (shown (record { name = w.name; kind = kind.Wire }) n))
unfolding with_port
shown_wire_is_added n rules ports w new wide right =
    last_is_shown (assigned w (declared w.name n)) (record { name = w.name; kind = kind.Wire }) (wire_is_added n rules w new wide right)
    (ap (λ (ns : List Name). ns ++ w.name ∷ []) ports) refl
    (ap (is_among w.name) (map-append (λ (v : Wire). v.name) n.wires (w ∷ [])) ∙ among_behind w.name (wire_names n) (w.name ∷ []) (among_here w.name []))

-- ---- inputs and registers: one more that can be read from the start

module _ (n : Net) (rules : IsNetlist n) (x : Name) (new : IsNew n x) (u : ℕ) (wide : IsWidth u) (es fs sd : Scope)
    (front : first_readable n ≡ es ++ fs) (first : sd ≡ es ++ (x, u) ∷ fs) where
  unread : find (es ++ fs) x ≡ None
  unread = subst (λ (sc : Scope). find sc x ≡ None) front (unreadable_first n rules x new)

  first_grows : Grows (first_readable n) sd
  first_grows y v h = subst (λ (sc : Scope). find sc y ≡ Some v) (sym first) (inserted_grows es fs x u unread y v (subst (λ (sc : Scope). find sc y ≡ Some v) front h))

  values_more : AreValues (shapes n) sd
  values_more = subst (AreValues (shapes n)) (sym first)
      (values_inserted (shapes n) es fs x u wide (no_memory n rules x new) unread (subst (AreValues (shapes n)) front rules.values))

  fresh_more : AreFresh (shapes n) sd n.wires
  fresh_more y h =
      let w = wires_new (shapes n) n.wires (first_readable n) rules.assigns y h in (
        subst (λ (sc : Scope). find sc y ≡ None) (sym first)
            (find_other es fs x u y (apart_by_membership x y n.names new.undeclared (wires_among n rules y h)) ∙ subst (λ (sc : Scope). find sc y ≡ None) front w.0),
        w.1,
      )

  assigns_more : AreWires (shapes n) sd n.wires
  assigns_more = wires_grow (shapes n) (shapes n) (λ m t h. h) n.wires (first_readable n) sd first_grows fresh_more rules.assigns

  grows : Grows (readable n) (readable_after sd n.wires)
  grows = grows_after n.wires (first_readable n) sd first_grows

  nexts_more : AllByRecursion (IsRegister (readable_after sd n.wires)) n.registers
  nexts_more = all_follow (IsRegister (readable n)) (IsRegister (readable_after sd n.wires)) n.registers (register_grows (readable n) (readable_after sd n.wires) grows) rules.nexts

  writes_more : AllByRecursion (IsMemory (readable_after sd n.wires)) n.memories
  writes_more = all_follow (IsMemory (readable n)) (IsMemory (readable_after sd n.wires)) n.memories (memory_grows (readable n) (readable_after sd n.wires) grows) rules.writes

  read_now : find (readable_after sd n.wires) x ≡ Some u
  read_now = readable_kept (shapes n) n.wires sd assigns_more x u (subst (λ (sc : Scope). find sc x ≡ Some u) (sym first) (find_inserted es fs x u unread))

  grows_with : Grows ((x, u) ∷ readable n) (readable_after sd n.wires)
  grows_with y v h =
      elim (cases_Bool (bytes_eq x y)) [
        | inl t ↦
            let e : Some u ≡ Some v = rw t at h in
            subst (λ (z : Name). find (readable_after sd n.wires) z ≡ Some v) (equal_of_bytes_eq x y t) (read_now ∙ e)
        | inr q ↦ grows y v (rw q at h)
      ]

input_shows : (n : Net) (i : Input) (k : PortKind) (x : Name) → PortShows n k x → PortShows (with_input i n) k x
input_shows n i kind.Input x h = ap (is_among x) (map-append (λ (j : Input). j.name) n.inputs (i ∷ [])) ∙ among_front x (input_names n) (i.name ∷ []) h
input_shows n i kind.Register x h = h
input_shows n i kind.Wire x h = h

pub input_is_added : (n : Net) → IsNetlist n → ArePorts n → (i : Input) → IsNew n i.name → IsWidth i.width → IsNetlist (with_input i n)
input_is_added n rules ports i new wide =
    let names : input_names (with_input i n) ≡ input_names n ++ i.name ∷ [] = map-append (λ (j : Input). j.name) n.inputs (i ∷ []) in
    let port : Port = record { name = i.name; kind = kind.Input } in
    let es : Scope = map (λ j. (j.name, j.width)) n.inputs in
    let fs : Scope = map (λ r. (r.name, r.width)) n.registers in
    let sd = first_readable (with_input i n) in
    let first : sd ≡ es ++ (i.name, i.width) ∷ fs =
    ap (λ (sc : Scope). sc ++ fs) (map-append {B = Name × ℕ} (λ (j : Input). (j.name, j.width)) n.inputs (i ∷ [])) ∙ append_assoc es ((i.name, i.width) ∷ []) fs in
    record {
      module_named = rules.module_named;
      named = all_named n rules i.name new;
      declared_once = once n rules i.name new;
      declared = λ y.
          first_declared_more n.names (input_names n) (wire_names n) (register_names n) (memory_names n) i.name rules.declared y
          ∙ ap (λ (ns : List Name). is_among y (ns ++ wire_names n ++ register_names n ++ memory_names n)) (sym names);
      registers_in_order = registers_kept n rules i.name new;
      memories_in_order = memories_kept n rules i.name new;
      ports_first = ports_first_more n.ports port (n.names ++ i.name ∷ []) (ap (λ (ns : List Name). ns ++ i.name ∷ []) ports);
      ports_show = all_more (λ (p : Port). PortShows (with_input i n) p.kind p.name) n.ports port
          (all_follow (λ (p : Port). PortShows n p.kind p.name) (λ p. PortShows (with_input i n) p.kind p.name) n.ports (λ p. input_shows n i p.kind p.name) rules.ports_show)
          (ap (is_among i.name) names ∙ among_behind i.name (input_names n) (i.name ∷ []) (among_here i.name []));
      inputs_are_ports =
          ap (λ (ps : List Port). map (λ p. p.name) ps) (filter_takes (λ (p : Port). is_input p.kind) n.ports port refl)
          ∙ map-append (λ (p : Port). p.name) (filter (λ p. is_input p.kind) n.ports) (port ∷ [])
          ∙ ap (λ (ns : List Name). ns ++ i.name ∷ []) rules.inputs_are_ports
          ∙ sym names;
      values = values_more n rules i.name new i.width wide es fs sd refl first;
      memory_shapes = rules.memory_shapes;
      assigns = assigns_more n rules i.name new i.width wide es fs sd refl first;
      nexts = nexts_more n rules i.name new i.width wide es fs sd refl first;
      writes = writes_more n rules i.name new i.width wide es fs sd refl first;
    }

register_shows : (n : Net) (r : Register) (k : PortKind) (x : Name) → PortShows n k x → PortShows (registered r (declared r.name n)) k x
register_shows n r kind.Input x h = h
register_shows n r kind.Register x h = ap (is_among x) (map-append (λ (s : Register). s.name) n.registers (r ∷ [])) ∙ among_front x (register_names n) (r.name ∷ []) h
register_shows n r kind.Wire x h = h

pub register_is_added : (n : Net) → IsNetlist n → (r : Register) → IsNew n r.name → IsWidth r.width
    → IsRegister ((r.name, r.width) ∷ readable n) r → IsNetlist (registered r (declared r.name n))
register_is_added n rules r new wide next =
    let names : register_names (registered r (declared r.name n)) ≡ register_names n ++ r.name ∷ [] = map-append (λ (s : Register). s.name) n.registers (r ∷ []) in
    let es = first_readable n in
    let sd = first_readable (registered r (declared r.name n)) in
    let is : Scope = map (λ i. (i.name, i.width)) n.inputs in
    let rs : Scope = map (λ r. (r.name, r.width)) n.registers in
    let front : es ≡ es ++ [] = sym (append-nil es) in
    let first : sd ≡ es ++ (r.name, r.width) ∷ [] =
    ap (λ (sc : Scope). is ++ sc) (map-append {B = Name × ℕ} (λ (s : Register). (s.name, s.width)) n.registers (r ∷ [])) ∙ sym (append_assoc is rs ((r.name, r.width) ∷ [])) in
    record {
      module_named = rules.module_named;
      named = all_named n rules r.name new;
      declared_once = once n rules r.name new;
      declared = λ y.
          third_declared_more n.names (input_names n) (wire_names n) (register_names n) (memory_names n) r.name rules.declared y
          ∙ ap (λ (ns : List Name). is_among y (input_names n ++ wire_names n ++ ns ++ memory_names n)) (sym names);
      registers_in_order =
          subst (λ (ns : List Name). filter (λ y. is_among y ns) (n.names ++ r.name ∷ []) ≡ ns) (sym names)
          (order_more (register_names n) n.names r.name new.undeclared rules.registers_in_order);
      memories_in_order = memories_kept n rules r.name new;
      ports_first = first_kept n.ports n.names (r.name ∷ []) rules.ports_first;
      ports_show = all_follow (λ (p : Port). PortShows n p.kind p.name) (λ p. PortShows (registered r (declared r.name n)) p.kind p.name)
          n.ports (λ p. register_shows n r p.kind p.name) rules.ports_show;
      inputs_are_ports = rules.inputs_are_ports;
      values = values_more n rules r.name new r.width wide es [] sd front first;
      memory_shapes = rules.memory_shapes;
      assigns = assigns_more n rules r.name new r.width wide es [] sd front first;
      nexts = all_more (IsRegister (readable_after sd n.wires)) n.registers r (nexts_more n rules r.name new r.width wide es [] sd front first)
          (register_grows ((r.name, r.width) ∷ readable n) (readable_after sd n.wires) (grows_with n rules r.name new r.width wide es [] sd front first) r next);
      writes = writes_more n rules r.name new r.width wide es [] sd front first;
    }

pub shown_register_is_added : (n : Net) → IsNetlist n → ArePorts n → (r : Register) → IsNew n r.name → IsWidth r.width → IsRegister ((r.name, r.width) ∷ readable n) r
    → IsNetlist (registered r (shown (record { name = r.name; kind = kind.Register }) n))
unfolding with_port
shown_register_is_added n rules ports r new wide next =
    last_is_shown (registered r (declared r.name n)) (record { name = r.name; kind = kind.Register }) (register_is_added n rules r new wide next)
    (ap (λ (ns : List Name). ns ++ r.name ∷ []) ports) refl
    (ap (is_among r.name) (map-append (λ (s : Register). s.name) n.registers (r ∷ [])) ∙ among_behind r.name (register_names n) (r.name ∷ []) (among_here r.name []))

-- ---- memories

memory_shows : (n : Net) (m : Memory) (k : PortKind) (x : Name) → PortShows n k x → PortShows (with_memory m n) k x
memory_shows n m kind.Input x h = h
memory_shows n m kind.Register x h = h
memory_shows n m kind.Wire x h = h

pub memory_is_added : (n : Net) → IsNetlist n → (m : Memory) → IsNew n m.name → IsWidth m.width → IsMemory (readable n) m → IsNetlist (with_memory m n)
memory_is_added n rules m new wide fits =
    let names : memory_names (with_memory m n) ≡ memory_names n ++ m.name ∷ [] = map-append (λ (k : Memory). k.name) n.memories (m ∷ []) in
    let ms = shapes n in
    let s : ℕ × ℕ = (m.width, m.depth) in
    let ns = shapes (with_memory m n) in
    let front : ms ≡ ms ++ [] = sym (append-nil ms) in
    let more : ns ≡ ms ++ (m.name, s) ∷ [] = map-append {B = Name × (ℕ × ℕ)} (λ (k : Memory). (k.name, (k.width, k.depth))) n.memories (m ∷ []) in
    let none : find (ms ++ []) m.name ≡ None = subst (λ (es : Shapes). find es m.name ≡ None) front (no_memory n rules m.name new) in
    let grows : GrowsIn ms ns = λ y t h.
    subst (λ (es : Shapes). find es y ≡ Some t) (sym more) (inserted_grows ms [] m.name s none y t (subst (λ (es : Shapes). find es y ≡ Some t) front h)) in
    let fresh : AreFresh ns (first_readable n) n.wires = λ y h. (
    let w = wires_new ms n.wires (first_readable n) rules.assigns y h in (
      w.0,
      subst (λ (es : Shapes). find es y ≡ None) (sym more)
          (find_other ms [] m.name s y (apart_by_membership m.name y n.names new.undeclared (wires_among n rules y h)) ∙ subst (λ (es : Shapes). find es y ≡ None) front w.1),
    )) in
    record {
      module_named = rules.module_named;
      named = all_named n rules m.name new;
      declared_once = once n rules m.name new;
      declared = λ y.
          fourth_declared_more n.names (input_names n) (wire_names n) (register_names n) (memory_names n) m.name rules.declared y
          ∙ ap (λ (ns : List Name). is_among y (input_names n ++ wire_names n ++ register_names n ++ ns)) (sym names);
      registers_in_order = registers_kept n rules m.name new;
      memories_in_order =
          subst (λ (ns : List Name). filter (λ y. is_among y ns) (n.names ++ m.name ∷ []) ≡ ns) (sym names)
          (order_more (memory_names n) n.names m.name new.undeclared rules.memories_in_order);
      ports_first = first_kept n.ports n.names (m.name ∷ []) rules.ports_first;
      ports_show = all_follow (λ (p : Port). PortShows n p.kind p.name) (λ p. PortShows (with_memory m n) p.kind p.name) n.ports
          (λ p. memory_shows n m p.kind p.name) rules.ports_show;
      inputs_are_ports = rules.inputs_are_ports;
      values =
          subst (λ (es : Shapes). AreValues es (first_readable n)) (sym more)
          (values_past_memory ms [] m.name s (first_readable n) (unreadable_first n rules m.name new)
          (subst (λ (es : Shapes). AreValues es (first_readable n)) front rules.values));
      memory_shapes = subst AreMemories (sym more) (memories_inserted ms [] m.name s wide none (subst AreMemories front rules.memory_shapes));
      assigns = wires_grow ms ns grows n.wires (first_readable n) (first_readable n) (λ y u h. h) fresh rules.assigns;
      nexts = rules.nexts;
      writes = all_more (IsMemory (readable n)) n.memories m rules.writes fits;
    }
