-- A netlist in which reads of memories that nothing writes are numbers, and the given one: of both the same is seen.
use Rattle.sap_lemmas.proofs.Common.{◌≡◌, ℕ, ◌+◌, ◌^◌, ◌<◌, ◌≤◌, List, [], ◌∷◌, ◌++◌, map, filter, length, Option, Some, None, Bool, true, false, sym, ap, ◌∙◌, subst, refl, inl, inr, arith, unwrap_or, if◌then◌else◌, bytes_eq, AllByRecursion, AllZip, cases_Bool, all_of_map, map_of_all, equal_of_bytes_eq}
use Rattle.sap_lemmas.proofs.Everywhere.{all_follow}
use Rattle.sap_net.proofs.NamesLemmas.{among_each, each_among}
use Rattle.sap_net.proofs.RulesLemmas.{readable_kept}
use Rattle.sap_net.proofs.Same.{all_found, run_same}
use Rattle.sap_build.proofs.Seen.{same_seen}
use Rattle.sap_maps.specs.Prelude.{Name, Valuation, Scope, find}
use Rattle.sap_net.specs.Prelude.{is_among, Net, Shapes, AreWires, IsRight, readable_after, IsRegister, IsMemory, operand_value, right_value, Holds, input_names, register_names, wire_names, memory_names, first_readable, readable, shapes, width_of, PortShows, IsNetlist, names_of, written, Begins, IsCycle, IsRunAfter, observed, AreSame}
use Rattle.sap_net.specs.declared.parts.PortKind.{PortKind}
use Rattle.sap_net.specs.declared.parts.PortKind.TheVariants as kind
use Rattle.sap_net.specs.declared.parts.Port.{Port}
use Rattle.sap_net.specs.declared.parts.Operand.{Operand}
use Rattle.sap_net.specs.declared.parts.Register.{Register}
use Rattle.sap_net.specs.declared.parts.Memory.{Memory}
use Rattle.sap_net.specs.declared.parts.Wire.{Wire}
use Rattle.sap_net.specs.declared.parts.Right.{Right}
use Rattle.sap_net.specs.declared.parts.Right.TheVariants.{Cell}
use Rattle.sap_fold.specs.Folding.{is_number}
use Rattle.sap_fold.proofs.Folds.{number_is}
use Rattle.sap_trim.specs.Names.{port_names, shown_wires}
use Rattle.sap_trim.specs.Few.{calculated, is_copy}
use Rattle.sap_trim.specs.Alike.{DeclaresAlike, ShowsAlike, RunsAlike}
use Rattle.sap_trim.specs.Unwritten.{lasting_cell, number_or, read_right, read_wire, read_net}
use Rattle.sap_trim.proofs.Cycle.{all_ports, found_each, input_found, memories_seen, register_found}

-- the memory that has the number
record Lasting (P : Memory → Type 0) (x : Name) (k : ℕ) : Type 0 where
  memory : Memory
  holds : P memory
  named : memory.name ≡ x
  never : is_number memory.enable 0 ≡ true
  start : memory.start ≡ k

start_if : (P : Memory → Type 0) (m : Memory) (x : Name) (k : ℕ) (b : Bool) → is_number m.enable 0 ≡ b → P m → m.name ≡ x
    → (if b then Some m.start else None) ≡ Some k → Lasting P x k
start_if P m x k true e p n h = record { memory = m; holds = p; named = n; never = e; start = cc }
start_if P m x k false e p n h = absurd (cc)

lasting : (P : Memory → Type 0) (ms : List Memory) (x : Name) (k : ℕ) → AllByRecursion P ms → lasting_cell ms x ≡ Some k → Lasting P x k
lasting P [] x k a h = absurd (cc)
lasting P (m ∷ ms) x k a h =
    elim (cases_Bool (bytes_eq m.name x)) [
      | inl t ↦ start_if P m x k (is_number m.enable 0) refl a.0 (equal_of_bytes_eq m.name x t) (rw t at h)
      | inr f ↦ lasting P ms x k a.1 (rw f at h)
    ]

-- cells of memories that nothing writes have their number
abbrev Lasts : List Memory → Valuation → Type 0
Lasts ms v = (x : Name) (k : ℕ) → lasting_cell ms x ≡ Some k → (i : ℕ) → v.cell x i ≡ k

abbrev LastsBefore : List Memory → Option Valuation → Type 0
LastsBefore ms None = Unit {0}
LastsBefore ms (Some p) = Lasts ms p

never_written : (p : Valuation) (m : Memory) (i : ℕ) → is_number m.enable 0 ≡ true → written p m i ≡ p.cell m.name i
never_written p m i h = let e : operand_value p m.enable ≡ 0 = number_is p m.enable 0 h in rw e refl

lasts : (n : Net) (p : Option Valuation) (v : Valuation) → LastsBefore n.memories p → Begins n p v → Lasts n.memories v
lasts n None v b c x k h i =
    let m = lasting (λ m. (i : ℕ) → v.cell m.name i ≡ m.start) n.memories x k c.1 h in
    ap (λ (y : Name). v.cell y i) (sym m.named) ∙ m.holds i ∙ m.start
lasts n (Some p) v b c x k h i =
    let m = lasting (λ m. (i : ℕ) → v.cell m.name i ≡ written p m i) n.memories x k c.1 h in
    ap (λ (y : Name). v.cell y i) (sym m.named) ∙ m.holds i ∙ never_written p m.memory i m.never ∙ ap (λ (y : Name). p.cell y i) m.named ∙ b x k h i

-- a right side has the same value

number_value : (widths : Name → ℕ) (v : Valuation) (u : ℕ) (m : Name) (i : Operand) (o : Option ℕ) → ((k : ℕ) → o ≡ Some k → (j : ℕ) → v.cell m j ≡ k)
    → right_value widths v (number_or u (Cell m i) o) ≡ right_value widths v (Cell m i)
number_value widths v u m i None h = refl
number_value widths v u m i (Some k) h = sym (h k refl (operand_value v i))

read_value : (widths : Name → ℕ) (v : Valuation) (ms : List Memory) → Lasts ms v → (u : ℕ) (r : Right) → right_value widths v (read_right ms u r) ≡ right_value widths v r
read_value widths v ms l u (Cell m i) = number_value widths v u m i (lasting_cell ms m) (λ k h j. l m k h j)
read_value widths v ms l u _ = refl

holds_read : (widths : Name → ℕ) (v : Valuation) (ms : List Memory) → Lasts ms v → (ws : List Wire) → Holds widths v ws → Holds widths v (map (read_wire ms) ws)
holds_read widths v ms l [] h = tt
holds_read widths v ms l (w ∷ ws) h = (h.0 ∙ sym (read_value widths v ms l w.width w.right), holds_read widths v ms l ws h.1)

-- names and widths are the same

names_read : (ms : List Memory) (ws : List Wire) → names_of (map (read_wire ms) ws) ≡ names_of ws
names_read ms [] = refl
names_read ms (w ∷ ws) = ap (λ (ns : List Name). w.name ∷ ns) (names_read ms ws)

after_read : (ms : List Memory) (ws : List Wire) (sc : Scope) → readable_after sc (map (read_wire ms) ws) ≡ readable_after sc ws
after_read ms [] sc = refl
after_read ms (w ∷ ws) sc = after_read ms ws ((w.name, w.width) ∷ sc)

readable_read : (n : Net) → readable (read_net n) ≡ readable n
readable_read n = after_read n.memories n.wires (first_readable n)

width_read : (n : Net) (x : Name) → width_of (read_net n) x ≡ width_of n x
width_read n x = ap (λ (sc : Scope). unwrap_or (find sc x) 0) (readable_read n)

-- it is a netlist

abbrev Sized : Shapes → Memory → Type 0
Sized es m = (m.start < 2 ^ m.width) × (find es m.name ≡ Some (m.width, m.depth))

number_fits : (ms : List Memory) (es : Shapes) (sc : Scope) (u : ℕ) (m : Name) (i : Operand) (o : Option ℕ) → lasting_cell ms m ≡ o → AllByRecursion (Sized es) ms
    → IsRight es sc u (Cell m i) → IsRight es sc u (number_or u (Cell m i) o)
number_fits ms es sc u m i None e a f = f
number_fits ms es sc u m i (Some k) e a f =
    let l = lasting (Sized es) ms m k a e in
    let found : find es m ≡ Some (l.memory.width, l.memory.depth) = subst (λ (y : Name). find es y ≡ Some (l.memory.width, l.memory.depth)) l.named l.holds.1 in
    let w : l.memory.width ≡ u = same_width found f in
    (refl, subst (λ (q : ℕ). k < 2 ^ q) w (subst (λ (q : ℕ). q < 2 ^ l.memory.width) l.start l.holds.0))
  where
    same_width : {w d : ℕ} → find es m ≡ Some (w, d) → IsRight es sc u (Cell m i) → w ≡ u
    same_width g f = ap (λ (s : Option (ℕ × ℕ)). (unwrap_or s (0, 0)).0) (sym g ∙ f.1)

right_fits : (ms : List Memory) (es : Shapes) (sc : Scope) (u : ℕ) (r : Right) → AllByRecursion (Sized es) ms → IsRight es sc u r → IsRight es sc u (read_right ms u r)
right_fits ms es sc u (Cell m i) a f = number_fits ms es sc u m i (lasting_cell ms m) refl a f
right_fits ms es sc u _ a f = f

wires_fit : (ms : List Memory) (es : Shapes) (ws : List Wire) (sc : Scope) → AllByRecursion (Sized es) ms → AreWires es sc ws → AreWires es sc (map (read_wire ms) ws)
wires_fit ms es [] sc a f = tt
wires_fit ms es (w ∷ ws) sc a f = (f.0, f.1, f.2, right_fits ms es sc w.width w.right a f.3, wires_fit ms es ws ((w.name, w.width) ∷ sc) a f.4)

sizes : (sc : Scope) (es : Shapes) (ms : List Memory) → AllByRecursion (IsMemory sc) ms → AllByRecursion (λ m. find es m.name ≡ Some (m.width, m.depth)) ms → AllByRecursion (Sized es) ms
sizes sc es [] a b = tt
sizes sc es (m ∷ ms) a b = ((a.0.start, b.0), sizes sc es ms a.1 b.1)

show_read : (n : Net) (k : PortKind) (x : Name) → PortShows n k x → PortShows (read_net n) k x
show_read n kind.Input x h = h
show_read n kind.Register x h = h
show_read n kind.Wire x h = ap (is_among x) (names_read n.memories n.wires) ∙ h

pub read_rules : (n : Net) → IsNetlist n → IsNetlist (read_net n)
read_rules n rules =
    let c = read_net n in
    let names : wire_names c ≡ wire_names n = names_read n.memories n.wires in
    let read : readable c ≡ readable n = readable_read n in
    record {
      module_named = rules.module_named;
      named = rules.named;
      declared_once = rules.declared_once;
      declared = λ x. rules.declared x ∙ sym (ap (λ (ws : List Name). is_among x (input_names n ++ ws ++ register_names n ++ memory_names n)) names);
      registers_in_order = rules.registers_in_order;
      memories_in_order = rules.memories_in_order;
      ports_first = rules.ports_first;
      ports_show = all_follow (λ (p : Port). PortShows n p.kind p.name) (λ p. PortShows c p.kind p.name) n.ports (λ p. show_read n p.kind p.name) rules.ports_show;
      inputs_are_ports = rules.inputs_are_ports;
      values = rules.values;
      memory_shapes = rules.memory_shapes;
      assigns = wires_fit n.memories (shapes n) n.wires (first_readable n)
          (sizes (readable n) (shapes n) n.memories rules.writes (all_found n.memories rules.memory_shapes)) rules.assigns;
      nexts = subst (λ (sc : Scope). AllByRecursion (IsRegister sc) n.registers) (sym read) rules.nexts;
      writes = subst (λ (sc : Scope). AllByRecursion (IsMemory sc) n.memories) (sym read) rules.writes;
    }

-- its runs are those of the given one

begins_read : (n : Net) (p : Option Valuation) (v : Valuation) → Begins n p v → Begins (read_net n) p v
begins_read n None v b = b
begins_read n (Some p) v b = b

cycle_read : (n : Net) (p : Option Valuation) (xs : List ℕ) (v : Valuation) → LastsBefore n.memories p → IsCycle n p xs v → IsCycle (read_net n) p xs v
cycle_read n p xs v l c =
    record {
      begins = begins_read n p v c.begins;
      given = c.given;
      valuation = record {
        within = record {
          value = λ x u h. c.valuation.within.value x u (ap (λ (sc : Scope). find sc x) (sym (readable_read n)) ∙ h);
          cell = c.valuation.within.cell;
        };
        equations = holds_widths (λ x. sym (width_read n x)) (holds_read (width_of n) v n.memories (lasts n p v l c.begins) n.wires c.valuation.equations);
      };
    }
  where
    holds_widths : ((x : Name) → width_of n x ≡ width_of (read_net n) x) → Holds (width_of n) v (map (read_wire n.memories) n.wires)
        → Holds (width_of (read_net n)) v (map (read_wire n.memories) n.wires)
    holds_widths e h = subst (λ (sc : Scope). Holds (λ x. unwrap_or (find sc x) 0) v (map (read_wire n.memories) n.wires)) (sym (readable_read n)) h

run_read : (n : Net) (xss : List (List ℕ)) (p : Option Valuation) (vs : List Valuation) → LastsBefore n.memories p → IsRunAfter n p xss vs → IsRunAfter (read_net n) p xss vs
run_read n [] p [] l r = tt
run_read n [] p (v ∷ vs) l r = absurd r
run_read n (xs ∷ xss) p [] l r = absurd r
run_read n (xs ∷ xss) p (v ∷ vs) l r = (cycle_read n p xs v l r.0, run_read n xss (Some v) vs (lasts n p v l r.0.begins) r.1)

-- the same is seen

abbrev Found : Scope → Name → Type 0
Found sc x = (u : ℕ) × (find sc x ≡ Some u)

first_found : (n : Net) → IsNetlist n → (x : Name) → Found (first_readable n) x → Found (readable n) x
first_found n rules x f = (f.0, readable_kept (shapes n) n.wires (first_readable n) rules.assigns x f.0 f.1)

port_found : (n : Net) → IsNetlist n → (k : PortKind) (x : Name) → PortShows n k x → Found (readable n) x
port_found n rules kind.Input x h = first_found n rules x (input_found n x h)
port_found n rules kind.Register x h = first_found n rules x (register_found n x h)
port_found n rules kind.Wire x h =
    among_each (Found (readable n)) (names_of n.wires)
    (map_of_all (Found (readable n)) (λ (w : Wire). w.name) n.wires
    (all_follow (λ (w : Wire). find (readable n) w.name ≡ Some w.width) (λ w. Found (readable n) w.name) n.wires (λ w e. (w.width, e))
    (found_each (shapes n) n.wires (first_readable n) rules.assigns))) x h

shows_read : (n : Net) → IsNetlist n → (v w : Valuation) → AreSame (read_net n) v w → ShowsAlike n (read_net n) v w
shows_read n rules v w s =
    let c = read_net n in
    let k = read_rules n rules in
    let o = same_seen c k v w s in
    let see : (x : Name) → Found (readable n) x → (observed n v).value x ≡ (observed c w).value x =
    λ x f. o.value x f.0 (ap (λ (sc : Scope). find sc x) (readable_read n) ∙ f.1) in
    record {
      ports = all_ports n rules (λ x. (observed n v).value x ≡ (observed c w).value x) (λ j x p h. see x (port_found n rules j x h));
      registers = all_of_map (λ x. (observed n v).value x ≡ (observed c w).value x) (λ (r : Register). r.name) n.registers
          (each_among (λ x. (observed n v).value x ≡ (observed c w).value x) (register_names n) (λ x h. see x (first_found n rules x (register_found n x h))));
      memories = memories_seen (λ x. (i : ℕ) → (observed n v).cell x i ≡ (observed c w).cell x i) (shapes n) (λ x u h i. o.cell x u h i) n.memories
          (all_found n.memories rules.memory_shapes);
    }

all_shown : (n : Net) → IsNetlist n → (vs ws : List Valuation) → AllZip (AreSame (read_net n)) vs ws → AllZip (ShowsAlike n (read_net n)) vs ws
all_shown n rules [] [] s = tt
all_shown n rules [] (w ∷ ws) s = absurd s
all_shown n rules (v ∷ vs) [] s = absurd s
all_shown n rules (v ∷ vs) (w ∷ ws) s = (shows_read n rules v w s.0, all_shown n rules vs ws s.1)

pub read_alike : (n : Net) → IsNetlist n → RunsAlike n (read_net n)
read_alike n rules = λ xss vs ws fit a r.
    all_shown n rules vs ws (run_same (read_net n) (read_rules n rules) xss None None vs ws tt (run_read n xss None vs tt a) r)

pub read_declares : (n : Net) → IsNetlist n → DeclaresAlike n (read_net n)
read_declares n rules =
    record {
      module_name = refl;
      ports = refl;
      inputs = refl;
      registers = refl;
      memories = refl;
      widths = all_ports n rules (λ x. width_of (read_net n) x ≡ width_of n x) (λ k x p h. width_read n x);
    }

-- no more wires are calculated, and as many are ports

number_copies : (u : ℕ) (r : Right) (o : Option ℕ) → is_copy r ≡ true → is_copy (number_or u r o) ≡ true
number_copies u r None h = h
number_copies u r (Some k) h = refl

read_copies : (ms : List Memory) (u : ℕ) (r : Right) → is_copy r ≡ true → is_copy (read_right ms u r) ≡ true
read_copies ms u (Cell m i) h = number_copies u (Cell m i) (lasting_cell ms m) h
read_copies ms u _ h = h

read_count : (ms : List Memory) (ws : List Wire) → length (calculated (map (read_wire ms) ws)) ≤ length (calculated ws)
read_count ms [] = omega arith
read_count ms (w ∷ ws) =
    let r = read_count ms ws in
    elim (cases_Bool (is_copy w.right)) [
      | inl t ↦ let c = read_copies ms w.width w.right t in rw (t, c) r
      | inr f ↦ elim (cases_Bool (is_copy (read_right ms w.width w.right))) [ inl t ↦ rw (f, t) (omega (arith, r)) | inr g ↦ rw (f, g) (omega (arith, r)) ]
    ]

shown_count : (ms : List Memory) (ps : List Name) (ws : List Wire)
    → length (filter (λ w. is_among w.name ps) (map (read_wire ms) ws)) ≡ length (filter (λ w. is_among w.name ps) ws)
shown_count ms ps [] = refl
shown_count ms ps (w ∷ ws) =
    let r = shown_count ms ps ws in
    elim (cases_Bool (is_among w.name ps)) [ inl t ↦ rw t (omega (arith, r)) | inr f ↦ rw f r ]

pub read_few : (n : Net) → length (calculated (read_net n).wires) + length (shown_wires (read_net n)) ≤ length (calculated n.wires) + length (shown_wires n)
read_few n =
    let a = read_count n.memories n.wires in
    let b = shown_count n.memories (port_names n) n.wires in
    omega (arith, a, b)
