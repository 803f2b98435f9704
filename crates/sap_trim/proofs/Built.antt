-- The netlist of a walk's wires is a netlist.
use Rattle.sap_lemmas.proofs.Common.{◌≡◌, ℕ, ◌||◌, ◌&&◌, List, [], ◌∷◌, ◌++◌, map, filter, Some, Bool, true, false, sym, ap, ap₂, ◌∙◌, subst, refl, inl, inr, arith, bytes_eq, AllByRecursion, cases_Bool, and_parts, or_parts, or_true, all_append, all_filter, all_follow, map_of_all, bytes_eq_apart_back, append-nil as append_nothing}
use Rattle.sap_net.proofs.RulesLemmas.{readable_both, readable_kept, wires_both, wires_distinct, Grows, operand_grows}
use Rattle.sap_net.proofs.NamesLemmas.{among_behind, among_front, distinct_both, each_among, filter_among, filter_distinct}
use Rattle.sap_maps.specs.Prelude.{Name, Scope, find}
use Rattle.sap_maps.proofs.Scopes.{found_behind}
use Rattle.sap_net.specs.Prelude.{is_name, is_among, AreDistinct, Net, Shapes, IsOperand, AreWires, readable_after, IsRegister, IsMemory, input_names, wire_names, register_names, memory_names, first_readable, readable, shapes, is_input, PortShows, IsNetlist, names_of}
use Rattle.sap_net.specs.declared.parts.PortKind.{PortKind}
use Rattle.sap_net.specs.declared.parts.Port.{Port}
use Rattle.sap_net.specs.declared.parts.Register.{Register}
use Rattle.sap_net.specs.declared.parts.Memory.{Memory}
use Rattle.sap_net.specs.declared.parts.Operand.{Operand}
use Rattle.sap_net.specs.declared.parts.Wire.{Wire}
use Rattle.sap_net.specs.declared.parts.PortKind.TheVariants as kind
use Rattle.sap_fold.specs.Gives.{Numbers}
use Rattle.sap_trim.specs.Names.{port_names, lasting_names, shown_wires}
use Rattle.sap_trim.specs.Replaced.{Stands, standing, standing_operand}
use Rattle.sap_trim.specs.Walked.{State}
use Rattle.sap_trim.specs.Built.{wire_of, register_of, memory_of, built}
use Rattle.sap_share.proofs.Helpers.{helper_is_name}
use Rattle.sap_fold.proofs.Lists.{or_elim, none_among, filter_append, filter_none, filter_same, filter_within}
use Rattle.sap_net.proofs.NamesLemmas.{among_each}
use Rattle.sap_trim.proofs.Declared.{IsNewWire, each_new, filter_holds, names_filter, names_append, declared_names, ports_in_front}
use Rattle.sap_trim.proofs.Replaced.{Finds, name_fits, operand_fits}
use Rattle.sap_fold.proofs.Provided as wires
use Rattle.sap_fold.proofs.Provided.{new_behind}
use Rattle.sap_trim.proofs.Follows.{Follows}

-- What ports, registers and memories of a netlist read is in a scope.
pub record Covers (n : Net) (so : Scope) : Type 0 where
  pub nexts : AllByRecursion (IsRegister so) n.registers
  pub writes : AllByRecursion (IsMemory so) n.memories
  pub shown : AllByRecursion (λ w. find so w.name ≡ Some w.width) (shown_wires n)

-- parts of the same names

pub registers_named : (e : Stands) (rs : List Register) → map (λ r. r.name) (map (register_of e) rs) ≡ map (λ r. r.name) rs
registers_named e [] = refl
registers_named e (r ∷ rs) = ap (λ (ns : List Name). r.name ∷ ns) (registers_named e rs)

pub memories_named : (e : Stands) (ms : List Memory) → map (λ m. m.name) (map (memory_of e) ms) ≡ map (λ m. m.name) ms
memories_named e [] = refl
memories_named e (m ∷ ms) = ap (λ (ns : List Name). m.name ∷ ns) (memories_named e ms)

pub shown_named : (e : Stands) (ws : List Wire) → names_of (map (wire_of e) ws) ≡ names_of ws
shown_named e [] = refl
shown_named e (w ∷ ws) = ap (λ (ns : List Name). w.name ∷ ns) (shown_named e ws)

registers_wide : (e : Stands) (rs : List Register) → map {B = Name × ℕ} (λ r. (r.name, r.width)) (map (register_of e) rs) ≡ map (λ r. (r.name, r.width)) rs
registers_wide e [] = refl
registers_wide e (r ∷ rs) = ap (λ (ns : Scope). (r.name, r.width) ∷ ns) (registers_wide e rs)

memories_wide : (e : Stands) (ms : List Memory) → map {B = Name × (ℕ × ℕ)} (λ m. (m.name, (m.width, m.depth))) (map (memory_of e) ms) ≡ map (λ m. (m.name, (m.width, m.depth))) ms
memories_wide e [] = refl
memories_wide e (m ∷ ms) = ap (λ (ns : Shapes). (m.name, (m.width, m.depth)) ∷ ns) (memories_wide e ms)

pub built_first : (n : Net) (ws : List Wire) (e : Stands) → first_readable (built n ws e) ≡ first_readable n
built_first n ws e = ap (λ (sc : Scope). map (λ i. (i.name, i.width)) n.inputs ++ sc) (registers_wide e n.registers)

pub built_shapes : (n : Net) (ws : List Wire) (e : Stands) → shapes (built n ws e) ≡ shapes n
built_shapes n ws e = memories_wide e n.memories

-- the wires

-- a wire's name that none of those behind it has
name_apart : (n m : Name) → is_among n (m ∷ []) ≡ false → bytes_eq n m ≡ false
name_apart n m h = (or_parts (bytes_eq n m) false h).0

shown_new : (ms : Shapes) (w : Wire) (sd : Scope) (xs : List Wire) → is_among w.name (names_of xs) ≡ false
    → AllByRecursion (IsNewWire ms sd) xs → AllByRecursion (IsNewWire ms ((w.name, w.width) ∷ sd)) xs
shown_new ms w sd [] d a = tt
shown_new ms w sd (x ∷ xs) d a =
    let r = or_parts (bytes_eq w.name x.name) (is_among w.name (names_of xs)) d in
    let f = r.0 in
    ((a.0.0, rw f a.0.1, a.0.2), shown_new ms w sd xs r.1 a.1)

shown_fit : (ms : Shapes) (e : Stands) (so sc : Scope) → Finds so sc e → (xs : List Wire) (sd : Scope) → Grows sc sd
    → AllByRecursion (IsNewWire ms sd) xs → AllByRecursion (λ w. find so w.name ≡ Some w.width) xs → AreDistinct (names_of xs) → AreWires ms sd (map (wire_of e) xs)
shown_fit ms e so sc f [] sd g a b d = tt
shown_fit ms e so sc f (w ∷ xs) sd g a b d =
    let behind : AllByRecursion (IsNewWire ms ((w.name, w.width) ∷ sd)) xs = shown_new ms w sd xs d.0 a.1 in (
      a.0.0,
      a.0.1,
      a.0.2,
      operand_grows sc sd g w.width (standing e w.name) (name_fits so sc e f w.name w.width b.0),
      shown_fit ms e so sc f xs ((w.name, w.width) ∷ sd) (λ x u h. found_behind sd w.name w.width a.0.1 x u (g x u h)) behind b.1 d.1,
    )

names_apart : (hs : List Wire) (n : Name) → is_among n (names_of hs) ≡ false → AllByRecursion (λ w. bytes_eq w.name n ≡ false) hs
names_apart [] n h = tt
names_apart (w ∷ ws) n h =
    let r = none_among n (w.name ∷ []) (names_of ws) h in
    let q : bytes_eq n w.name ≡ false = name_apart n w.name r.0 in
    (bytes_eq_apart_back n w.name q, names_apart ws n r.1)

pub untaken : (taken : Name → Bool) (ws : List Wire) (next : ℕ) → Numbers taken ws next → AllByRecursion (λ x. taken x ≡ false) (names_of ws)
untaken taken ws next n = map_of_all (λ x. taken x ≡ false) (λ (w : Wire). w.name) ws (all_follow _ (λ (w : Wire). taken w.name ≡ false) ws (λ w h. h.3) n.each)

helpers_named : (taken : Name → Bool) (ws : List Wire) (next : ℕ) → Numbers taken ws next → AllByRecursion (λ x. is_name x ≡ true) (names_of ws)
helpers_named taken ws next n =
    map_of_all (λ x. is_name x ≡ true) (λ (w : Wire). w.name) ws
    (all_follow _ (λ (w : Wire). is_name w.name ≡ true) ws (λ w h. subst (λ (x : Name). is_name x ≡ true) (sym h.2) (helper_is_name h.0 (omega (arith, h.1, n.small)))) n.each)

-- a name that is taken is none of untaken ones
apart_names : (taken : Name → Bool) (ns : List Name) → AllByRecursion (λ x. taken x ≡ false) ns → (x : Name) → taken x ≡ true → is_among x ns ≡ false
apart_names taken ns a x t =
    elim (cases_Bool (is_among x ns)) [
      | inl h ↦ absurd (let f = among_each (λ y. taken y ≡ false) ns a x h in cc)
      | inr f ↦ f
    ]

not_among : (x : Name) (ns : List Name) (kept : Bool) → kept ≡ false → (is_among x ns ≡ true → kept ≡ true) → is_among x ns ≡ false
not_among x ns kept f h =
    elim (cases_Bool (is_among x ns)) [ inl t ↦ absurd (let e = h t in cc) | inr g ↦ g ]

-- port wires are new behind helping wires
still_new : (ms : Shapes) (sc : Scope) (hs : List Wire) (taken : Name → Bool) (xs : List Wire)
    → AllByRecursion (λ x. taken x ≡ false) (names_of hs) → AllByRecursion (λ w. taken w.name ≡ true) xs
    → AllByRecursion (IsNewWire ms sc) xs → AllByRecursion (IsNewWire ms (readable_after sc hs)) xs
still_new ms sc hs taken [] f a b = tt
still_new ms sc hs taken (x ∷ xs) f a b =
    ((b.0.0, new_behind hs sc x.name b.0.1 (names_apart hs x.name (apart_names taken (names_of hs) f x.name a.0)), b.0.2), still_new ms sc hs taken xs f a.1 b.1)

port_taken : (n : Net) (taken : Name → Bool) → ((x : Name) → taken x ≡ is_among x (lasting_names n)) → (xs : List Wire)
    → AllByRecursion (λ w. is_among w.name (port_names n) ≡ true) xs → AllByRecursion (λ w. taken w.name ≡ true) xs
port_taken n taken is xs a =
    all_follow (λ w. is_among w.name (port_names n) ≡ true) (λ w. taken w.name ≡ true) xs (λ w h. is w.name
    ∙ among_front w.name (port_names n) (register_names n ++ memory_names n) h) a

among_some : (f : Port → Bool) (ps : List Port) (x : Name) → is_among x (map (λ p. p.name) (filter f ps)) ≡ true → is_among x (map (λ p. p.name) ps) ≡ true
among_some f [] x h = h
among_some f (p ∷ ps) x h =
    elim (cases_Bool (f p)) [
      | inl t ↦
          let g : (bytes_eq x p.name || is_among x (map (λ p. p.name) (filter f ps))) ≡ true = rw t at h in
          or_elim (bytes_eq x p.name) (is_among x (map (λ p. p.name) (filter f ps))) (is_among x (map (λ p. p.name) (p ∷ ps)) ≡ true) (λ q. rw q refl)
          (λ q. ap (λ (b : Bool). bytes_eq x p.name || b) (among_some f ps x q) ∙ or_true (bytes_eq x p.name)) g
      | inr e ↦ let g = among_some f ps x (rw e at h) in ap (λ (b : Bool). bytes_eq x p.name || b) g ∙ or_true (bytes_eq x p.name)
    ]

-- ports

kinds_shown : (n : Net) (ws : List Wire) (e : Stands) → (k : PortKind) (x : Name) → is_among x (port_names n) ≡ true → PortShows n k x → PortShows (built n ws e) k x
kinds_shown n ws e kind.Input x p h = h
kinds_shown n ws e kind.Register x p h = subst (λ (ns : List Name). is_among x ns ≡ true) (sym (registers_named e n.registers)) h
kinds_shown n ws e kind.Wire x p h =
    let shown : is_among x (names_of (shown_wires n)) ≡ true =
    ap (is_among x) (names_filter (λ y. is_among y (port_names n)) n.wires) ∙ filter_among (λ y. is_among y (port_names n)) (names_of n.wires) x ∙ rw (h, p) refl in
    subst (λ (ns : List Name). is_among x ns ≡ true)
    (sym (names_append ws (map (wire_of e) (shown_wires n)) ∙ ap (λ (ns : List Name). names_of ws ++ ns) (shown_named e (shown_wires n))))
    (among_behind x (names_of ws) (names_of (shown_wires n)) shown)

ports_shown : (n : Net) (ws : List Wire) (e : Stands) (ps : List Port)
    → AllByRecursion (λ x. is_among x (port_names n) ≡ true) (map (λ p. p.name) ps) → AllByRecursion (λ p. PortShows n p.kind p.name) ps
    → AllByRecursion (λ p. PortShows (built n ws e) p.kind p.name) ps
ports_shown n ws e [] a b = tt
ports_shown n ws e (p ∷ ps) a b = (kinds_shown n ws e p.kind p.name a.0 b.0, ports_shown n ws e ps a.1 b.1)

-- registers and memories

nexts_fit : (e : Stands) (so sc sd : Scope) → Finds so sc e → Grows sc sd → (rs : List Register) → AllByRecursion (IsRegister so) rs
    → AllByRecursion (IsRegister sd) (map (register_of e) rs)
nexts_fit e so sc sd f g [] a = tt
nexts_fit e so sc sd f g (r ∷ rs) a =
    ((a.0.0, operand_grows sc sd g r.width (standing_operand e r.next) (operand_fits so sc e f r.width r.next a.0.1)), nexts_fit e so sc sd f g rs a.1)

writes_fit : (e : Stands) (so sc sd : Scope) → Finds so sc e → Grows sc sd → (ms : List Memory) → AllByRecursion (IsMemory so) ms
    → AllByRecursion (IsMemory sd) (map (memory_of e) ms)
writes_fit e so sc sd f g [] a = tt
writes_fit e so sc sd f g (m ∷ ms) a =
    let put = λ (u : ℕ) (o : Operand) (h : IsOperand so u o). operand_grows sc sd g u (standing_operand e o) (operand_fits so sc e f u o h) in (
      record {
        bits = a.0.bits;
        depth = a.0.depth;
        start = a.0.start;
        enable = put 1 m.enable a.0.enable;
        index = put a.0.bits m.index a.0.index;
        value = put m.width m.value a.0.value;
      },
      writes_fit e so sc sd f g ms a.1,
    )

pub inputs_are_ports : (n : Net) → IsNetlist n → (x : Name) → is_among x (input_names n) ≡ true → is_among x (port_names n) ≡ true
inputs_are_ports n rules x h =
    among_some (λ p. is_input p.kind) n.ports x (subst (λ (ns : List Name). is_among x ns ≡ true) (sym rules.inputs_are_ports) h)

pub shown_among : (n : Net) (x : Name) → is_among x (names_of (shown_wires n)) ≡ (is_among x (names_of n.wires) && is_among x (port_names n))
shown_among n x =
    ap (is_among x) (names_filter (λ y. is_among y (port_names n)) n.wires) ∙ filter_among (λ y. is_among y (port_names n)) (names_of n.wires) x

-- What is known of a walk over wires of a netlist.
pub record Walks (n : Net) (taken : Name → Bool) (so : Scope) (s : State) : Type 0 where
  pub rules : IsNetlist n
  pub taken_is : (x : Name) → taken x ≡ is_among x (lasting_names n)
  pub follows : Follows taken (shapes n) so (first_readable n) s
  pub covers : Covers n so

-- the wires of the new netlist, over the first names
pub built_wires : (n : Net) (taken : Name → Bool) (so : Scope) (s : State) → Walks n taken so s
    → AreWires (shapes n) (first_readable n) (s.wires ++ map (wire_of s.stands) (shown_wires n))
built_wires n taken so s k =
    let sc = first_readable n in
    let f = k.follows in
    let P = port_names n in
    let shown = shown_wires n in
    let ports : AllByRecursion (λ w. is_among w.name P ≡ true) shown = filter_holds (λ w. is_among w.name P) n.wires in
    let first : AllByRecursion (IsNewWire (shapes n) sc) shown =
    all_filter (IsNewWire (shapes n) sc) (λ w. is_among w.name P) n.wires (each_new (shapes n) n.wires sc k.rules.assigns) in
    let new : AllByRecursion (IsNewWire (shapes n) (readable_after sc s.wires)) shown =
    still_new (shapes n) sc s.wires taken shown (untaken taken s.wires s.next f.named) (port_taken n taken k.taken_is shown ports) first in
    let distinct : AreDistinct (names_of shown) =
    subst AreDistinct (sym (names_filter (λ y. is_among y P) n.wires))
    (filter_distinct (λ y. is_among y P) (names_of n.wires) (wires_distinct (shapes n) n.wires sc k.rules.assigns)) in
    wires_both (shapes n) s.wires (map (wire_of s.stands) shown) sc f.fits
    (shown_fit (shapes n) s.stands so (readable_after sc s.wires) f.finds shown (readable_after sc s.wires) (λ x u h. h) new k.covers.shown distinct)

pub built_grows : (n : Net) (taken : Name → Bool) (so : Scope) (s : State) → Walks n taken so s
    → Grows (readable_after (first_readable n) s.wires) (readable_after (first_readable n) (s.wires ++ map (wire_of s.stands) (shown_wires n)))
built_grows n taken so s k =
    let sc = first_readable n in
    let outs = map (wire_of s.stands) (shown_wires n) in
    let all = wires.wires_first (shapes n) s.wires outs sc (built_wires n taken so s k) in
    λ x u h. subst (λ (sd : Scope). find sd x ≡ Some u) (sym (readable_both s.wires outs sc)) (readable_kept (shapes n) outs (readable_after sc s.wires) all.1 x u h)

pub built_rules : (n : Net) (taken : Name → Bool) (so : Scope) (s : State) → Walks n taken so s → IsNetlist (built n s.wires s.stands)
built_rules n taken so s k =
    let rules = k.rules in
    let B = built n s.wires s.stands in
    let P = port_names n in
    let R = register_names n in
    let M = memory_names n in
    let L = lasting_names n in
    let H = names_of s.wires in
    let shown = shown_wires n in
    let outs = map (wire_of s.stands) shown in
    let kept = λ (x : Name). is_among x L in
    let sc = first_readable n in
    let f = k.follows in
    let er = registers_named s.stands n.registers in
    let em = memories_named s.stands n.memories in
    let ew : wire_names B ≡ H ++ names_of shown = names_append s.wires outs ∙ ap (λ (ns : List Name). H ++ ns) (shown_named s.stands shown) in
    let free = untaken taken s.wires s.next f.named in
    let apart : (x : Name) → kept x ≡ true → is_among x H ≡ false = λ x h. apart_names taken H free x (k.taken_is x ∙ h) in
    let none_of : (ns : List Name) → ((x : Name) → is_among x ns ≡ true → kept x ≡ true) → filter (λ x. is_among x ns) H ≡ [] =
    λ ns h. filter_none (λ x. is_among x ns) H
    (all_follow (λ x. taken x ≡ false) (λ x. is_among x ns ≡ false) H (λ x t. not_among x ns (kept x) (sym (k.taken_is x) ∙ t) (h x)) free) in
    let in_r : (x : Name) → is_among x R ≡ true → kept x ≡ true = λ x h. among_behind x P (R ++ M) (among_front x R M h) in
    let in_m : (x : Name) → is_among x M ≡ true → kept x ≡ true = λ x h. among_behind x P (R ++ M) (among_behind x R M h) in
    let in_p : (x : Name) → is_among x P ≡ true → kept x ≡ true = λ x h. among_front x P (R ++ M) h in
    let ordered : (ns : List Name) → ((x : Name) → is_among x ns ≡ true → kept x ≡ true)
    → filter (λ x. is_among x ns) (filter kept n.names ++ H) ≡ filter (λ x. is_among x ns) n.names =
    λ ns h. filter_append (λ x. is_among x ns) (filter kept n.names) H
    ∙ ap₂ (λ (a b : List Name). a ++ b) (filter_within kept (λ x. is_among x ns) n.names h) (none_of ns h) ∙ append_nothing _ in
    let grows = built_grows n taken so s k in
    let sd = readable_after sc (s.wires ++ outs) in
    let first = built_first n s.wires s.stands in
    let shape = built_shapes n s.wires s.stands in
    let readable_is : readable B ≡ sd = ap (λ (e : Scope). readable_after e (s.wires ++ outs)) first in
    record {
      module_named = rules.module_named;
      named = all_append (λ x. is_name x ≡ true) (filter kept n.names) H (all_filter (λ x. is_name x ≡ true) kept n.names rules.named) (helpers_named taken s.wires s.next f.named);
      declared_once = distinct_both (filter kept n.names) H (filter_distinct kept n.names rules.declared_once) (wires_distinct (shapes n) s.wires sc f.fits)
          (λ x h. apart x ((and_parts (is_among x n.names) (kept x) (sym (filter_among kept n.names x) ∙ h)).1));
      declared = λ x.
          declared_names (input_names n) (wire_names n) R M P n.names H (names_of shown) rules.declared (inputs_are_ports n rules) (shown_among n) x
          ∙ sym (ap₂ (λ (a b : List Name). is_among x (input_names n ++ a ++ b ++ memory_names B)) ew er
          ∙ ap (λ (c : List Name). is_among x (input_names n ++ (H ++ names_of shown) ++ R ++ c)) em);
      registers_in_order = filter_same (λ x. is_among x (register_names B)) (λ x. is_among x R) B.names (λ x. ap (is_among x) er)
          ∙ ordered R in_r ∙ rules.registers_in_order ∙ sym er;
      memories_in_order = filter_same (λ x. is_among x (memory_names B)) (λ x. is_among x M) B.names (λ x. ap (is_among x) em) ∙ ordered M in_m ∙ rules.memories_in_order ∙ sym em;
      ports_first = ports_in_front n.ports n.names H kept rules.ports_first (each_among (λ x. kept x ≡ true) P in_p);
      ports_show = ports_shown n s.wires s.stands n.ports (each_among (λ x. is_among x P ≡ true) P (λ x h. h)) rules.ports_show;
      inputs_are_ports = rules.inputs_are_ports;
      values = rw (shape, first) rules.values;
      memory_shapes = rw shape rules.memory_shapes;
      assigns = rw (shape, first) (built_wires n taken so s k);
      nexts = rw first (nexts_fit s.stands so (readable_after sc s.wires) sd f.finds grows n.registers k.covers.nexts);
      writes = rw first (writes_fit s.stands so (readable_after sc s.wires) sd f.finds grows n.memories k.covers.writes);
    }
