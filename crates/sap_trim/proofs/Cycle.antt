-- The cycles of the new netlist have the numbers of those of the given one.
use Rattle.sap_lemmas.proofs.Common.{◌≡◌, ℕ, List, [], ◌∷◌, ◌++◌, map, Option, Some, None, Bool, true, sym, ap, ◌∙◌, subst, refl, inl, inr, bytes_eq, AllByRecursion, AllZip, cases_Bool, all_of_map, all_second, map_of_all}
use Rattle.sap_lemmas.proofs.Everywhere.{all_equal, all_equal_at}
use Rattle.sap_net.proofs.RulesLemmas.{readable_kept, Grows}
use Rattle.sap_net.proofs.NamesLemmas.{each_among, found_of, not_found}
use Rattle.sap_maps.proofs.ScopeLemmas.{found_first, found_second}
use Rattle.sap_maps.specs.Prelude.{Name, Valuation, Scope, find, Agree}
use Rattle.sap_maps.proofs.Scopes.{found_here, agree_both}
use Rattle.sap_net.specs.Prelude.{is_among, Net, Shapes, AreWires, readable_after, IsRegister, IsMemory, operand_value, Holds, input_names, register_names, first_readable, readable, shapes, width_of, PortShows, IsNetlist, names_of, IsWithin, written, IsCycle, IsRunAfter, value_after, cell_after, observed, WidthsAre}
use Rattle.sap_net.specs.declared.parts.PortKind.{PortKind}
use Rattle.sap_net.specs.declared.parts.Port.{Port}
use Rattle.sap_net.specs.declared.parts.Input.{Input}
use Rattle.sap_net.specs.declared.parts.Register.{Register}
use Rattle.sap_net.specs.declared.parts.Memory.{Memory}
use Rattle.sap_net.specs.declared.parts.Wire.{Wire}
use Rattle.sap_net.specs.declared.parts.PortKind.TheVariants as kind
use Rattle.sap_net.proofs.Settle.{CellsAgree}
use Rattle.sap_net.proofs.Same.{AreFound, all_found, inputs_agree, registers_agree, cells_agree}
use Rattle.sap_net.proofs.Within.{widths_are}
use Rattle.sap_trim.specs.Names.{port_names, shown_wires}
use Rattle.sap_trim.specs.Alike.{DeclaresAlike, ShowsAlike, RunsAlike}
use Rattle.sap_trim.specs.Replaced.{Stands, standing_operand}
use Rattle.sap_fold.specs.Equals.{Over}
use Rattle.sap_trim.specs.Walked.{State, Begins, Folds, Walked}
use Rattle.sap_trim.specs.Built.{wire_of, register_of, memory_of, built}
use Rattle.sap_net.proofs.NamesLemmas.{among_each}
use Rattle.sap_trim.proofs.Replaced.{Means, operand_same}
use Rattle.sap_fold.proofs.Provided.{holds_both}
use Rattle.sap_trim.proofs.Follows.{taken_apart, SettledIn, settled_first, settled_next, begins_follow, begins_mean, means_walk}
use Rattle.sap_trim.proofs.Built.{Walks, built_first, built_grows, built_rules, shown_among}

-- What is known once some wires of a netlist have been walked.
pub record Done (n : Net) (taken : Name → Bool) (ws : List Wire) (s t : State) : Type 0 where
  pub walks : Walks n taken (readable_after (first_readable n) ws) t
  pub begins : Begins n s
  pub fits : AreWires (shapes n) (first_readable n) ws
  pub within : Grows (readable_after (first_readable n) ws) (readable n)
  pub holds : (widths : Name → ℕ) (v : Valuation) → Holds widths v n.wires → Holds widths v ws
  pub walked : Walked (Folds taken) s ws t

-- equal numbers of a cycle
pub record Same (n : Net) (so : Scope) (e : Stands) (v w : Valuation) : Type 0 where
  pub first : Agree (first_readable n) v w
  pub cells : CellsAgree (shapes n) v w
  pub means : Means so e v w
  pub settled : SettledIn n.wires n.registers v
  pub equations : Holds (width_of n) v n.wires

abbrev pub SameBefore : Net → Scope → Stands → Option Valuation → Option Valuation → Type 0
SameBefore n so e None None = Unit {0}
SameBefore n so e None (Some q) = ⊥
SameBefore n so e (Some p) None = ⊥
SameBefore n so e (Some p) (Some q) = Same n so e p q

nexts_same : (so : Scope) (e : Stands) (p q : Valuation) → Means so e p q → (rs : List Register) → AllByRecursion (IsRegister so) rs
    → AllByRecursion (λ r. operand_value p r.next ≡ operand_value q (standing_operand e r.next)) rs
nexts_same so e p q m [] a = tt
nexts_same so e p q m (r ∷ rs) a = (operand_same so e p q m r.width r.next a.0.1, nexts_same so e p q m rs a.1)

written_same : (ms : Shapes) (so : Scope) (e : Stands) (p q : Valuation) → Means so e p q → CellsAgree ms p q → (m : Memory) → IsMemory so m
    → find ms m.name ≡ Some (m.width, m.depth) → (i : ℕ) → written p m i ≡ written q (memory_of e m) i
written_same ms so e p q k c m rules has i =
    let a = operand_same so e p q k 1 m.enable rules.enable in
    let b = operand_same so e p q k rules.bits m.index rules.index in
    let d = operand_same so e p q k m.width m.value rules.value in
    let f = c m.name _ has i in
    cc

all_written : (ms : Shapes) (so : Scope) (e : Stands) (p q : Valuation) → Means so e p q → CellsAgree ms p q → (xs : List Memory)
    → AllByRecursion (IsMemory so) xs → AreFound ms xs → AllByRecursion (λ m. (i : ℕ) → written p m i ≡ written q (memory_of e m) i) xs
all_written ms so e p q k c [] a f = tt
all_written ms so e p q k c (m ∷ xs) a f = (written_same ms so e p q k c m a.0 f.0, all_written ms so e p q k c xs a.1 f.1)

-- inputs, registers and cells, as a cycle begins
pub record SameFirst (n : Net) (v w : Valuation) : Type 0 where
  pub first : Agree (first_readable n) v w
  pub cells : CellsAgree (shapes n) v w
  pub settled : SettledIn n.wires n.registers v

begins_same : (n : Net) (taken : Name → Bool) (ws : List Wire) (s t : State) → Done n taken ws s t
    → (p q : Option Valuation) (xs : List ℕ) (v w : Valuation) → SameBefore n (readable_after (first_readable n) ws) t.stands p q
    → IsCycle n p xs v → IsCycle (built n t.wires t.stands) q xs w → SameFirst n v w
begins_same n taken ws s t d None None xs v w b c k =
    let e = t.stands in
    record {
      first = agree_both _ _ v w (inputs_agree n.inputs xs v w c.given k.given)
          (registers_agree (λ r. r.start) (λ r. r.start) n.registers v w c.begins.0
          (all_of_map (λ r. w.value r.name ≡ r.start) (register_of e) n.registers k.begins.0) (all_equal n.registers (λ r. r.start)));
      cells = cells_agree (λ m i. m.start) (λ m i. m.start) n.memories v w c.begins.1
          (all_of_map (λ m. (i : ℕ) → w.cell m.name i ≡ m.start) (memory_of e) n.memories k.begins.1) (all_equal_at n.memories (λ m i. m.start));
      settled = settled_first n.wires v n.registers c.begins.0;
    }
begins_same n taken ws s t d None (Some q) xs v w b c k = absurd b
begins_same n taken ws s t d (Some p) None xs v w b c k = absurd b
begins_same n taken ws s t d (Some p) (Some q) xs v w b c k =
    let e = t.stands in
    let so = readable_after (first_readable n) ws in
    record {
      first = agree_both _ _ v w (inputs_agree n.inputs xs v w c.given k.given)
          (registers_agree (λ r. operand_value p r.next) (λ r. operand_value q (standing_operand e r.next)) n.registers v w c.begins.0
          (all_of_map (λ r. w.value r.name ≡ operand_value q r.next) (register_of e) n.registers k.begins.0) (nexts_same so e p q b.means n.registers d.walks.covers.nexts));
      cells = cells_agree (written p) (λ m i. written q (memory_of e m) i) n.memories v w c.begins.1
          (all_of_map (λ m. (i : ℕ) → w.cell m.name i ≡ written q m i) (memory_of e) n.memories k.begins.1)
          (all_written (shapes n) so e p q b.means b.cells n.memories d.walks.covers.writes (all_found n.memories d.walks.rules.memory_shapes));
      settled = settled_next n.wires (width_of n) p v n.registers b.equations b.settled c.begins.0;
    }

-- the new wires in a cycle
over_wires : (n : Net) (taken : Name → Bool) (ws : List Wire) (s t : State) → Done n taken ws s t → (w : Valuation)
    → IsWithin (built n t.wires t.stands) w → Holds (width_of (built n t.wires t.stands)) w (built n t.wires t.stands).wires
    → Over (shapes n) (first_readable n) t.wires (width_of (built n t.wires t.stands)) w
over_wires n taken ws s t d w i h =
    let B = built n t.wires t.stands in
    let outs = map (wire_of t.stands) (shown_wires n) in
    let g = built_grows n taken (readable_after (first_readable n) ws) t d.walks in
    let is : readable B ≡ readable_after (first_readable n) (t.wires ++ outs) = ap (λ (sc : Scope). readable_after sc (t.wires ++ outs)) (built_first n t.wires t.stands) in
    let found : (x : Name) (u : ℕ) → find (readable_after (first_readable n) t.wires) x ≡ Some u → find (readable B) x ≡ Some u =
    λ x u f. subst (λ (sc : Scope). find sc x ≡ Some u) (sym is) (g x u f) in
    record {
      wires = d.walks.follows.fits;
      wide = λ x u f. widths_are B x u (found x u f);
      below = λ x u f. i.value x u (found x u f);
      holds = (holds_both (width_of B) w t.wires outs h).0;
    }

pub cycle_same : (n : Net) (taken : Name → Bool) (ws : List Wire) (s t : State) → Done n taken ws s t
    → (p q : Option Valuation) (xs : List ℕ) (v w : Valuation) → SameBefore n (readable_after (first_readable n) ws) t.stands p q
    → IsCycle n p xs v → IsCycle (built n t.wires t.stands) q xs w → Same n (readable_after (first_readable n) ws) t.stands v w
cycle_same n taken ws s t d p q xs v w b c k =
    let f = begins_same n taken ws s t d p q xs v w b c k in
    let sc = first_readable n in
    let apart = taken_apart n d.walks.rules taken d.walks.taken_is in
    let over = over_wires n taken ws s t d w k.valuation.within k.valuation.equations in
    let wide : WidthsAre (readable_after sc ws) (width_of n) = λ x u h. widths_are n x u (d.within x u h) in
    record {
      first = f.first;
      cells = f.cells;
      settled = f.settled;
      equations = c.valuation.equations;
      means = means_walk taken (shapes n) sc (width_of n) (width_of (built n t.wires t.stands)) v w ws sc s t apart
          (begins_follow taken n d.walks.rules s d.begins) (begins_mean n d.walks.rules s v w d.begins f.first f.settled) d.fits wide
          f.cells over (d.holds (width_of n) v c.valuation.equations) d.walked;
    }

-- what is seen

values_seen : (so : Scope) (e : Stands) (v w : Valuation) → Means so e v w → (x : Name) → v.value x ≡ w.value x → (rs : List Register)
    → AllByRecursion (IsRegister so) rs → value_after v x (find (map (λ r. (r.name, r.next)) rs) x)
    ≡ value_after w x (find (map (λ r. (r.name, r.next)) (map (register_of e) rs)) x)
values_seen so e v w m x h [] a = h
values_seen so e v w m x h (r ∷ rs) a =
    elim (cases_Bool (bytes_eq r.name x)) [
      | inl t ↦ rw t (operand_same so e v w m r.width r.next a.0.1)
      | inr f ↦ rw f (values_seen so e v w m x h rs a.1)
    ]

cells_seen : (ms : Shapes) (so : Scope) (e : Stands) (v w : Valuation) → Means so e v w → CellsAgree ms v w → (x : Name) (i : ℕ)
    → v.cell x i ≡ w.cell x i → (xs : List Memory) → AllByRecursion (IsMemory so) xs → AreFound ms xs
    → cell_after v x i (find (map (λ m. (m.name, m)) xs) x) ≡ cell_after w x i (find (map (λ m. (m.name, m)) (map (memory_of e) xs)) x)
cells_seen ms so e v w k c x i h [] a f = h
cells_seen ms so e v w k c x i h (m ∷ xs) a f =
    elim (cases_Bool (bytes_eq m.name x)) [
      | inl t ↦ rw t (written_same ms so e v w k c m a.0 f.0 i)
      | inr g ↦ rw g (cells_seen ms so e v w k c x i h xs a.1 f.1)
    ]

-- inputs and registers are found
pub input_found : (n : Net) (x : Name) → is_among x (input_names n) ≡ true → (u : ℕ) × (find (first_readable n) x ≡ Some u)
input_found n x h =
    let r = found_of (λ (i : Input). i.name) (λ i. i.width) n.inputs x h in
    (r.0, found_first (map (λ i. (i.name, i.width)) n.inputs) (map (λ r. (r.name, r.width)) n.registers) x r.0 r.1)

pub register_found : (n : Net) (x : Name) → is_among x (register_names n) ≡ true → (u : ℕ) × (find (first_readable n) x ≡ Some u)
register_found n x h =
    elim (cases_Bool (is_among x (input_names n))) [
      | inl t ↦ input_found n x t
      | inr f ↦
          let r = found_of (λ (r : Register). r.name) (λ r. r.width) n.registers x h in (
            r.0,
            found_second (map (λ i. (i.name, i.width)) n.inputs) (map (λ r. (r.name, r.width)) n.registers) x
                (not_found (λ (i : Input). i.name) (λ i. i.width) n.inputs x f) ∙ r.1,
          )
    ]

shown_same : (so : Scope) (e : Stands) (ww : Name → ℕ) (v w : Valuation) → Means so e v w → (xs : List Wire)
    → AllByRecursion (λ x. find so x.name ≡ Some x.width) xs → Holds ww w (map (wire_of e) xs) → AllByRecursion (λ x. v.value x.name ≡ w.value x.name) xs
shown_same so e ww v w m [] f h = tt
shown_same so e ww v w m (x ∷ xs) f h = (m x.name x.width f.0 ∙ sym h.0, shown_same so e ww v w m xs f.1 h.1)

port_same : (n : Net) (v w : Valuation) → Agree (first_readable n) v w
    → AllByRecursion (λ x. v.value x ≡ w.value x) (names_of (shown_wires n)) → (k : PortKind) (x : Name) → is_among x (port_names n) ≡ true
    → PortShows n k x → v.value x ≡ w.value x
port_same n v w a s kind.Input x p h = let r = input_found n x h in a x r.0 r.1
port_same n v w a s kind.Register x p h = let r = register_found n x h in a x r.0 r.1
port_same n v w a s kind.Wire x p h =
    among_each (λ y. v.value y ≡ w.value y) (names_of (shown_wires n)) s x (shown_among n x ∙ rw (h, p) refl)

ports_seen : (n : Net) (see : (x : Name) → Type 0)
    → ((k : PortKind) (x : Name) → is_among x (port_names n) ≡ true → PortShows n k x → see x) → (ps : List Port)
    → AllByRecursion (λ x. is_among x (port_names n) ≡ true) (map (λ p. p.name) ps) → AllByRecursion (λ p. PortShows n p.kind p.name) ps → AllByRecursion (λ p. see p.name) ps
ports_seen n see h [] a b = tt
ports_seen n see h (p ∷ ps) a b = (h p.kind p.name a.0 b.0, ports_seen n see h ps a.1 b.1)

pub all_ports : (n : Net) → IsNetlist n → (see : (x : Name) → Type 0)
    → ((k : PortKind) (x : Name) → is_among x (port_names n) ≡ true → PortShows n k x → see x) → AllByRecursion (λ p. see p.name) n.ports
all_ports n rules see h = ports_seen n see h n.ports (each_among (λ x. is_among x (port_names n) ≡ true) (port_names n) (λ x t. t)) rules.ports_show

pub memories_seen : (see : (x : Name) → Type 0) (ms : Shapes) → ((x : Name) (u : ℕ × ℕ) → find ms x ≡ Some u → see x) → (xs : List Memory)
    → AreFound ms xs → AllByRecursion (λ m. see m.name) xs
memories_seen see ms h [] a = tt
memories_seen see ms h (m ∷ xs) a = (h m.name _ a.0, memories_seen see ms h xs a.1)

pub cycle_shows : (n : Net) (taken : Name → Bool) (ws : List Wire) (s t : State) → Done n taken ws s t
    → (q : Option Valuation) (xs : List ℕ) (v w : Valuation) → Same n (readable_after (first_readable n) ws) t.stands v w
    → IsCycle (built n t.wires t.stands) q xs w → ShowsAlike n (built n t.wires t.stands) v w
cycle_shows n taken ws s t d q xs v w same c =
    let so = readable_after (first_readable n) ws in
    let e = t.stands in
    let outs = map (wire_of e) (shown_wires n) in
    let k = d.walks.covers in
    let found = all_found n.memories d.walks.rules.memory_shapes in
    let shown = map_of_all (λ x. v.value x ≡ w.value x) (λ (x : Wire). x.name) (shown_wires n)
    (shown_same so e (width_of (built n t.wires e)) v w same.means (shown_wires n) k.shown (holds_both (width_of (built n t.wires e)) w t.wires outs c.valuation.equations).1) in
    let seen : (x : Name) → v.value x ≡ w.value x → (observed n v).value x ≡ (observed (built n t.wires e) w).value x =
    λ x h. values_seen so e v w same.means x h n.registers k.nexts in
    record {
      ports = all_ports n d.walks.rules (λ x. (observed n v).value x ≡ (observed (built n t.wires e) w).value x) (λ j x p h. seen x (port_same n v w same.first shown j x p h));
      registers = all_of_map (λ x. (observed n v).value x ≡ (observed (built n t.wires e) w).value x) (λ (r : Register). r.name) n.registers
          (each_among (λ x. (observed n v).value x ≡ (observed (built n t.wires e) w).value x) (register_names n) (λ x h. let r =
          register_found n x h in seen x (same.first x r.0 r.1)));
      memories = memories_seen (λ x. (i : ℕ) → (observed n v).cell x i ≡ (observed (built n t.wires e) w).cell x i) (shapes n)
          (λ x u h i. cells_seen (shapes n) so e v w same.means same.cells x i (same.cells x u h i) n.memories k.writes found) n.memories found;
    }

runs_from : (n : Net) (taken : Name → Bool) (ws : List Wire) (s t : State) → Done n taken ws s t
    → (xss : List (List ℕ)) (p q : Option Valuation) (vs us : List Valuation)
    → SameBefore n (readable_after (first_readable n) ws) t.stands p q → IsRunAfter n p xss vs
    → IsRunAfter (built n t.wires t.stands) q xss us → AllZip (ShowsAlike n (built n t.wires t.stands)) vs us
runs_from n taken ws s t d [] p q [] [] b a r = tt
runs_from n taken ws s t d [] p q [] (u ∷ us) b a r = absurd r
runs_from n taken ws s t d [] p q (v ∷ vs) us b a r = absurd a
runs_from n taken ws s t d (xs ∷ xss) p q [] us b a r = absurd a
runs_from n taken ws s t d (xs ∷ xss) p q (v ∷ vs) [] b a r = absurd r
runs_from n taken ws s t d (xs ∷ xss) p q (v ∷ vs) (u ∷ us) b a r =
    let same = cycle_same n taken ws s t d p q xs v u b a.0 r.0 in
    (cycle_shows n taken ws s t d q xs v u same r.0, runs_from n taken ws s t d xss (Some v) (Some u) vs us same a.1 r.1)

pub runs_alike : (n : Net) (taken : Name → Bool) (ws : List Wire) (s t : State) → Done n taken ws s t → RunsAlike n (built n t.wires t.stands)
runs_alike n taken ws s t d = λ xss vs us fit a r. runs_from n taken ws s t d xss None None vs us tt a r

-- declarations

registers_declared : (e : Stands) (rs : List Register)
    → map {B = Name × (ℕ × ℕ)} (λ r. (r.name, (r.width, r.start))) (map (register_of e) rs) ≡ map (λ r. (r.name, (r.width, r.start))) rs
registers_declared e [] = refl
registers_declared e (r ∷ rs) = ap (λ (xs : List (Name × (ℕ × ℕ))). (r.name, (r.width, r.start)) ∷ xs) (registers_declared e rs)

memories_declared : (e : Stands) (ms : List Memory)
    → map {B = Name × (ℕ × (ℕ × ℕ))} (λ m. (m.name, (m.width, (m.depth, m.start)))) (map (memory_of e) ms) ≡ map (λ m. (m.name, (m.width, (m.depth, m.start)))) ms
memories_declared e [] = refl
memories_declared e (m ∷ ms) = ap (λ (xs : List (Name × (ℕ × (ℕ × ℕ)))). (m.name, (m.width, (m.depth, m.start))) ∷ xs) (memories_declared e ms)

-- each wire is found behind all
pub found_each : (ms : Shapes) (ws : List Wire) (sc : Scope) → AreWires ms sc ws → AllByRecursion (λ w. find (readable_after sc ws) w.name ≡ Some w.width) ws
found_each ms [] sc a = tt
found_each ms (w ∷ ws) sc a =
    (readable_kept ms ws ((w.name, w.width) ∷ sc) a.4 w.name w.width (found_here w.name w.width sc), found_each ms ws ((w.name, w.width) ∷ sc) a.4)

same_width : (n r : Net) (x : Name) (u : ℕ) → find (readable n) x ≡ Some u → find (readable r) x ≡ Some u → width_of r x ≡ width_of n x
same_width n r x u a b = widths_are r x u b ∙ sym (widths_are n x u a)

shown_wide : (n r : Net) (e : Stands) (xs : List Wire) → AllByRecursion (λ w. find (readable n) w.name ≡ Some w.width) xs
    → AllByRecursion (λ w. find (readable r) w.name ≡ Some w.width) (map (wire_of e) xs) → AllByRecursion (λ w. width_of r w.name ≡ width_of n w.name) xs
shown_wide n r e [] a b = tt
shown_wide n r e (x ∷ xs) a b = (same_width n r x.name x.width a.0 b.0, shown_wide n r e xs a.1 b.1)

all_within : (so sd : Scope) → Grows so sd → (xs : List Wire) → AllByRecursion (λ w. find so w.name ≡ Some w.width) xs → AllByRecursion (λ w. find sd w.name ≡ Some w.width) xs
all_within so sd g [] a = tt
all_within so sd g (x ∷ xs) a = (g x.name x.width a.0, all_within so sd g xs a.1)

port_wide : (n r : Net) → first_readable r ≡ first_readable n → IsNetlist n → IsNetlist r
    → AllByRecursion (λ x. width_of r x ≡ width_of n x) (names_of (shown_wires n)) → (k : PortKind) (x : Name)
    → is_among x (port_names n) ≡ true → PortShows n k x → width_of r x ≡ width_of n x
port_wide n r e a b s kind.Input x p h =
    let f = input_found n x h in
    same_width n r x f.0 (readable_kept (shapes n) n.wires (first_readable n) a.assigns x f.0 f.1)
    (readable_kept (shapes r) r.wires (first_readable r) b.assigns x f.0 (subst (λ (sc : Scope). find sc x ≡ Some f.0) (sym e) f.1))
port_wide n r e a b s kind.Register x p h =
    let f = register_found n x h in
    same_width n r x f.0 (readable_kept (shapes n) n.wires (first_readable n) a.assigns x f.0 f.1)
    (readable_kept (shapes r) r.wires (first_readable r) b.assigns x f.0 (subst (λ (sc : Scope). find sc x ≡ Some f.0) (sym e) f.1))
port_wide n r e a b s kind.Wire x p h =
    among_each (λ y. width_of r y ≡ width_of n y) (names_of (shown_wires n)) s x (shown_among n x ∙ rw (h, p) refl)

pub declares_alike : (n : Net) (taken : Name → Bool) (ws : List Wire) (s t : State) → Done n taken ws s t → DeclaresAlike n (built n t.wires t.stands)
declares_alike n taken ws s t d =
    let B = built n t.wires t.stands in
    let outs = map (wire_of t.stands) (shown_wires n) in
    let so = readable_after (first_readable n) ws in
    let rules = built_rules n taken so t d.walks in
    let each = found_each (shapes B) B.wires (first_readable B) rules.assigns in
    let wide = shown_wide n B t.stands (shown_wires n) (all_within so (readable n) d.within (shown_wires n) d.walks.covers.shown)
    (all_second (λ w. find (readable B) w.name ≡ Some w.width) t.wires outs each) in
    record {
      module_name = refl;
      ports = refl;
      inputs = refl;
      registers = registers_declared t.stands n.registers;
      memories = memories_declared t.stands n.memories;
      widths = all_ports n d.walks.rules (λ x. width_of B x ≡ width_of n x)
          (port_wide n B (built_first n t.wires t.stands) d.walks.rules rules (map_of_all (λ x. width_of B x ≡ width_of n x) (λ (x : Wire). x.name) (shown_wires n) wide));
    }
