-- Groups of states: the body of the current one is done, with those that it falls into.
use Rattle.sap_lemmas.proofs.Common.{◌≡◌, ℕ, zero, suc, ◌+◌, ◌<◌, ◌≤◌, ◌==◌, List, [], ◌∷◌, ◌++◌, Some, Bool, true, false, sym, ap, ◌∙◌, subst, refl, arith, if◌then◌else◌, ne_eqb, eq-eqb}
use Rattle.sap_maps.specs.Prelude.{Name, find, Term, read}
use Rattle.sap_ir.specs.Prelude.{set, Command, Source, readable, Going, value_in, after_action, Body, Forest, none, state, has_states, size, group_names, seat_width, put_value, enter, child_does, falls_of, child_writes, ends_in_transfers, SeatFine, ForestFine}
use Rattle.sap_net.specs.PortNames.{seat_name}
use Rattle.sap_flat.specs.Gates.{gate_name}
use Rattle.sap_flat.specs.Flat.{Flat, is_number, flat_body, flat_gates, flat_group}
use Rattle.sap_flat.proofs.Runs.{Runs, runs_none, runs_on, runs_append, runs_last}
use Rattle.sap_flat.proofs.Alike.{World, Alike, Zero, gate_alike, at_gate, past_gate, seat_found}
use Rattle.sap_flat.proofs.Reached.{Reached, reached, finish, finish_writes, reached_does, reached_writes}
use Rattle.sap_flat.proofs.Off.{IsOff, body_off, gates_off, AllZero, all_zero, zero_kept, group_off}
use Rattle.sap_flat.proofs.On.{Ran, On, on_body}

-- of the gates of a group, from j on, that of the c-th state is 1
abbrev pub Marked : Forest → (c j : ℕ) → Going → Type 0
Marked none c j g = Unit {0}
Marked (state x b kids rest) zero j g = (g.now.value (gate_name j) ≡ 1) × AllZero rest (j + 1) g
Marked (state x b kids rest) (suc c) j g = (g.now.value (gate_name j) ≡ 0) × Marked rest c (j + 1) g

-- what sets gates from j on, and nothing else
pub record Gated (s : Source) (vf : Name → ℕ) (j k : ℕ) (g : Going) (cs : List Command) (h : Going) (T : Going → Type 0) : Type 0 where
  pub end : Going
  pub runs : Runs vf g cs end []
  pub alike : Alike s end h
  pub gates : T end
  pub kept : (i : ℕ) → i < j → end.now.value (gate_name i) ≡ g.now.value (gate_name i)
  pub free : Zero k end

-- a condition that no gate from j on changes
abbrev pub Stays : (vf : Name → ℕ) → Term Name → (j : ℕ) → Type 0
Stays vf c j = (g : Going) (i x : ℕ) → j ≤ i → (value_in vf g c == 0) ≡ false → (value_in vf (put_value g (gate_name i) x) c == 0) ≡ false

-- one gate, before others
next_gate : (s : Source) (vf vp : Name → ℕ) → World s vf vp → (c : Term Name) (j : ℕ) → (seat : Name) (w u : ℕ)
    → find (readable s) seat ≡ Some w → (rest : Forest) (i k n : ℕ) (g h : Going) → j < k → (value_in vf g c == 0) ≡ false → Zero k g
    → Alike s g h → (if h.now.value seat == i then 1 else 0) ≡ n → (T : Going → Type 0)
    → ((g1 : Going) → (value_in vf g1 c == 0) ≡ false → Zero k g1 → Alike s g1 h → g1 ≡ put_value g (gate_name j) n
    → Gated s vf (j + 1) k g1 (flat_gates c seat u rest (i + 1) (j + 1)) h T) → Stays vf c j
    → Gated s vf j k g (record { when = c; act = set (gate_name j) (is_number (read seat) u i) } ∷ flat_gates c seat u rest (i + 1) (j + 1))
    h (λ e. (e.now.value (gate_name j) ≡ n) × T e)
next_gate s vf vp w c j seat u0 u sf rest i k n g h lj q ze a v T more st =
    let it : Command = record { when = c; act = set (gate_name j) (is_number (read seat) u i) } in
    let g1 = put_value g (gate_name j) n in
    let e : after_action vf g it.act ≡ g1 = ap (λ (x : ℕ). put_value g (gate_name j) (if x == i then 1 else 0)) (a.value seat u0 sf)
    ∙ ap (λ (x : ℕ). put_value g (gate_name j) x) v in
    let r = more g1 (st g j n (omega arith) q) (λ m l. past_gate g j m n (ne_eqb m j (λ x. omega (arith, x, l, lj))) ∙ ze m l) (gate_alike s vf vp w g h a j n) refl in
    let behind = subst (λ x. Runs vf x (flat_gates c seat u rest (i + 1) (j + 1)) r.end []) (sym e) r.runs in
    record {
      end = r.end;
      runs = runs_on vf g r.end it (flat_gates c seat u rest (i + 1) (j + 1)) [] q behind;
      alike = r.alike;
      gates = (r.kept j (omega arith) ∙ at_gate g j n, r.gates);
      kept = λ m l. r.kept m (omega (arith, l)) ∙ past_gate g j m n (ne_eqb m j (λ x. omega (arith, x, l)));
      free = r.free;
    }

weaker : (vf : Name → ℕ) (c : Term Name) (j : ℕ) → Stays vf c j → Stays vf c (j + 1)
weaker vf c j st g i x l q = st g i x (omega (arith, l)) q

-- past the current one
gates_past : (s : Source) (vf vp : Name → ℕ) → World s vf vp → (c : Term Name) (seat : Name) (w u : ℕ) → find (readable s) seat ≡ Some w
    → (f : Forest) (i j k : ℕ) → Stays vf c j → j + size f ≤ k → (g h : Going) → (value_in vf g c == 0) ≡ false → h.now.value seat < i
    → Zero k g → Alike s g h → Gated s vf j k g (flat_gates c seat u f i j) h (AllZero f j)
gates_past s vf vp w c seat u0 u sf none i j k st l g h q p ze a =
    record { end = g; runs = runs_none vf g; alike = a; gates = tt; kept = λ m n. refl; free = ze }
gates_past s vf vp w c seat u0 u sf (state x b kids rest) i j k st l g h q p ze a =
    next_gate s vf vp w c j seat u0 u sf rest i k 0 g h (omega (arith, l)) q ze a
    (ap (λ (t : Bool). if t then 1 else 0) (ne_eqb (h.now.value seat) i (λ e. omega (arith, e, p)))) (AllZero rest (j + 1))
    (λ g1 q1 z1 a1 e. gates_past s vf vp w c seat u0 u sf rest (i + 1) (j + 1) k (weaker vf c j st) (omega (arith, l)) g1 h q1 (omega (arith, p)) z1 a1) st

pub gates_on : (s : Source) (vf vp : Name → ℕ) → World s vf vp → (c : Term Name) (seat : Name) (u : ℕ) → (f : Forest)
    → (has_states f ≡ true → (w : ℕ) × (find (readable s) seat ≡ Some w)) → (i m j k : ℕ) → Stays vf c j → j + size f ≤ k → (g h : Going)
    → (value_in vf g c == 0) ≡ false → h.now.value seat ≡ i + m → Zero k g → Alike s g h → Gated s vf j k g (flat_gates c seat u f i j) h (Marked f m j)
gates_on s vf vp w c seat u none sf i m j k st l g h q p ze a =
    record { end = g; runs = runs_none vf g; alike = a; gates = tt; kept = λ m n. refl; free = ze }
gates_on s vf vp w c seat u (state x b kids rest) sf i zero j k st l g h q p ze a =
    let fs = sf refl in
    next_gate s vf vp w c j seat fs.0 u fs.1 rest i k 1 g h (omega (arith, l)) q ze a
    (ap (λ (t : Bool). if t then 1 else 0) (eq-eqb (h.now.value seat) i (omega (arith, p)))) (AllZero rest (j + 1))
    (λ g1 q1 z1 a1 e. gates_past s vf vp w c seat fs.0 u fs.1 rest (i + 1) (j + 1) k (weaker vf c j st) (omega (arith, l)) g1 h q1 (omega (arith, p)) z1 a1) st
gates_on s vf vp w c seat u (state x b kids rest) sf i (suc m) j k st l g h q p ze a =
    let fs = sf refl in
    next_gate s vf vp w c j seat fs.0 u fs.1 rest i k 0 g h (omega (arith, l)) q ze a
    (ap (λ (t : Bool). if t then 1 else 0) (ne_eqb (h.now.value seat) i (λ e. omega (arith, e, p)))) (Marked rest m (j + 1))
    (λ g1 q1 z1 a1 e. gates_on s vf vp w c seat u rest (λ y. fs) (i + 1) m (j + 1) k (weaker vf c j st) (omega (arith, l)) g1 h q1 (omega (arith, p)) z1 a1) st

-- What a group's commands lead to; gates below k are kept, and those from `next` on are 0.
pub record Done (s : Source) (vf : Name → ℕ) (k next : ℕ) (g : Going) (cs : List Command) (h : Going) (ms : List Name) : Type 0 where
  pub end : Going
  pub runs : Runs vf g cs end ms
  pub alike : Alike s end h
  pub kept : (i : ℕ) → i < k → end.now.value (gate_name i) ≡ g.now.value (gate_name i)
  pub free : Zero next end
  pub grows : k ≤ next

abbrev pub OnGroup : Source → (vf vp : Name → ℕ) → (seat : Name) → (group f : Forest) → Type 0
OnGroup s vf vp seat group f =
    (c j k : ℕ) (g h : Going) → j + size f ≤ k → Marked f c j g → Zero k g → Alike s g h
    → Done s vf k (flat_group seat group f j k).next g (flat_group seat group f j k).commands (child_does vp (enter seat group) f c h) (child_writes vp (enter seat group) f c h)

-- the condition of the gates below a state
fell_stays : (vf : Name → ℕ) (k : ℕ) → Stays vf (read (gate_name k)) (k + 1)
fell_stays vf k g i x l q = ap (λ (n : ℕ). n == 0) (past_gate g i k x (ne_eqb k i (λ e. omega (arith, e, l)))) ∙ q

-- the groups below a state, after its body
below_state : (s : Source) (vf vp : Name → ℕ) → World s vf vp → (x : Name) (kids : Forest) → SeatFine s (seat_name x) kids
    → OnGroup s vf vp (seat_name x) kids kids → (k m : ℕ) (g : Going) (cs : List Command) (e : Reached) → (fb : Bool) → e.fell ≡ fb
    → (r : Ran s vf k (k + 1 + size kids) m g cs e) → Zero k g → let gates : List Command =
    flat_gates (read (gate_name k)) (seat_name x) (seat_width (size kids)) kids 0 (k + 1) in
    let c : Flat = flat_group (seat_name x) kids kids (k + 1) m in
    Done s vf k c.next g (cs ++ (gates ++ c.commands)) (finish fb (falls_of vp (seat_name x) kids) e.going)
    (e.written ++ finish_writes fb (λ h. child_writes vp (enter (seat_name x) kids) kids (h.now.value (seat_name x)) h) e.going)
below_state s vf vp w x kids sf onk k m g cs e true q r ze =
    let seat = seat_name x in
    let gates : List Command = flat_gates (read (gate_name k)) seat (seat_width (size kids)) kids 0 (k + 1) in
    let c = flat_group seat kids kids (k + 1) m in
    let h = e.going in
    let n = h.now.value seat in
    let one : (r.end.now.value (gate_name k) == 0) ≡ false = ap (λ (i : ℕ). i == 0) (r.fallen ∙ ap (λ (p : Bool). if p then 1 else 0) q) in
    let gd = gates_on s vf vp w (read (gate_name k)) seat (seat_width (size kids)) kids
    (λ t. (seat_width (size kids), seat_found s vf vp w seat kids sf t)) 0 n (k + 1) m (fell_stays vf k) (omega (arith, r.grows)) r.end h one (omega arith) r.free r.alike in
    let d = onk n (k + 1) m gd.end h (omega (arith, r.grows)) gd.gates gd.free gd.alike in
    record {
      end = d.end;
      runs = runs_append vf g r.end d.end cs (gates ++ c.commands) e.written (child_writes vp (enter seat kids) kids n h) r.runs
          (runs_append vf r.end gd.end d.end gates c.commands [] (child_writes vp (enter seat kids) kids n h) gd.runs d.runs);
      alike = d.alike;
      kept = λ i l. d.kept i (omega (arith, l, r.grows)) ∙ gd.kept i (omega (arith, l)) ∙ r.kept i (omega (arith, l)) (ne_eqb i k (λ z. omega (arith, z, l)));
      free = d.free;
      grows = omega (arith, r.grows, d.grows);
    }
below_state s vf vp w x kids sf onk k m g cs e false q r ze =
    let seat = seat_name x in
    let gates : List Command = flat_gates (read (gate_name k)) seat (seat_width (size kids)) kids 0 (k + 1) in
    let c = flat_group seat kids kids (k + 1) m in
    let og = gates_off vf r.end (read (gate_name k)) (r.fallen ∙ ap (λ (p : Bool). if p then 1 else 0) q) seat (seat_width (size kids)) kids 0 (k + 1) in
    let zk = zero_kept kids (k + 1) g r.end (λ i l n. r.kept i (omega (arith, n)) (ne_eqb i k (λ z. omega (arith, z, l))))
    (all_zero kids (k + 1) g (λ i l. ze i (omega (arith, l)))) in
    let oc = group_off vf seat kids kids (k + 1) m r.end zk r.free in
    record {
      end = r.end;
      runs = runs_append vf g r.end r.end cs (gates ++ c.commands) e.written [] r.runs (runs_append vf r.end r.end r.end gates c.commands [] [] og oc.runs);
      alike = r.alike;
      kept = λ i l. r.kept i (omega (arith, l)) (ne_eqb i k (λ z. omega (arith, z, l)));
      free = λ i l. r.free i (omega (arith, l, oc.grows));
      grows = omega (arith, r.grows, oc.grows);
    }

-- a state's commands before those of the others

nothing_done : (s : Source) (vf : Name → ℕ) (g h : Going) → Alike s g h → (k : ℕ) → Zero k g → Done s vf k k g [] h []
nothing_done s vf g h a k ze =
    record { end = g; runs = runs_none vf g; alike = a; kept = λ i l. refl; free = ze; grows = omega arith }

-- the others do nothing
last_done : (s : Source) (vf : Name → ℕ) (k m : ℕ) (g : Going) (cs : List Command) (h : Going) (ms : List Name) (f : Flat)
    → (d : Done s vf k m g cs h ms) → IsOff vf m d.end f → Done s vf k f.next g (cs ++ f.commands) h ms
last_done s vf k m g cs h ms f d o =
    record {
      end = d.end;
      runs = runs_last vf g d.end (cs ++ f.commands) ms (runs_append vf g d.end d.end cs f.commands ms [] d.runs o.runs);
      alike = d.alike;
      kept = d.kept;
      free = λ i l. d.free i (omega (arith, l, o.grows));
      grows = omega (arith, d.grows, o.grows);
    }

-- it does nothing itself
first_done : (s : Source) (vf : Name → ℕ) (k m n : ℕ) (g : Going) (cs ds : List Command) (h : Going) (ms : List Name) → Runs vf g cs g []
    → k ≤ m → Done s vf m n g ds h ms → Done s vf k n g (cs ++ ds) h ms
first_done s vf k m n g cs ds h ms r l d =
    record {
      end = d.end;
      runs = runs_append vf g g d.end cs ds [] ms r d.runs;
      alike = d.alike;
      kept = λ i p. d.kept i (omega (arith, p, l));
      free = d.free;
      grows = omega (arith, l, d.grows);
    }

-- a state whose gate is 1
this_state : (s : Source) (vf vp : Name → ℕ) → World s vf vp → (seat : Name) (group : Forest) (x : Name) (b : Body) (kids : Forest)
    → ends_in_transfers b ≡ true → SeatFine s (seat_name x) kids → ((fell : ℕ) → On s vf vp (enter seat group) seat group fell b)
    → OnGroup s vf vp (seat_name x) kids kids → (rest : Forest) (j k : ℕ) (g h : Going) → j < k → g.now.value (gate_name j) ≡ 1 → Zero k g
    → Alike s g h → let d : Flat = flat_body seat group k b j (k + 1 + size kids) in
    let c : Flat = flat_group (seat_name x) kids kids (k + 1) d.next in
    Done s vf k c.next g (d.commands ++ (flat_gates (read (gate_name k)) (seat_name x) (seat_width (size kids)) kids 0 (k + 1) ++ c.commands))
    (child_does vp (enter seat group) (state x b kids rest) zero h) (child_writes vp (enter seat group) (state x b kids rest) zero h)
this_state s vf vp w seat group x b kids en sf onb onk rest j k g h lj one ze a =
    let d = flat_body seat group k b j (k + 1 + size kids) in
    let c = flat_group (seat_name x) kids kids (k + 1) d.next in
    let cs : List Command = d.commands ++ (flat_gates (read (gate_name k)) (seat_name x) (seat_width (size kids)) kids 0 (k + 1) ++ c.commands) in
    let goes = enter seat group in
    let falls : Going → Going = λ y. child_does vp (enter (seat_name x) kids) kids (y.now.value (seat_name x)) y in
    let below : Going → List Name = λ y. child_writes vp (enter (seat_name x) kids) kids (y.now.value (seat_name x)) y in
    let e = reached vp goes b h in
    let r = onb k j (k + 1 + size kids) g h (omega (arith, lj)) (ne_eqb j k (λ z. omega (arith, z, lj))) (omega arith)
    (ap (λ (i : ℕ). i == 0) one) (ze k (omega arith)) (λ i l. ze i (omega (arith, l))) a in
    let t = below_state s vf vp w x kids sf onk k d.next g d.commands e e.fell refl r ze in
    let does = reached_does vp falls goes b en h in
    let writes = reached_writes vp falls below goes b en h in
    record {
      end = t.end;
      runs = subst (λ ms. Runs vf g cs t.end ms) (sym writes) t.runs;
      alike = subst (λ y. Alike s t.end y) (sym does) t.alike;
      kept = t.kept;
      free = t.free;
      grows = t.grows;
    }

-- a state whose gate is 0, with all below it
state_off : (vf : Name → ℕ) (seat : Name) (group : Forest) (x : Name) (b : Body) (kids : Forest) (j k : ℕ) (g : Going)
    → g.now.value (gate_name j) ≡ 0 → Zero k g → let d : Flat = flat_body seat group k b j (k + 1 + size kids) in
    let c : Flat = flat_group (seat_name x) kids kids (k + 1) d.next in
    IsOff vf k g (record { commands = d.commands ++ (flat_gates (read (gate_name k)) (seat_name x) (seat_width (size kids)) kids 0 (k + 1) ++ c.commands); next = c.next })
state_off vf seat group x b kids j k g z ze =
    let d = flat_body seat group k b j (k + 1 + size kids) in
    let c = flat_group (seat_name x) kids kids (k + 1) d.next in
    let gates : List Command = flat_gates (read (gate_name k)) (seat_name x) (seat_width (size kids)) kids 0 (k + 1) in
    let od = body_off vf seat group k b j (k + 1 + size kids) g z (λ i l. ze i (omega (arith, l))) in
    let og = gates_off vf g (read (gate_name k)) (ze k (omega arith)) (seat_name x) (seat_width (size kids)) kids 0 (k + 1) in
    let oc = group_off vf (seat_name x) kids kids (k + 1) d.next g (all_zero kids (k + 1) g (λ i l. ze i (omega (arith, l)))) (λ i l. ze i (omega (arith, l, od.grows))) in
    record {
      runs = runs_append vf g g g d.commands (gates ++ c.commands) [] [] od.runs (runs_append vf g g g gates c.commands [] [] og oc.runs);
      grows = omega (arith, od.grows, oc.grows);
    }

pub on_group : (s : Source) (vf vp : Name → ℕ) → World s vf vp → (ss : List Name) (seat : Name) (group : Forest) → SeatFine s seat group
    → ForestFine s ss (group_names group) group → (f : Forest) → ForestFine s ss (group_names group) f → OnGroup s vf vp seat group f
on_group s vf vp w ss seat group sf gf none fine c j k g h l m ze a = nothing_done s vf g h a k ze
on_group s vf vp w ss seat group sf gf (state x b kids rest) fine zero j k g h l m ze a =
    let d = flat_body seat group k b j (k + 1 + size kids) in
    let c = flat_group (seat_name x) kids kids (k + 1) d.next in
    let cs : List Command = d.commands ++ (flat_gates (read (gate_name k)) (seat_name x) (seat_width (size kids)) kids 0 (k + 1) ++ c.commands) in
    let onb = λ (fell : ℕ). on_body s vf vp w ss seat group sf gf fell (has_states kids) b fine.0 fine.1 in
    let onk = on_group s vf vp w ss (seat_name x) kids fine.2 fine.3 kids fine.3 in
    let t = this_state s vf vp w seat group x b kids fine.1 fine.2 onb onk rest j k g h (omega (arith, l)) m.0 ze a in
    let zs = zero_kept rest (j + 1) g t.end (λ i p q. t.kept i (omega (arith, l, q))) m.1 in
    let o = group_off vf seat group rest (j + 1) c.next t.end zs t.free in
    last_done s vf k c.next g cs (child_does vp (enter seat group) (state x b kids rest) zero h)
    (child_writes vp (enter seat group) (state x b kids rest) zero h) (flat_group seat group rest (j + 1) c.next) t o
on_group s vf vp w ss seat group sf gf (state x b kids rest) fine (suc n) j k g h l m ze a =
    let d = flat_body seat group k b j (k + 1 + size kids) in
    let c = flat_group (seat_name x) kids kids (k + 1) d.next in
    let r = flat_group seat group rest (j + 1) c.next in
    let cs : List Command = d.commands ++ (flat_gates (read (gate_name k)) (seat_name x) (seat_width (size kids)) kids 0 (k + 1) ++ c.commands) in
    let o = state_off vf seat group x b kids j k g m.0 ze in
    let t = on_group s vf vp w ss seat group sf gf rest fine.4 n (j + 1) c.next g h (omega (arith, l, o.grows)) m.1 (λ i p. ze i (omega (arith, p, o.grows))) a in
    first_done s vf k c.next r.next g cs r.commands (child_does vp (enter seat group) rest n h) (child_writes vp (enter seat group) rest n h) o.runs o.grows t
