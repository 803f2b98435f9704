-- Where a gate is 0, what stands under it does nothing.
use Rattle.std.proofs.Common.{◌≡◌, ℕ, ◌+◌, ◌<◌, ◌≤◌, [], ◌∷◌, ◌++◌, ◌∙◌, arith}
use Rattle.sap_maps.specs.Prelude.{Name, Term, constant, read}
use Rattle.sap_ir.specs.Prelude.{set, Command, Going, value_in, Body, stop, act, cases, goto, fall, Forest, none, state, size, place, children_of, seat_width}
use Rattle.sap_net.specs.PortNames.{seat_name}
use Rattle.sap_flat.specs.Gates.{gate_name}
use Rattle.sap_flat.specs.Flat.{Flat, under, is_number, seated, flat_first, flat_restart, flat_goto, flat_body, flat_gates, flat_group}
use Rattle.sap_flat.proofs.Runs.{Runs, runs_none, runs_off, runs_append}
use Rattle.sap_flat.proofs.Alike.{Zero}

first_off : (vw : Name → ℕ) (j : ℕ) (g : Going) → g.now.value (gate_name j) ≡ 0 → (x : Name) (kids : Forest) → Runs vw g (flat_first j x kids) g []
first_off vw j g z x none = runs_none vw g
first_off vw j g z x (state y b kids rest) =
    runs_off vw g g (under j (seated (seat_name x) (state y b kids rest) 0)) [] [] z (runs_none vw g)

restart_off : (vw : Name → ℕ) (j : ℕ) (g : Going) → g.now.value (gate_name j) ≡ 0 → (f : Forest) → Runs vw g (flat_restart j f) g []
restart_off vw j g z none = runs_none vw g
restart_off vw j g z (state x b kids rest) =
    runs_append vw g g g (flat_first j x kids) (flat_restart j kids ++ flat_restart j rest) [] [] (first_off vw j g z x kids)
    (runs_append vw g g g (flat_restart j kids) (flat_restart j rest) [] [] (restart_off vw j g z kids) (restart_off vw j g z rest))

goto_off : (vw : Name → ℕ) (j : ℕ) (g : Going) → g.now.value (gate_name j) ≡ 0 → (seat : Name) (group : Forest) (x : Name) → Runs vw g (flat_goto seat group j x) g []
goto_off vw j g z seat group x =
    let kids = children_of group x in
    runs_off vw g g (under j (seated seat group (place group x))) (flat_first j x kids ++ flat_restart j kids) [] z
    (runs_append vw g g g (flat_first j x kids) (flat_restart j kids) [] [] (first_off vw j g z x kids) (restart_off vw j g z kids))

-- nothing is done, and numbers of gates are given out in order
pub record IsOff (vw : Name → ℕ) (k : ℕ) (g : Going) (f : Flat) : Type 0 where
  pub runs : Runs vw g f.commands g []
  pub grows : k ≤ f.next

pub body_off : (vw : Name → ℕ) (seat : Name) (group : Forest) (fell : ℕ) (b : Body) (j k : ℕ) (g : Going) → g.now.value (gate_name j) ≡ 0
    → Zero k g → IsOff vw k g (flat_body seat group fell b j k)
body_off vw seat group fell stop j k g z ze = record { runs = runs_none vw g; grows = omega arith }
body_off vw seat group fell (act a rest) j k g z ze =
    let r = body_off vw seat group fell rest j k g z ze in
    record { runs = runs_off vw g g (under j a) (flat_body seat group fell rest j k).commands [] z r.runs; grows = r.grows }
body_off vw seat group fell (cases t y n rest) j k g z ze =
    let fy = flat_body seat group fell y k (k + 2) in
    let fn = flat_body seat group fell n (k + 1) fy.next in
    let fr = flat_body seat group fell rest j fn.next in
    let oy = body_off vw seat group fell y k (k + 2) g (ze k (omega arith)) (λ i l. ze i (omega arith)) in
    let on = body_off vw seat group fell n (k + 1) fy.next g (ze (k + 1) (omega arith)) (λ i l. ze i (omega (arith, oy.grows))) in
    let or = body_off vw seat group fell rest j fn.next g z (λ i l. ze i (omega (arith, oy.grows, on.grows))) in
    let all = runs_append vw g g g (fy.commands ++ fn.commands) fr.commands [] [] (runs_append vw g g g fy.commands fn.commands [] [] oy.runs on.runs) or.runs in
    let second : Command = under j (set (gate_name (k + 1)) (is_number (read (gate_name k)) 1 0)) in
    record {
      runs = runs_off vw g g (under j (set (gate_name k) t)) (second ∷ ((fy.commands ++ fn.commands) ++ fr.commands)) [] z
          (runs_off vw g g second ((fy.commands ++ fn.commands) ++ fr.commands) [] z all);
      grows = omega (arith, oy.grows, on.grows, or.grows);
    }
body_off vw seat group fell (goto x rest) j k g z ze =
    let r = body_off vw seat group fell rest j k g z ze in
    record {
      runs = runs_append vw g g g (flat_goto seat group j x) (flat_body seat group fell rest j k).commands [] [] (goto_off vw j g z seat group x) r.runs;
      grows = r.grows;
    }
body_off vw seat group fell (fall rest) j k g z ze =
    let r = body_off vw seat group fell rest j k g z ze in
    record {
      runs = runs_off vw g g (under j (set (gate_name fell) (constant 1 1))) (flat_body seat group fell rest j k).commands [] z r.runs;
      grows = r.grows;
    }

pub gates_off : (vw : Name → ℕ) (g : Going) (c : Term Name) → value_in vw g c ≡ 0 → (seat : Name) (u : ℕ) (f : Forest) (i j : ℕ) → Runs vw g (flat_gates c seat u f i j) g []
gates_off vw g c z seat u none i j = runs_none vw g
gates_off vw g c z seat u (state x b kids rest) i j =
    runs_off vw g g (record { when = c; act = set (gate_name j) (is_number (read seat) u i) }) (flat_gates c seat u rest (i + 1) (j + 1)) []
    z (gates_off vw g c z seat u rest (i + 1) (j + 1))

-- the gates of a group, from j on, are 0
abbrev pub AllZero : Forest → (j : ℕ) → Going → Type 0
AllZero none j g = Unit {0}
AllZero (state x b kids rest) j g = (g.now.value (gate_name j) ≡ 0) × AllZero rest (j + 1) g

pub all_zero : (f : Forest) (j : ℕ) (g : Going) → Zero j g → AllZero f j g
all_zero none j g z = tt
all_zero (state x b kids rest) j g z = (z j (omega arith), all_zero rest (j + 1) g (λ i l. z i (omega arith)))

pub zero_kept : (f : Forest) (j : ℕ) (g h : Going) → ((i : ℕ) → j ≤ i → i < j + size f → h.now.value (gate_name i) ≡ g.now.value (gate_name i)) → AllZero f j g → AllZero f j h
zero_kept none j g h k z = tt
zero_kept (state x b kids rest) j g h k z =
    (k j (omega arith) (omega arith) ∙ z.0, zero_kept rest (j + 1) g h (λ i l m. k i (omega arith) (omega arith)) z.1)

pub group_off : (vw : Name → ℕ) (seat : Name) (group f : Forest) (j k : ℕ) (g : Going) → AllZero f j g → Zero k g → IsOff vw k g (flat_group seat group f j k)
group_off vw seat group none j k g a ze = record { runs = runs_none vw g; grows = omega arith }
group_off vw seat group (state x b kids rest) j k g a ze =
    let d = flat_body seat group k b j (k + 1 + size kids) in
    let c = flat_group (seat_name x) kids kids (k + 1) d.next in
    let r = flat_group seat group rest (j + 1) c.next in
    let gates = flat_gates (read (gate_name k)) (seat_name x) (seat_width (size kids)) kids 0 (k + 1) in
    let od = body_off vw seat group k b j (k + 1 + size kids) g a.0 (λ i l. ze i (omega arith)) in
    let og = gates_off vw g (read (gate_name k)) (ze k (omega arith)) (seat_name x) (seat_width (size kids)) kids 0 (k + 1) in
    let oc = group_off vw (seat_name x) kids kids (k + 1) d.next g (all_zero kids (k + 1) g (λ i l. ze i (omega arith))) (λ i l. ze i (omega (arith, od.grows))) in
    let or = group_off vw seat group rest (j + 1) c.next g a.1 (λ i l. ze i (omega (arith, od.grows, oc.grows))) in
    let one = runs_append vw g g g d.commands (gates ++ c.commands) [] [] od.runs (runs_append vw g g g gates c.commands [] [] og oc.runs) in
    record {
      runs = runs_append vw g g g (d.commands ++ (gates ++ c.commands)) r.commands [] [] one or.runs;
      grows = omega (arith, od.grows, oc.grows, or.grows);
    }
