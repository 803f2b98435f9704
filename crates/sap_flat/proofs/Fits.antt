-- The flat program's commands use names as what they are, and all widths fit.
use Rattle.sap_lemmas.proofs.Common.{◌≡◌, ℕ, ◌+◌, ◌^◌, ◌<◌, ◌≤◌, List, ◌++◌, map, Some, Bool, true, refl, arith, inl, inr, bytes_eq, AllByRecursion, cases_Bool, all_append, bytes_eq_apart_back}
use Rattle.sap_net.proofs.RulesLemmas.{one_wide}
use Rattle.sap_maps.proofs.ScopeLemmas.{found_first}
use Rattle.sap_maps.specs.Prelude.{Name, Scope, find, Term, constant, read, cell, one, two, choose, join, part}
use Rattle.sap_net.specs.Prelude.{is_among, Shapes, IsWidth, seat_name}
use Rattle.sap_ir.specs.Prelude.{Action, set, put, Command, readable, shapes, TermFine, assignable, ActionFine, CommandFine, Body, stop, act, cases, goto, fall, Forest, none, state, Nested, declarations, has_states, size, group_names, place, children_of, seat_width, BodyFine, SeatFine, ForestFine}
use Rattle.sap_ir.proofs.plain.SeatWidths.{seat_positive, seat_within, seat_register}
use Rattle.sap_flat.specs.Gates.{gate_name}
use Rattle.sap_flat.specs.Flat.{under, is_number, seated, flat_first, flat_restart, flat_goto, flat_body, flat_gates, flat_group, flattened}
use Rattle.sap_flat.proofs.Grows.{body_grows, group_grows}
use Rattle.sap_flat.proofs.Moved.{among_some, children_seat, children_fine}

-- the flat program declares what the nested states do, and gates
pub record Grown (p : Nested) (count : ℕ) : Type 0 where
  pub reads : (n : Name) (u : ℕ) → find (readable (declarations p)) n ≡ Some u → find (readable (flattened p)) n ≡ Some u
  pub sets : (n : Name) (u : ℕ) → find (assignable (declarations p)) n ≡ Some u → find (assignable (flattened p)) n ≡ Some u
  pub gate_read : (k : ℕ) → k < count → find (readable (flattened p)) (gate_name k) ≡ Some 1
  pub gate_set : (k : ℕ) → k < count → find (assignable (flattened p)) (gate_name k) ≡ Some 1

term_grows : (ms : Shapes) (sc sd : Scope) → ((n : Name) (u : ℕ) → find sc n ≡ Some u → find sd n ≡ Some u) → (u : ℕ) (t : Term Name) → TermFine ms sc u t → TermFine ms sd u t
term_grows ms sc sd k u (constant w x) f = f
term_grows ms sc sd k u (read n) f = k n u f
term_grows ms sc sd k u (cell m i) f = (f.0, f.1, f.2, term_grows ms sc sd k f.0 i f.3)
term_grows ms sc sd k u (one op a) f = (f.0, f.1, term_grows ms sc sd k f.0 a f.2, f.3)
term_grows ms sc sd k u (two op a b) f =
    (f.0, f.1, f.2, f.3, term_grows ms sc sd k f.0 a f.4, term_grows ms sc sd k f.1 b f.5, f.6, f.7)
term_grows ms sc sd k u (choose c a b) f =
    (term_grows ms sc sd k 1 c f.0, term_grows ms sc sd k u a f.1, term_grows ms sc sd k u b f.2)
term_grows ms sc sd k u (join a b) f =
    (f.0, f.1, f.2, f.3, term_grows ms sc sd k f.0 a f.4, term_grows ms sc sd k f.1 b f.5, f.6)
term_grows ms sc sd k u (part a hi lo) f = (f.0, f.1, term_grows ms sc sd k f.0 a f.2, f.3, f.4, f.5)

action_grows : (p : Nested) (count : ℕ) → Grown p count → (a : Action) → ActionFine (declarations p) a → ActionFine (flattened p) a
action_grows p count g (set x t) f =
    (f.0, g.sets x f.0 f.1, term_grows (shapes (declarations p)) (readable (declarations p)) (readable (flattened p)) g.reads f.0 t f.2)
action_grows p count g (put m i t) f =
    let grows = term_grows (shapes (declarations p)) (readable (declarations p)) (readable (flattened p)) g.reads in
    (f.0, f.1, f.2, f.3, grows f.1 i f.4, grows f.0 t f.5)

abbrev pub Fit : Nested → List Command → Type 0
Fit p cs = AllByRecursion (CommandFine (flattened p)) cs

both_fit : (p : Nested) (cs ds : List Command) → Fit p cs → Fit p ds → Fit p (cs ++ ds)
both_fit p cs ds a b = all_append (CommandFine (flattened p)) cs ds a b

width_fine : (n : ℕ) → IsWidth (seat_width n)
width_fine n = (seat_positive n, seat_within n)

-- registers of current children

seat_reads : (p : Nested) (count : ℕ) → Grown p count → (x : Name) (f : Forest) → SeatFine (declarations p) x f → has_states f ≡ true
    → find (assignable (flattened p)) x ≡ Some (seat_width (size f))
seat_reads p count g x f h t =
    g.sets x (seat_width (size f)) (found_first (map (λ r. (r.name, r.width)) p.registers) (map (λ r. (r.name, r.width)) p.wires) x
    (seat_width (size f)) (seat_register (declarations p) x f t h))

seat_size : (p : Nested) (x : Name) (f : Forest) → SeatFine (declarations p) x f → size f ≤ 2 ^ seat_width (size f)
seat_size p x none h = omega arith
seat_size p x (state y b kids rest) h = h.1

seated_fits : (p : Nested) (count : ℕ) → Grown p count → (x : Name) (f : Forest) → SeatFine (declarations p) x f → (n : ℕ) → n < size f
    → has_states f ≡ true → ActionFine (flattened p) (seated x f n)
seated_fits p count g x f h n l t =
    (seat_width (size f), seat_reads p count g x f h t, (refl, let m = seat_size p x f h in omega (arith, l, m)))

under_fits : (p : Nested) (count : ℕ) → Grown p count → (j : ℕ) → j < count → (a : Action) → ActionFine (flattened p) a → CommandFine (flattened p) (under j a)
under_fits p count g j l a f = (g.gate_read j l, f)

first_fits : (p : Nested) (count : ℕ) → Grown p count → (j : ℕ) → j < count → (x : Name) (kids : Forest)
    → SeatFine (declarations p) (seat_name x) kids → Fit p (flat_first j x kids)
first_fits p count g j l x none h = tt
first_fits p count g j l x (state y b kids rest) h =
    let here = state y b kids rest in
    (under_fits p count g j l (seated (seat_name x) here 0) (seated_fits p count g (seat_name x) here h 0 (omega arith) refl), tt)

restart_fits : (p : Nested) (count : ℕ) → Grown p count → (j : ℕ) → j < count → (ss gs : List Name) (f : Forest) → ForestFine (declarations p) ss gs f → Fit p (flat_restart j f)
restart_fits p count g j l ss gs none fine = tt
restart_fits p count g j l ss gs (state x b kids rest) fine =
    both_fit p (flat_first j x kids) (flat_restart j kids ++ flat_restart j rest) (first_fits p count g j l x kids fine.2)
    (both_fit p (flat_restart j kids) (flat_restart j rest) (restart_fits p count g j l ss (group_names kids) kids fine.3) (restart_fits p count g j l ss gs rest fine.4))

place_below : (f : Forest) (x : Name) → is_among x (group_names f) ≡ true → place f x < size f
place_below none x h = absurd (cc)
place_below (state y b kids rest) x h =
    elim (cases_Bool (bytes_eq y x)) [
      | inl t ↦ rw t (omega arith)
      | inr f ↦ rw f (let r = place_below rest x (rw (bytes_eq_apart_back y x f) at h) in omega (arith, r))
    ]

goto_fits : (p : Nested) (count : ℕ) → Grown p count → (j : ℕ) → j < count → (ss gs : List Name) (seat : Name) (group : Forest)
    → SeatFine (declarations p) seat group → ForestFine (declarations p) ss gs group → (x : Name) → is_among x (group_names group) ≡ true → Fit p (flat_goto seat group j x)
goto_fits p count g j l ss gs seat group sf fine x there =
    let kids = children_of group x in (
      under_fits p count g j l (seated seat group (place group x)) (seated_fits p count g seat group sf (place group x) (place_below group x there) (among_some x group there)),
      both_fit p (flat_first j x kids) (flat_restart j kids)
          (first_fits p count g j l x kids (children_seat (declarations p) ss gs group fine x))
          (restart_fits p count g j l ss (group_names kids) kids (children_fine (declarations p) ss gs group fine x)),
    )

-- a gate is set
gate_fits : (p : Nested) (count : ℕ) → Grown p count → (k : ℕ) → k < count → (t : Term Name)
    → TermFine (shapes (flattened p)) (readable (flattened p)) 1 t → ActionFine (flattened p) (set (gate_name k) t)
gate_fits p count g k l t f = (1, g.gate_set k l, f)

body_fits : (p : Nested) (count : ℕ) → Grown p count → (ss : List Name) (seat : Name) (group : Forest)
    → SeatFine (declarations p) seat group → ForestFine (declarations p) ss (group_names group) group → (fell : ℕ) → fell < count
    → (nested : Bool) (b : Body) → BodyFine (declarations p) ss (group_names group) nested b → (j k : ℕ) → j < count
    → (flat_body seat group fell b j k).next ≤ count → Fit p (flat_body seat group fell b j k).commands
body_fits p count g ss seat group sf gf fell lf nested stop f j k l m = tt
body_fits p count g ss seat group sf gf fell lf nested (act a rest) f j k l m = (
  under_fits p count g j l a (action_grows p count g a f.0),
  body_fits p count g ss seat group sf gf fell lf nested rest f.2 j k l m,
)
body_fits p count g ss seat group sf gf fell lf nested (cases t y n rest) f j k l m =
    let fy = flat_body seat group fell y k (k + 2) in
    let fn = flat_body seat group fell n (k + 1) fy.next in
    let fr = flat_body seat group fell rest j fn.next in
    let ly = body_grows seat group fell y k (k + 2) in
    let ln = body_grows seat group fell n (k + 1) fy.next in
    let lr = body_grows seat group fell rest j fn.next in
    let tf = term_grows (shapes (declarations p)) (readable (declarations p)) (readable (flattened p)) g.reads 1 t f.0 in
    let here : k < count = omega (arith, ly, ln, lr, m) in
    let next : k + 1 < count = omega (arith, ly, ln, lr, m) in
    let zero_test : TermFine (shapes (flattened p)) (readable (flattened p)) 1 (is_number (read (gate_name k)) 1 0) =
    (1, 1, one_wide, one_wide, g.gate_read k here, (refl, omega arith), refl, refl) in (
      under_fits p count g j l (set (gate_name k) t) (gate_fits p count g k here t tf),
      (
        under_fits p count g j l (set (gate_name (k + 1)) (is_number (read (gate_name k)) 1 0)) (gate_fits p count g (k + 1) next (is_number (read (gate_name k)) 1 0) zero_test),
        both_fit p (fy.commands ++ fn.commands) fr.commands
            (both_fit p fy.commands fn.commands (body_fits p count g ss seat group sf gf fell lf nested y f.1 k (k + 2) here
            (omega (arith, ln, lr, m))) (body_fits p count g ss seat group sf gf fell lf nested n f.2 (k + 1) fy.next next (omega (arith, lr, m))))
            (body_fits p count g ss seat group sf gf fell lf nested rest f.3 j fn.next l m),
      ),
    )
body_fits p count g ss seat group sf gf fell lf nested (goto x rest) f j k l m =
    both_fit p (flat_goto seat group j x) (flat_body seat group fell rest j k).commands
    (goto_fits p count g j l ss (group_names group) seat group sf gf x f.0) (body_fits p count g ss seat group sf gf fell lf nested rest f.1 j k l m)
body_fits p count g ss seat group sf gf fell lf nested (fall rest) f j k l m = (
  under_fits p count g j l (set (gate_name fell) (constant 1 1)) (gate_fits p count g fell lf (constant 1 1) (refl, omega arith)),
  body_fits p count g ss seat group sf gf fell lf nested rest f.1 j k l m,
)

gates_fit : (p : Nested) (count : ℕ) → Grown p count → (c : Term Name) → TermFine (shapes (flattened p)) (readable (flattened p)) 1 c
    → (seat : Name) (u : ℕ) → IsWidth u → (f : Forest) → (has_states f ≡ true → find (readable (flattened p)) seat ≡ Some u) → (i j : ℕ)
    → i + size f ≤ 2 ^ u → j + size f ≤ count → Fit p (flat_gates c seat u f i j)
gates_fit p count g c cf seat u w none sf i j l m = tt
gates_fit p count g c cf seat u w (state x b kids rest) sf i j l m =
    let found = sf refl in (
      (
        cf,
        gate_fits p count g j (omega (arith, m)) (is_number (read seat) u i) (u, u, w, w, found, (refl, omega (arith, l)), refl, refl),
      ),
      gates_fit p count g c cf seat u w rest (λ t. found) (i + 1) (j + 1) (omega (arith, l)) (omega (arith, m)),
    )

-- the gates of a group, by its register
group_gates_fit : (p : Nested) (count : ℕ) → Grown p count → (c : Term Name) → TermFine (shapes (flattened p)) (readable (flattened p)) 1 c
    → (seat : Name) (f : Forest) → SeatFine (declarations p) seat f
    → (has_states f ≡ true → find (readable (declarations p)) seat ≡ Some (seat_width (size f))) → (j : ℕ) → j + size f ≤ count
    → Fit p (flat_gates c seat (seat_width (size f)) f 0 j)
group_gates_fit p count g c cf seat f sf found j m =
    gates_fit p count g c cf seat (seat_width (size f)) (width_fine (size f)) f (λ t. g.reads seat (seat_width (size f)) (found t)) 0 j
    (let q = seat_size p seat f sf in omega (arith, q)) m

pub group_fits : (p : Nested) (count : ℕ) → Grown p count
    → ((x : Name) (f : Forest) → SeatFine (declarations p) x f → has_states f ≡ true
    → find (readable (declarations p)) x ≡ Some (seat_width (size f))) → (ss : List Name) (seat : Name) (group : Forest)
    → SeatFine (declarations p) seat group → ForestFine (declarations p) ss (group_names group) group → (f : Forest)
    → ForestFine (declarations p) ss (group_names group) f → (j k : ℕ) → j + size f ≤ k → (flat_group seat group f j k).next ≤ count → Fit p (flat_group seat group f j k).commands
group_fits p count g found ss seat group sf gf none fine j k l m = tt
group_fits p count g found ss seat group sf gf (state x b kids rest) fine j k l m =
    let d = flat_body seat group k b j (k + 1 + size kids) in
    let c = flat_group (seat_name x) kids kids (k + 1) d.next in
    let r = flat_group seat group rest (j + 1) c.next in
    let gates : List Command = flat_gates (read (gate_name k)) (seat_name x) (seat_width (size kids)) kids 0 (k + 1) in
    let ld = body_grows seat group k b j (k + 1 + size kids) in
    let lc = group_grows (seat_name x) kids kids (k + 1) d.next in
    let lr = group_grows seat group rest (j + 1) c.next in
    let here : k < count = omega (arith, ld, lc, lr, m) in
    let fd = body_fits p count g ss seat group sf gf k here (has_states kids) b fine.0 j (k + 1 + size kids) (omega (arith, l, here)) (omega (arith, lc, lr, m)) in
    let fg = group_gates_fit p count g (read (gate_name k)) (g.gate_read k here) (seat_name x) kids fine.2 (found (seat_name x) kids fine.2)
    (k + 1) (omega (arith, ld, lc, lr, m)) in
    let fc = group_fits p count g found ss (seat_name x) kids fine.2 fine.3 kids fine.3 (k + 1) d.next (omega (arith, ld)) (omega (arith, lr, m)) in
    let fr = group_fits p count g found ss seat group sf gf rest fine.4 (j + 1) c.next (omega (arith, l, ld, lc)) m in
    both_fit p (d.commands ++ (gates ++ c.commands)) r.commands (both_fit p d.commands (gates ++ c.commands) fd (both_fit p gates c.commands fg fc)) fr

pub states_fit : (p : Nested) (count : ℕ) → Grown p count
    → ((x : Name) (f : Forest) → SeatFine (declarations p) x f → has_states f ≡ true
    → find (readable (declarations p)) x ≡ Some (seat_width (size f))) → (ss : List Name) (seat : Name) (f : Forest)
    → SeatFine (declarations p) seat f → ForestFine (declarations p) ss (group_names f) f → (flat_group seat f f 0 (size f)).next ≤ count
    → Fit p (flat_gates (constant 1 1) seat (seat_width (size f)) f 0 0 ++ (flat_group seat f f 0 (size f)).commands)
states_fit p count g found ss seat f sf fine m =
    let l = group_grows seat f f 0 (size f) in
    both_fit p (flat_gates (constant 1 1) seat (seat_width (size f)) f 0 0) (flat_group seat f f 0 (size f)).commands
    (group_gates_fit p count g (constant 1 1) (refl, omega arith) seat f sf (found seat f sf) 0 (omega (arith, l, m)))
    (group_fits p count g found ss seat f sf fine f fine 0 (size f) (omega arith) m)
