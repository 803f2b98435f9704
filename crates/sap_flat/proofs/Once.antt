-- Each body stands once in the flat program.
use Rattle.sap_lemmas.proofs.Common.{◌≡◌, ◌⊎◌, ◌&&◌, ℕ, ◌+◌, List, [], ◌∷◌, ◌++◌, map, filter, Some, Bool, true, false, not, sym, ap, ap₂, ◌∙◌, subst, refl, inl, inr, bytes_eq, cases_Bool, and_false, bytes_eq_same, equal_of_bytes_eq}
use Rattle.sap_net.proofs.NamesLemmas.{among_behind, among_front, found_among, not_found}
use Rattle.sap_maps.proofs.ScopeLemmas.{found_second}
use Rattle.sap_maps.specs.Prelude.{Name, Scope, find, Term, constant, read}
use Rattle.sap_net.specs.Prelude.{is_among, seat_name, root_seat}
use Rattle.sap_ir.specs.Prelude.{Action, set, put, Command, variable_names, memory_names, declared, assignable, ActionFine, Body, stop, act, cases, goto, fall, Forest, none, state, Nested, declarations, has_states, size, group_names, state_names, place, children_of, seats, seat_width, BodyFine, ForestFine, IsPlain}
use Rattle.sap_ir.specs.declared.guarded.Var.{Var}
use Rattle.sap_ir.specs.Plain.IsPlain.{keeps_seats}
use Rattle.sap_flat.specs.Gates.{gate_name}
use Rattle.sap_flat.specs.Flat.{under, is_number, seated, flat_first, flat_restart, flat_goto, flat_body, flat_gates, flat_group, flattened}
use Rattle.sap_flat.specs.Once.{body_actions, forest_actions, is_own, actions_of, BodiesOnce}
use Rattle.sap_flat.proofs.GateNames.{gate_not_among}

-- the actions of commands that are some body's
abbrev own : Nested → List Command → List Action
own p cs = filter (is_own p) (actions_of cs)

both_own : (p : Nested) (cs ds : List Command) → own p (cs ++ ds) ≡ own p cs ++ own p ds
both_own p [] ds = refl
both_own p (c ∷ cs) ds =
    elim (cases_Bool (is_own p c.act)) [
      | inl t ↦ rw t (ap (λ (xs : List Action). c.act ∷ xs) (both_own p cs ds))
      | inr f ↦ rw f (both_own p cs ds)
    ]

one_more : (p : Nested) (c : Command) (cs : List Command) → is_own p c.act ≡ true → own p (c ∷ cs) ≡ c.act ∷ own p cs
one_more p c cs h = rw h refl

none_more : (p : Nested) (c : Command) (cs : List Command) → is_own p c.act ≡ false → own p (c ∷ cs) ≡ own p cs
none_more p c cs h = rw h refl

-- gates, and registers of current children

abbrev GatesDiffer : Nested → Type 0
GatesDiffer p = (k : ℕ) → is_among (gate_name k) (declared (declarations p)) ≡ false

gate_other : (p : Nested) → GatesDiffer p → (k : ℕ) (t : Term Name) → is_own p (set (gate_name k) t) ≡ false
gate_other p g k t = rw (g k) refl

seat_other : (p : Nested) (x : Name) (t : Term Name) → is_among x (seats p) ≡ true → is_own p (set x t) ≡ false
seat_other p x t h = rw h (and_false (is_among x (declared (declarations p))))

-- the registers of the states of a group, and of all below, are among these
abbrev AreSeats : List Name → Forest → Type 0
AreSeats fixed none = Unit {0}
AreSeats fixed (state x b kids rest) = (is_among (seat_name x) fixed ≡ true) × AreSeats fixed kids × AreSeats fixed rest

seats_of : (fixed : List Name) (f : Forest) → ((x : Name) → is_among x (state_names f) ≡ true → is_among (seat_name x) fixed ≡ true) → AreSeats fixed f
seats_of fixed none h = tt
seats_of fixed (state x b kids rest) h = (
  h x (among_front x (x ∷ []) (state_names kids ++ state_names rest) (rw (bytes_eq_same x) refl)),
  seats_of fixed kids (λ y a. h y (among_behind y (x ∷ []) (state_names kids ++ state_names rest) (among_front y (state_names kids) (state_names rest) a))),
  seats_of fixed rest (λ y a. h y (among_behind y (x ∷ []) (state_names kids ++ state_names rest) (among_behind y (state_names kids) (state_names rest) a))),
)

children_seats : (fixed : List Name) (f : Forest) (x : Name) → AreSeats fixed f → AreSeats fixed (children_of f x)
children_seats fixed none x h = tt
children_seats fixed (state y b kids rest) x h =
    elim (cases_Bool (bytes_eq y x)) [ inl t ↦ rw t h.1 | inr f ↦ rw f (children_seats fixed rest x h.2) ]

first_own : (p : Nested) (j : ℕ) (x : Name) (kids : Forest) → is_among (seat_name x) (seats p) ≡ true → own p (flat_first j x kids) ≡ []
first_own p j x none h = refl
first_own p j x (state y b kids rest) h =
    let here = state y b kids rest in
    none_more p (under j (seated (seat_name x) here 0)) [] (seat_other p (seat_name x) (constant (seat_width (size here)) 0) h)

restart_own : (p : Nested) (j : ℕ) (f : Forest) → AreSeats (seats p) f → own p (flat_restart j f) ≡ []
restart_own p j none h = refl
restart_own p j (state x b kids rest) h =
    both_own p (flat_first j x kids) (flat_restart j kids ++ flat_restart j rest)
    ∙ rw (first_own p j x kids h.0) (both_own p (flat_restart j kids) (flat_restart j rest) ∙ rw (restart_own p j kids h.1) (restart_own p j rest h.2))

-- the group of a target, where it has one
target_own : (p : Nested) (group : Forest) (j : ℕ) (x : Name) → AreSeats (seats p) group → own p (flat_first j x (children_of group x)) ≡ []
target_own p none j x h = refl
target_own p (state y b kids rest) j x h =
    elim (cases_Bool (bytes_eq y x)) [
      | inl t ↦ rw t (first_own p j x kids (subst (λ (z : Name). is_among (seat_name z) (seats p) ≡ true) (equal_of_bytes_eq y x t) h.0))
      | inr f ↦ rw f (target_own p rest j x h.2)
    ]

goto_own : (p : Nested) (seat : Name) (group : Forest) (j : ℕ) (x : Name) → is_among seat (seats p) ≡ true → AreSeats (seats p) group → own p (flat_goto seat group j x) ≡ []
goto_own p seat group j x s h =
    let kids = children_of group x in
    none_more p (under j (seated seat group (place group x))) (flat_first j x kids ++ flat_restart j kids)
    (seat_other p seat (constant (seat_width (size group)) (place group x)) s)
    ∙ both_own p (flat_first j x kids) (flat_restart j kids)
    ∙ rw (target_own p group j x h) (restart_own p j kids (children_seats (seats p) group x h))

gates_own : (p : Nested) → GatesDiffer p → (c : Term Name) (seat : Name) (u : ℕ) (f : Forest) (i j : ℕ) → own p (flat_gates c seat u f i j) ≡ []
gates_own p g c seat u none i j = refl
gates_own p g c seat u (state x b kids rest) i j =
    none_more p (record { when = c; act = set (gate_name j) (is_number (read seat) u i) }) (flat_gates c seat u rest (i + 1) (j + 1)) (gate_other p g j (is_number (read seat) u i))
    ∙ gates_own p g c seat u rest (i + 1) (j + 1)

-- bodies

assigned_own : (b c : Bool) → b ≡ true → not c ≡ true → (b && not c) ≡ true
assigned_own b c h k = rw (h, k) refl

assigned_among : (p : Nested) (x : Name) (u : ℕ) → find (assignable (declarations p)) x ≡ Some u
    → (is_among x (variable_names p.registers) ≡ true) ⊎ (is_among x (variable_names p.wires) ≡ true)
assigned_among p x u h =
    let rs : Scope = map (λ r. (r.name, r.width)) p.registers in
    let ws : Scope = map (λ r. (r.name, r.width)) p.wires in
    elim (cases_Bool (is_among x (variable_names p.registers))) [
      | inl t ↦ inl t
      | inr f ↦ inr (found_among (λ (r : Var). r.name) (λ r. r.width) p.wires x u (sym (found_second rs ws x (not_found (λ (r : Var). r.name) (λ r. r.width) p.registers x f)) ∙ h))
    ]

assigned_declared : (p : Nested) (x : Name) (u : ℕ) → find (assignable (declarations p)) x ≡ Some u → is_among x (declared (declarations p)) ≡ true
assigned_declared p x u h =
    let I = variable_names p.inputs in
    let R = variable_names p.registers in
    let W = variable_names p.wires in
    let M = memory_names p.memories in
    among_behind x I (R ++ (W ++ M))
    (elim (assigned_among p x u h) [ inl a ↦ among_front x R (W ++ M) a | inr a ↦ among_behind x R (W ++ M) (among_front x W M a) ])

action_own : (p : Nested) (a : Action) → ActionFine (declarations p) a → keeps_seats (seats p) a ≡ true → is_own p a ≡ true
action_own p (set x t) f k = assigned_own (is_among x (declared (declarations p))) (is_among x (seats p)) (assigned_declared p x f.0 f.1) k
action_own p (put m i t) f k = refl

body_own : (p : Nested) → GatesDiffer p → (seat : Name) (group : Forest) → is_among seat (seats p) ≡ true → AreSeats (seats p) group
    → (fell : ℕ) (gs : List Name) (nested : Bool) (b : Body) → BodyFine (declarations p) (seats p) gs nested b → (j k : ℕ)
    → own p (flat_body seat group fell b j k).commands ≡ body_actions b
body_own p g seat group s h fell gs nested stop f j k = refl
body_own p g seat group s h fell gs nested (act a rest) f j k =
    one_more p (under j a) (flat_body seat group fell rest j k).commands (action_own p a f.0 f.1)
    ∙ ap (λ (xs : List Action). a ∷ xs) (body_own p g seat group s h fell gs nested rest f.2 j k)
body_own p g seat group s h fell gs nested (cases t y n rest) f j k =
    let fy = flat_body seat group fell y k (k + 2) in
    let fn = flat_body seat group fell n (k + 1) fy.next in
    let fr = flat_body seat group fell rest j fn.next in
    let parts = (fy.commands ++ fn.commands) ++ fr.commands in
    let second = under j (set (gate_name (k + 1)) (is_number (read (gate_name k)) 1 0)) in
    none_more p (under j (set (gate_name k) t)) (second ∷ parts) (gate_other p g k t)
    ∙ none_more p second parts (gate_other p g (k + 1) (is_number (read (gate_name k)) 1 0))
    ∙ both_own p (fy.commands ++ fn.commands) fr.commands
    ∙ ap₂ (λ (xs ys : List Action). xs ++ ys)
    (both_own p fy.commands fn.commands
    ∙ ap₂ (λ (xs ys : List Action). xs ++ ys)
    (body_own p g seat group s h fell gs nested y f.1 k (k + 2))
    (body_own p g seat group s h fell gs nested n f.2 (k + 1) fy.next))
    (body_own p g seat group s h fell gs nested rest f.3 j fn.next)
body_own p g seat group s h fell gs nested (goto x rest) f j k =
    both_own p (flat_goto seat group j x) (flat_body seat group fell rest j k).commands
    ∙ rw (goto_own p seat group j x s h) (body_own p g seat group s h fell gs nested rest f.1 j k)
body_own p g seat group s h fell gs nested (fall rest) f j k =
    none_more p (under j (set (gate_name fell) (constant 1 1))) (flat_body seat group fell rest j k).commands (gate_other p g fell (constant 1 1))
    ∙ body_own p g seat group s h fell gs nested rest f.1 j k

group_own : (p : Nested) → GatesDiffer p → (seat : Name) (group : Forest) → is_among seat (seats p) ≡ true → AreSeats (seats p) group
    → (gs : List Name) (f : Forest) → ForestFine (declarations p) (seats p) gs f → AreSeats (seats p) f → (j k : ℕ)
    → own p (flat_group seat group f j k).commands ≡ forest_actions f
group_own p g seat group s h gs none fine fs j k = refl
group_own p g seat group s h gs (state x b kids rest) fine fs j k =
    let d = flat_body seat group k b j (k + 1 + size kids) in
    let c = flat_group (seat_name x) kids kids (k + 1) d.next in
    let r = flat_group seat group rest (j + 1) c.next in
    let gates : List Command = flat_gates (read (gate_name k)) (seat_name x) (seat_width (size kids)) kids 0 (k + 1) in
    let below : own p (gates ++ c.commands) ≡ forest_actions kids =
    both_own p gates c.commands
    ∙ rw (gates_own p g (read (gate_name k)) (seat_name x) (seat_width (size kids)) kids 0 (k + 1))
    (group_own p g (seat_name x) kids fs.0 fs.1 (group_names kids) kids fine.3 fs.1 (k + 1) d.next) in
    both_own p (d.commands ++ (gates ++ c.commands)) r.commands
    ∙ ap₂ (λ (xs ys : List Action). xs ++ ys)
    (both_own p d.commands (gates ++ c.commands)
    ∙ ap₂ (λ (xs ys : List Action). xs ++ ys) (body_own p g seat group s h k gs (has_states kids) b fine.0 j (k + 1 + size kids)) below)
    (group_own p g seat group s h gs rest fine.4 fs.2 (j + 1) c.next)

seat_among : (x : Name) (xs : List Name) → is_among x xs ≡ true → is_among (seat_name x) (map seat_name xs) ≡ true
seat_among x [] h = absurd (cc)
seat_among x (y ∷ xs) h =
    elim (cases_Bool (bytes_eq x y)) [
      | inl t ↦ among_front (seat_name x) (seat_name y ∷ []) (map seat_name xs)
          (rw (subst (λ (z : Name). bytes_eq (seat_name x) (seat_name z) ≡ true) (equal_of_bytes_eq x y t) (bytes_eq_same (seat_name x))) refl)
      | inr f ↦ among_behind (seat_name x) (seat_name y ∷ []) (map seat_name xs) (seat_among x xs (rw f at h))
    ]

pub bodies_once : (p : Nested) → IsPlain p → BodiesOnce p (flattened p)
bodies_once p h =
    let g : GatesDiffer p = λ k. gate_not_among k (declared (declarations p)) h.declares.named h.not_gates in
    let f = p.states in
    let fs = seats_of (seats p) f (λ x a. among_behind (seat_name x) (root_seat ∷ []) (map seat_name (state_names f)) (seat_among x (state_names f) a)) in
    let s : is_among root_seat (seats p) ≡ true = refl in
    both_own p (flat_gates (constant 1 1) root_seat (seat_width (size f)) f 0 0) (flat_group root_seat f f 0 (size f)).commands
    ∙ rw (gates_own p g (constant 1 1) root_seat (seat_width (size f)) f 0 0) (group_own p g root_seat f s fs (group_names f) f h.states_fine fs 0 (size f))
