-- Cycles of a module that agree and look alike at low, and cycles that don't.
use Rattle.sap_lemmas.proofs.Common.{◌≡◌, ◌<◌, ◌≤◌, ◌^◌, ◌↔◌, ℕ, zero, suc, true, false, List, [], ◌∷◌, refl, sym, ap, ◌∙◌, subst, inl, inr, arith, common_steps, nat_eq, cases_Bool, eqb-false, true_is_not_false, if◌then◌else◌}
use Rattle.std.specs.Fmt.{digits}
use Rattle.sap_lattice.specs.Prelude.{code_of, meet_irreducibles}
use Rattle.sap_maps.specs.Maps.{Valuation}
use Rattle.sap_meaning.specs.Prelude.{authority, children, entity, is_dynamic, is_register, is_memory, is_state, width, Store, Slot, own, start, next, start_whole, next_whole, owner, held, number, level, same_slot, Refusal, put_number, put_level, first, first_level, Alike, Low, High, SlotsAlike, StatesAgree, Resting, path_from, ActiveState, active_path, child, PathsRelated, LookAlike}
use Rattle.sap_meaning.specs.Codes.{IsLowCode, IsHighCode}
use Rattle.sap_meaning.specs.Sites.{numbers_from, refused_sites, Sublist}
use Rattle.sap_meaning.specs.Examples.{two_levels, enforced_states, refused_at}
use Rattle.sap_net.specs.PortNames.{refused_name, refused_level_name}
use Rattle.sap_interface.specs.StandsFor.{world, StandsFor, IsRefused, IsRefusedAt}
use Rattle.sap_compile.specs.Agree.{IsState, IsToldAt, AreChildren, shown_value, shown_tag}
use Rattle.sap_compile.specs.Comparing.{compared_design, numbers_of, calm, ComparedCycles, ComparedNumbers}
use Rattle.sap_compile.proofs.Agreeing.{in_seen, from_seen}

abbrev code : ℕ → ℕ
code = code_of two_levels

low_zero : IsLowCode two_levels code 0 0
unfolding code_of meet_irreducibles
low_zero = (0, omega arith, refl, refl)

high_one : IsHighCode two_levels code 0 1
unfolding code_of meet_irreducibles
high_one = (1, omega arith, refl, refl)

-- 0 is not the code of high, and 1 is not that of low
not_high : IsHighCode two_levels code 0 0 → ⊥
unfolding code_of meet_irreducibles
not_high (zero, below, is, above) = true_is_not_false above
not_high (suc zero, below, is, above) = eqb-false 1 0 refl is
not_high (suc (suc t), below, is, above) = absurd (omega (arith, below))

not_low : IsLowCode two_levels code 0 1 → ⊥
unfolding code_of meet_irreducibles
not_low (zero, below, is, at) = eqb-false 0 1 refl is
not_low (suc zero, below, is, at) = true_is_not_false (sym at)
not_low (suc (suc t), below, is, at) = absurd (omega (arith, below))

-- a level whose code is 0 is low
of_low : (t : ℕ) → 0 ≡ code t → two_levels.le t 0 ≡ true
unfolding code_of meet_irreducibles
of_low t is = elim (cases_Bool (two_levels.le t 0)) [ inl low ↦ low | inr high ↦ (let one : 0 ≡ 1 = rw high at is in absurd (eqb-false 0 1 refl one)) ]

low_not_high : (t : ℕ) → 0 ≡ code t → High two_levels 0 t → ⊥
low_not_high t is high = true_is_not_false (sym (of_low t is) ∙ high)

-- the entities of the design, and what is past them

one_register : (P : ℕ → Type 0) → P 1 → (x : ℕ) → is_register (world compared_design) x ≡ true → P x
one_register P p zero e = absurd (true_is_not_false (sym e))
one_register P p (suc zero) e = p
one_register P p (suc (suc zero)) e = absurd (true_is_not_false (sym e))
one_register P p (suc (suc (suc zero))) e = absurd (true_is_not_false (sym e))
one_register P p (suc (suc (suc (suc x)))) e = absurd (true_is_not_false (sym e))

no_memory : (m : ℕ) → is_memory (world compared_design) m ≡ true → ⊥
no_memory zero e = true_is_not_false (sym e)
no_memory (suc zero) e = true_is_not_false (sym e)
no_memory (suc (suc zero)) e = true_is_not_false (sym e)
no_memory (suc (suc (suc zero))) e = true_is_not_false (sym e)
no_memory (suc (suc (suc (suc m)))) e = true_is_not_false (sym e)

two_enforced : (P : ℕ → Type 0) → P 2 → P 3 → (x : ℕ) → is_dynamic (world compared_design) x ≡ false → P x
two_enforced P s t zero e = absurd (true_is_not_false e)
two_enforced P s t (suc zero) e = absurd (true_is_not_false e)
two_enforced P s t (suc (suc zero)) e = s
two_enforced P s t (suc (suc (suc zero))) e = t
two_enforced P s t (suc (suc (suc (suc x)))) e = absurd (true_is_not_false e)

two_states : (P : ℕ → Type 0) → P 2 → P 3 → (x : ℕ) → is_state (world compared_design) x ≡ true → x < 4 → P x
two_states P s t zero e below = absurd (true_is_not_false (sym e))
two_states P s t (suc zero) e below = absurd (true_is_not_false (sym e))
two_states P s t (suc (suc zero)) e below = s
two_states P s t (suc (suc (suc zero))) e below = t
two_states P s t (suc (suc (suc (suc x)))) e below = absurd (omega (arith, below))

no_parent : (p : ℕ) → p < 4 → 0 < children (world compared_design) p → ⊥
no_parent zero below some = omega (arith, some)
no_parent (suc zero) below some = omega (arith, some)
no_parent (suc (suc zero)) below some = omega (arith, some)
no_parent (suc (suc (suc zero))) below some = omega (arith, some)
no_parent (suc (suc (suc (suc p)))) below some = omega (arith, below)

-- a number past the last entity
past : (x : ℕ) → nat_eq (suc (suc (suc (suc x)))) 1 ≡ false
past x = grind (arith, common_steps)

three_sites : (P : ℕ → Type 0) → P 1 → P 2 → P 3 → (k : ℕ) → 1 ≤ k → k ≤ 3 → P k
three_sites P a b c zero i j = absurd (omega (arith, i))
three_sites P a b c (suc zero) i j = a
three_sites P a b c (suc (suc zero)) i j = b
three_sites P a b c (suc (suc (suc zero))) i j = c
three_sites P a b c (suc (suc (suc (suc k)))) i j = absurd (omega (arith, j))

each : (P : ℕ → Type 0) → P 0 → P 1 → P 2 → P 3 → ((x : ℕ) → P (suc (suc (suc (suc x))))) → (x : ℕ) → P x
each P a b c d e zero = a
each P a b c d e (suc zero) = b
each P a b c d e (suc (suc zero)) = c
each P a b c d e (suc (suc (suc zero))) = d
each P a b c d e (suc (suc (suc (suc x)))) = e x

-- states in which x is high

abbrev with_x : ℕ → Store
with_x n = put_level (world compared_design) (own 1) 1 (put_number (own 1) n (first (world compared_design)))

abbrev shows_x : (n refused tag : ℕ) → Valuation
shows_x n refused tag = numbers_of (record calm { x = n; x_tag = 1; refused = refused; refused_tag = tag })

above : (n : ℕ) (z : Slot) → held (world compared_design) z ≡ true → is_dynamic (world compared_design) (owner z) ≡ false
    → two_levels.le (authority (world compared_design) (owner z)) (level (world compared_design) z (with_x n)) ≡ true
unfolding first put_number put_level
above n (own x) h e =
    two_enforced (λ x. two_levels.le (authority (world compared_design) x) (level (world compared_design) (own x) (with_x n)) ≡ true) refl refl x e
above n (start m i) h e = absurd (no_memory m h)
above n (next m i) h e = absurd (no_memory m h)
above n (start_whole m) h e = absurd (true_is_not_false (sym h))
above n (next_whole m) h e = absurd (true_is_not_false (sym h))

rests : (n : ℕ) → Resting (world compared_design) (with_x n)
unfolding first put_number put_level
rests n = record {
  holds = record { above = above n; seated = λ p some. some };
  rests = record {
    numbers = λ m i. refl;
    levels = λ m i. each (λ m. level (world compared_design) (start m i) (with_x n) ≡ level (world compared_design) (next m i) (with_x n)) refl refl refl refl (λ m. refl) m;
  };
}

some_below : (m : ℕ) → 0 < 2 ^ width (world compared_design) m
some_below = each (λ m. 0 < 2 ^ width (world compared_design) m) (omega arith) (omega arith) (omega arith) (omega arith) (λ m. omega arith)

numbers_fit : (n : ℕ) → n < 2 ^ 8 → (z : Slot) → number z (with_x n) < 2 ^ width (world compared_design) (owner z)
unfolding first put_number put_level
numbers_fit n small (own x) =
    each (λ x. number (own x) (with_x n) < 2 ^ width (world compared_design) x) (some_below 0) small (some_below 2) (some_below 3)
    (λ x. rw (past x) (some_below (suc (suc (suc (suc x)))))) x
numbers_fit n small (start m i) = some_below m
numbers_fit n small (next m i) = some_below m
numbers_fit n small (start_whole m) = some_below m
numbers_fit n small (next_whole m) = some_below m

first_below : (z : Slot) → first_level (world compared_design) z < 2
first_below z = each (λ x. (if is_dynamic (world compared_design) x then 0 else (entity (world compared_design) x).declared) < 2)
    (omega arith) (omega arith) (omega arith) (omega arith) (λ x. omega arith) (owner z)

levels_fit : (n : ℕ) (z : Slot) → (with_x n).level z < 2
unfolding first put_number put_level
levels_fit n z = elim (cases_Bool (same_slot z (own 1))) [ inl is ↦ rw is (omega arith) | inr is ↦ rw is (first_below z) ]

is_state_of : (n : ℕ) → n < 2 ^ 8 → IsState compared_design (with_x n)
is_state_of n small = record { rests = rests n; fits = record { numbers = numbers_fit n small; levels = levels_fit n } }

stands : (n refused tag : ℕ) (rs : List Refusal) → Sublist (refused_sites rs) (numbers_from 1 3)
    → ((k : ℕ) → 1 ≤ k → k ≤ 3 → ((shows_x n refused tag).value (refused_name k) ≡ 1) ↔ IsRefused rs k)
    → ((k t : ℕ) → IsRefusedAt rs k t → (shows_x n refused tag).value (refused_level_name k) ≡ code t)
    → StandsFor compared_design 3 (shows_x n refused tag) (with_x n) rs
unfolding first put_number put_level code_of meet_irreducibles
stands n refused tag rs sites refusals levels = record {
  register_values = one_register (λ x. shown_value compared_design (shows_x n refused tag) x ≡ number (own x) (with_x n)) refl;
  register_tags = one_register (λ x. shown_tag compared_design (shows_x n refused tag) x ≡ code (level (world compared_design) (own x) (with_x n))) refl;
  cells = λ m i is below. absurd (no_memory m is);
  cell_tags = λ m i is e below. absurd (no_memory m is);
  memory_tags = λ m is d. absurd (no_memory m is);
  state_tags = two_states (λ x. shown_tag compared_design (shows_x n refused tag) x ≡ code (level (world compared_design) (own x) (with_x n))) refl refl;
  seats = λ p below some. absurd (no_parent p below some);
  root_seat = refl;
  refused_sites = sites;
  refusals = refusals;
  refusal_levels = levels;
}

-- site 1 is refused at high, and no other

at_one : (k : ℕ) → 1 ≤ k → k ≤ 3 → ((shows_x 5 1 1).value (refused_name k) ≡ 1) ↔ IsRefused (refused_at 1 1 ∷ []) k
unfolding digits
at_one = three_sites (λ k. ((shows_x 5 1 1).value (refused_name k) ≡ 1) ↔ IsRefused (refused_at 1 1 ∷ []) k)
    (λ e. (1, inl (refl, refl)), λ r. refl)
    (λ e. absurd (eqb-false 0 1 refl e), λ r. absurd (elim r.1 [ inl e ↦ eqb-false 1 2 refl e.0 | inr e ↦ e ]))
    (λ e. absurd (eqb-false 0 1 refl e), λ r. absurd (elim r.1 [ inl e ↦ eqb-false 1 3 refl e.0 | inr e ↦ e ]))

at_high : (k t : ℕ) → IsRefusedAt (refused_at 1 1 ∷ []) k t → (shows_x 5 1 1).value (refused_level_name k) ≡ code t
unfolding digits code_of meet_irreducibles
at_high k t (inl e) =
    subst (λ (j : ℕ). (shows_x 5 1 1).value (refused_level_name j) ≡ code t) e.0
    (subst (λ (u : ℕ). (shows_x 5 1 1).value (refused_level_name 1) ≡ code u) e.1 refl)
at_high k t (inr e) = absurd e

nowhere : (k : ℕ) → 1 ≤ k → k ≤ 3 → ((shows_x 6 0 0).value (refused_name k) ≡ 1) ↔ IsRefused [] k
unfolding digits
nowhere = three_sites (λ k. ((shows_x 6 0 0).value (refused_name k) ≡ 1) ↔ IsRefused [] k)
    (λ e. absurd (eqb-false 0 1 refl e), λ r. absurd r.1) (λ e. absurd (eqb-false 0 1 refl e), λ r. absurd r.1) (λ e. absurd (eqb-false 0 1 refl e), λ r. absurd r.1)

high_states : StatesAgree enforced_states 0 (with_x 5) (with_x 6)
unfolding first put_number put_level
high_states = record {
  registers = one_register (λ x. SlotsAlike (world compared_design) 0 (own x) (with_x 5) (with_x 6)) (inr (refl, refl));
  enforced_memories = λ m i is e. absurd (no_memory m is);
  dynamic_memories = λ m is d. absurd (no_memory m is);
  enforced_levels = λ z h e low. refl;
  paths = inl ((refl, tt), refl, refl);
}

-- the active path from a child of the root on
abbrev path_at : Store → ℕ → List ActiveState
path_at s n = path_from (λ x. child x s) (λ x. level (world compared_design) (own x) s) enforced_states.states n

-- S at low and T aren't related
one_child : (s t : Store) → 0 ≡ child 4 s → 1 ≡ child 4 t → two_levels.le (level (world compared_design) (own 2) s) 0 ≡ true
    → PathsRelated (Alike two_levels 0) (active_path enforced_states s) (active_path enforced_states t) → ⊥
one_child s t e f low r =
    let closed : PathsRelated (Alike two_levels 0) (path_at s 0) (path_at t 1) =
    subst (λ (m : ℕ). PathsRelated (Alike two_levels 0) (path_at s m) (path_at t 1)) (sym e)
    (subst (λ (m : ℕ). PathsRelated (Alike two_levels 0) (path_at s (child 4 s)) (path_at t m)) (sym f) r) in
    elim closed [ inl g ↦ eqb-false 2 3 refl g.0.0 | inr g ↦ true_is_not_false (sym low ∙ g.0) ]

pub cycles : ComparedCycles
unfolding digits code_of meet_irreducibles
cycles = record {
  high_things = record {
    one = record { store = with_x 5; refused = refused_at 1 1 ∷ [] };
    other = record { store = with_x 6; refused = [] };
    one_stands = stands 5 1 1 (refused_at 1 1 ∷ []) (inl (refl, tt)) at_one at_high;
    other_stands = stands 6 0 0 [] tt nowhere (λ k t is. absurd is);
    one_is_state = is_state_of 5 (omega arith);
    other_is_state = is_state_of 6 (omega arith);
    states = high_states;
    refusals = refl;
  };
  register = λ a. elim (a.states.registers 1 refl) [
    | inl e ↦ eqb-false 5 6 refl (a.one_stands.register_values 1 refl ∙ e.0 ∙ sym (a.other_stands.register_values 1 refl))
    | inr e ↦ low_not_high _ (a.one_stands.register_tags 1 refl) e.0
  ];
  tag = λ a. elim (a.states.registers 1 refl) [
    | inl e ↦ eqb-false 0 1 refl (a.one_stands.register_tags 1 refl ∙ ap code e.1 ∙ sym (a.other_stands.register_tags 1 refl))
    | inr e ↦ low_not_high _ (a.one_stands.register_tags 1 refl) e.0
  ];
  enforced_tag = λ a. eqb-false 1 0 refl
      (a.one_stands.state_tags 3 refl (omega arith) ∙ ap code (a.states.enforced_levels (own 3) refl refl refl) ∙ sym (a.other_stands.state_tags 3 refl (omega arith)));
  refusal = λ a.
      let r = (a.other_stands.refusals 1 (omega arith) (omega arith)).0 refl in
      let low = of_low r.0 (told_at a.other_stands r.0 r.1) in
      let seen_in_other = in_seen two_levels 0 a.other.refused 1 r.0 r.1 low in
      let in_one = from_seen two_levels 0 a.one.refused 1 r.0 (subst (λ (rs : List Refusal). IsRefusedAt rs 1 r.0) (sym a.refusals) seen_in_other) in
      eqb-false 0 1 refl ((a.one_stands.refusals 1 (omega arith) (omega arith)).1 (r.0, in_one));
  child = λ a. one_child a.one.store a.other.store a.one_stands.root_seat a.other_stands.root_seat (of_low _ (a.one_stands.state_tags 2 refl (omega arith))) a.states.paths;
}
  where
    told_at : {v : Valuation} {s : Store} {rs : List Refusal} → StandsFor compared_design 3 v s rs → (t : ℕ) → IsRefusedAt rs 1 t → v.value (refused_level_name 1) ≡ code t
    told_at p t is = p.refusal_levels 1 t is

-- what the numbers show

abbrev Told : (k n : ℕ) → Type 0
Told k n = IsToldAt compared_design 0 (shows_x 5 1 1) k n ↔ IsToldAt compared_design 0 (shows_x 6 0 0) k n

not_told : (n : ℕ) → IsToldAt compared_design 0 (shows_x 5 1 1) 1 n → ⊥
unfolding digits
not_told n t = not_low (subst (IsLowCode two_levels code 0) (sym t.1) t.2)

are_children : (n refused tag : ℕ) → AreChildren compared_design (shows_x n refused tag)
are_children n refused tag = record { of_root = λ some. omega arith; of_state = λ p below some. absurd (no_parent p below some) }

pub numbers : ComparedNumbers
unfolding digits
numbers = record {
  high_things = record {
    registers = one_register (λ x. LookAlike two_levels code 0 (shown_value compared_design (shows_x 5 1 1) x ≡ shown_value compared_design (shows_x 6 0 0) x)
        (shown_tag compared_design (shows_x 5 1 1) x) (shown_tag compared_design (shows_x 6 0 0) x)) (inr (high_one, high_one));
    cells = λ m i is e below. absurd (no_memory m is);
    memories = λ m is d. absurd (no_memory m is);
    register_tags = one_register (λ x. is_dynamic (world compared_design) x ≡ false → Low two_levels 0 (authority (world compared_design) x)
        → shown_tag compared_design (shows_x 5 1 1) x ≡ shown_tag compared_design (shows_x 6 0 0) x) (λ e low. absurd (true_is_not_false e));
    cell_tags = λ m i is e low below. absurd (no_memory m is);
    state_tags = two_states (λ x. is_dynamic (world compared_design) x ≡ false → Low two_levels 0 (authority (world compared_design) x)
        → shown_tag compared_design (shows_x 5 1 1) x ≡ shown_tag compared_design (shows_x 6 0 0) x) (λ e low. refl) (λ e low. refl);
    current = (are_children 5 1 1, are_children 6 0 0);
    paths = inl ((refl, tt), refl, low_zero);
    refusals = λ k n. three_sites (λ k. Told k n) (λ t. absurd (not_told n t), λ t. absurd (eqb-false 0 1 refl t.0)) (λ t. t, λ t. t) (λ t. t, λ t. t) k;
  };
  register = λ a. elim (a.registers 1 refl) [ inl e ↦ eqb-false 5 6 refl e.0 | inr e ↦ not_high e.0 ];
  tag = λ a. elim (a.registers 1 refl) [ inl e ↦ eqb-false 0 1 refl e.1 | inr e ↦ not_high e.0 ];
  enforced_tag = λ a. eqb-false 1 0 refl (a.state_tags 3 refl (omega arith) refl refl);
  refusal = λ a. eqb-false 0 1 refl ((a.refusals 1 0 (omega arith) (omega arith)).1 (refl, refl, low_zero)).0;
  child = λ a. elim a.paths [ inl e ↦ eqb-false 2 3 refl e.0.0 | inr e ↦ not_high e.0 ];
}
