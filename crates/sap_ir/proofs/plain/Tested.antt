-- What passes the test is what the type keeps.
use Rattle.sap_lemmas.proofs.Common.{◌≡◌, ℕ, ◌^◌, ◌&&◌, ◌==◌, List, map, Option, Some, None, Bool, true, not, ap₂, nat_le, and_parts, leb-true, not-true, three_parts, all_of_test, equal_of_test}
use Rattle.sap_lemmas.proofs.Bools.{five_parts}
use Rattle.sap_ir.proofs.TestLemmas.{distinct_from}
use Rattle.sap_maps.specs.Prelude.{Name, find, read}
use Rattle.sap_tree.specs.Words.{is_name}
use Rattle.sap_tree.specs.declared.version.Version.TheVariants.{One}
use Rattle.sap_net.specs.Prelude.{is_among, seat_name, root_seat}
use Rattle.sap_ir.specs.Source.{Action, set, Source}
use Rattle.sap_ir.specs.IsGuarded.{declared}
use Rattle.sap_ir.specs.Test.{of_shape, value_is_fine, action_is_fine, is_guarded}
use Rattle.sap_ir.proofs.Tested.{guarded_from}
use Rattle.sap_ir.specs.Plain.Nested.{Body, stop, act, cases, goto, fall, Forest, none, state, Nested, declarations, has_states, size, group_names, state_names, seats, seat_width}
use Rattle.sap_ir.specs.Plain.IsPlain.{is_gate, keeps_seats, BodyFine, ends_in_transfers, IsSeat, SeatFine, ForestFine, IsPlain}
use Rattle.sap_ir.specs.Plain.Test.{body_is_fine, is_seat, seat_is_fine, forest_is_fine, is_plain}
use Rattle.sap_ir.proofs.plain.SeatWidths.{seat_register}
use Rattle.sap_ir.proofs.plain.Actions.{action_from, test_from, action_to, itself_fine}

seven : (a b c d e f g : Bool) → (a && b && c && d && e && f && g) ≡ true → (a ≡ true) × (b ≡ true) × (c ≡ true) × (d ≡ true) × (e ≡ true) × (f ≡ true) × (g ≡ true)
seven a b c d e f g h =
    let p = and_parts (a && b && c && d && e && f) g h in
    let q = and_parts (a && b && c && d && e) f p.0 in
    let r = five_parts a b c d e q.0 in
    (r.0, r.1, r.2, r.3, r.4, q.1, p.1)

-- a is some action that is fine
body_from : (s : Source) (a : Action) → is_guarded s ≡ true → action_is_fine s a ≡ true → (ss gs : List Name) (nested : Bool) (b : Body)
    → body_is_fine s ss gs nested b ≡ true → BodyFine s ss gs nested b
body_from s a g k ss gs nested stop h = tt
body_from s a g k ss gs nested (act d rest) h =
    let p = three_parts (action_is_fine s d) (keeps_seats ss d) (body_is_fine s ss gs nested rest) h in
    (action_from s g d p.0, p.1, body_from s a g k ss gs nested rest p.2)
body_from s a g k ss gs nested (cases t y n rest) h =
    let p = and_parts (value_is_fine s t 1 && body_is_fine s ss gs nested y && body_is_fine s ss gs nested n) (body_is_fine s ss gs nested rest) h in
    let q = three_parts (value_is_fine s t 1) (body_is_fine s ss gs nested y) (body_is_fine s ss gs nested n) p.0 in (
      test_from s a g k t q.0,
      body_from s a g k ss gs nested y q.1,
      body_from s a g k ss gs nested n q.2,
      body_from s a g k ss gs nested rest p.1,
    )
body_from s a g k ss gs nested (goto x rest) h =
    let p = and_parts (is_among x gs) (body_is_fine s ss gs nested rest) h in (p.0, body_from s a g k ss gs nested rest p.1)
body_from s a g k ss gs nested (fall rest) h =
    let p = and_parts nested (body_is_fine s ss gs nested rest) h in (p.0, body_from s a g k ss gs nested rest p.1)

pair_from : (u : ℕ) (o : Option (ℕ × ℕ)) → of_shape (λ k. k == u) (λ n. n == 0) o ≡ true → o ≡ Some (u, 0)
pair_from u None h = absurd (cc)
pair_from u (Some e) h =
    let p = and_parts (e.0 == u) (e.1 == 0) h in ap₂ (λ (k j : ℕ). Some (k, j)) (equal_of_test e.0 u p.0) (equal_of_test e.1 0 p.1)

seat_is : (s : Source) (x : Name) (count : ℕ) → is_seat s x count ≡ true → IsSeat s x count
seat_is s x count h =
    let p = and_parts (of_shape (λ u. u == seat_width count) (λ n. n == 0) (find (map (λ r. (r.name, (r.width, r.start))) s.registers) x))
    (nat_le count (2 ^ seat_width count)) h in
    (pair_from (seat_width count) _ p.0, leb-true count (2 ^ seat_width count) p.1)

seat_from : (s : Source) (x : Name) (f : Forest) → seat_is_fine s x f ≡ true → SeatFine s x f
seat_from s x none h = tt
seat_from s x (state y b kids rest) h = seat_is s x (size (state y b kids rest)) h

forest_from : (s : Source) (a : Action) → is_guarded s ≡ true → action_is_fine s a ≡ true → (ss gs : List Name) (f : Forest)
    → forest_is_fine s ss gs f ≡ true → ForestFine s ss gs f
forest_from s a g k ss gs none h = tt
forest_from s a g k ss gs (state x b kids rest) h =
    let p = five_parts (body_is_fine s ss gs (has_states kids) b) (ends_in_transfers b) (seat_is_fine s (seat_name x) kids)
    (forest_is_fine s ss (group_names kids) kids) (forest_is_fine s ss gs rest) h in (
      body_from s a g k ss gs (has_states kids) b p.0,
      p.1,
      seat_from s (seat_name x) kids p.2,
      forest_from s a g k ss (group_names kids) kids p.3,
      forest_from s a g k ss gs rest p.4,
    )

pub plain_from : (p : Nested) → is_plain p ≡ true → IsPlain p
unfolding is_plain
plain_from p h =
    let s = declarations p in
    let q = seven _ _ _ _ _ _ _ h in
    let g = guarded_from s q.0 in
    let root = seat_from s root_seat p.states q.5 in
    let a = action_to s g (set root_seat (read root_seat)) (itself_fine s g.declared_once root_seat (seat_width (size p.states)) (seat_register s root_seat p.states q.2 root)) in
    record {
      declares = g;
      not_gates = all_of_test (λ x. not (is_gate x)) _ (λ x k. not-true (is_gate x) k) (declared s) q.1;
      some_state = q.2;
      states_named = all_of_test (is_name One) _ (λ x k. k) (state_names p.states) q.3;
      states_differ = distinct_from (state_names p.states) q.4;
      root = root;
      states_fine = forest_from s (set root_seat (read root_seat)) q.0 a (seats p) (group_names p.states) p.states q.6;
    }
