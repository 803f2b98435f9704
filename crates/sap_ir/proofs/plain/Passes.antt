-- What the type keeps passes the test.
use Rattle.sap_lemmas.proofs.Common.{◌≡◌, ℕ, ◌^◌, ◌&&◌, ◌==◌, List, map, Option, Some, Bool, true, not, ap, ◌∙◌, refl, eq-eqb, nat_le, and_from, le-leb}
use Rattle.sap_lemmas.proofs.Bools.{five_from, three_from}
use Rattle.sap_lemmas.proofs.Everywhere.{test_of_all}
use Rattle.sap_ir.proofs.TestLemmas.{distinct_to}
use Rattle.sap_maps.specs.Prelude.{Name, find, read}
use Rattle.sap_tree.specs.Words.{is_name}
use Rattle.sap_tree.specs.declared.version.Version.TheVariants.{One}
use Rattle.sap_net.specs.Prelude.{is_among, seat_name, root_seat}
use Rattle.sap_ir.specs.Source.{Action, set, Source}
use Rattle.sap_ir.specs.IsGuarded.{ActionFine, declared, IsGuarded}
use Rattle.sap_ir.specs.Test.{of_shape, value_is_fine}
use Rattle.sap_ir.proofs.Passes.{guarded_to}
use Rattle.sap_ir.specs.Plain.Nested.{Body, stop, act, cases, goto, fall, Forest, none, state, Nested, declarations, has_states, size, group_names, state_names, seats, seat_width}
use Rattle.sap_ir.specs.Plain.IsPlain.{is_gate, BodyFine, SeatFine, ForestFine, IsPlain}
use Rattle.sap_ir.specs.Plain.Test.{body_is_fine, seat_is_fine, forest_is_fine, is_plain}
use Rattle.sap_ir.proofs.plain.SeatWidths.{seat_register}
use Rattle.sap_ir.proofs.plain.Actions.{action_to, test_to, itself_fine}

seven : {a b c d e f g : Bool} → a ≡ true → b ≡ true → c ≡ true → d ≡ true → e ≡ true → f ≡ true → g ≡ true → (a && b && c && d && e && f && g) ≡ true
seven {a} {b} {c} {d} {e} {f} {g} h k l m n o p =
    three_from {a = a && b && c && d && e} {b = f} {c = g} (five_from {a = a} {b = b} {c = c} {d = d} {e = e} h k l m n) o p

-- a is some action that is fine
body_to : (s : Source) (a : Action) → IsGuarded s → ActionFine s a → (ss gs : List Name) (nested : Bool) (b : Body)
    → BodyFine s ss gs nested b → body_is_fine s ss gs nested b ≡ true
body_to s a g k ss gs nested stop f = refl
body_to s a g k ss gs nested (act d rest) f = three_from (action_to s g d f.0) f.1 (body_to s a g k ss gs nested rest f.2)
body_to s a g k ss gs nested (cases t y n rest) f =
    and_from (value_is_fine s t 1 && body_is_fine s ss gs nested y && body_is_fine s ss gs nested n) (body_is_fine s ss gs nested rest)
    (three_from (test_to s a g k t f.0) (body_to s a g k ss gs nested y f.1) (body_to s a g k ss gs nested n f.2)) (body_to s a g k ss gs nested rest f.3)
body_to s a g k ss gs nested (goto x rest) f =
    and_from (is_among x gs) (body_is_fine s ss gs nested rest) f.0 (body_to s a g k ss gs nested rest f.1)
body_to s a g k ss gs nested (fall rest) f =
    and_from nested (body_is_fine s ss gs nested rest) f.0 (body_to s a g k ss gs nested rest f.1)

pair_to : (u : ℕ) (o : Option (ℕ × ℕ)) → o ≡ Some (u, 0) → of_shape (λ k. k == u) (λ n. n == 0) o ≡ true
pair_to u o e = ap (of_shape (λ k. k == u) (λ n. n == 0)) e ∙ and_from (u == u) (0 == 0) (eq-eqb u u refl) refl

seat_to : (s : Source) (x : Name) (f : Forest) → SeatFine s x f → seat_is_fine s x f ≡ true
seat_to s x none h = refl
seat_to s x (state y b kids rest) h =
    let count = size (state y b kids rest) in
    and_from (of_shape (λ u. u == seat_width count) (λ n. n == 0) (find (map (λ r. (r.name, (r.width, r.start))) s.registers) x))
    (nat_le count (2 ^ seat_width count)) (pair_to (seat_width count) _ h.0) (le-leb count (2 ^ seat_width count) h.1)

forest_to : (s : Source) (a : Action) → IsGuarded s → ActionFine s a → (ss gs : List Name) (f : Forest) → ForestFine s ss gs f → forest_is_fine s ss gs f ≡ true
forest_to s a g k ss gs none f = refl
forest_to s a g k ss gs (state x b kids rest) f =
    five_from (body_to s a g k ss gs (has_states kids) b f.0) f.1 (seat_to s (seat_name x) kids f.2)
    (forest_to s a g k ss (group_names kids) kids f.3) (forest_to s a g k ss gs rest f.4)

pub plain_to : (p : Nested) → IsPlain p → is_plain p ≡ true
unfolding is_plain
plain_to p h =
    let s = declarations p in
    let a = itself_fine s h.declares.declared_once root_seat (seat_width (size p.states)) (seat_register s root_seat p.states h.some_state h.root) in
    seven (guarded_to s h.declares) (test_of_all (λ x. not (is_gate x)) _ (λ x k. ap not k) (declared s) h.not_gates) h.some_state
    (test_of_all (is_name One) _ (λ x k. k) (state_names p.states) h.states_named) (distinct_to (state_names p.states) h.states_differ)
    (seat_to s root_seat p.states h.root) (forest_to s (set root_seat (read root_seat)) h.declares a (seats p) (group_names p.states) p.states h.states_fine)
