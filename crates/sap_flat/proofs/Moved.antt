-- A goto, under a gate that is not 0.
use Rattle.sap_lemmas.proofs.Common.{◌≡◌, ℕ, ◌==◌, List, [], ◌∷◌, ◌++◌, Some, true, false, ap, ◌∙◌, subst, refl, inl, inr, bytes_eq, cases_Bool, equal_of_bytes_eq}
use Rattle.sap_maps.specs.Prelude.{Name, find}
use Rattle.sap_net.specs.Prelude.{is_among, seat_name}
use Rattle.sap_ir.specs.Prelude.{Source, readable, Going, Command, Forest, none, state, has_states, size, group_names, place, children_of, seat_width, put_value, first_child, restart, enter, SeatFine, ForestFine}
use Rattle.sap_flat.specs.Gates.{gate_name}
use Rattle.sap_flat.specs.Flat.{under, seated, flat_first, flat_restart, flat_goto}
use Rattle.sap_flat.proofs.Runs.{Runs, runs_none, runs_on, runs_append}
use Rattle.sap_flat.proofs.Alike.{World, Alike, set_alike, past_name, seat_found}

-- what commands lead to that set no gate and write nothing
pub record Moved (s : Source) (vf : Name → ℕ) (g : Going) (cs : List Command) (h : Going) : Type 0 where
  pub end : Going
  pub runs : Runs vf g cs end []
  pub alike : Alike s end h
  pub kept : (i : ℕ) → end.now.value (gate_name i) ≡ g.now.value (gate_name i)

-- one after another
both_moved : (s : Source) (vf : Name → ℕ) (g : Going) (cs ds : List Command) (h h' : Going) → (m : Moved s vf g cs h) → Moved s vf m.end ds h' → Moved s vf g (cs ++ ds) h'
both_moved s vf g cs ds h h' m n =
    record {
      end = n.end;
      runs = runs_append vf g m.end n.end cs ds [] [] m.runs n.runs;
      alike = n.alike;
      kept = λ i. n.kept i ∙ m.kept i;
    }

-- a register of a current child is set
seat_moved : (s : Source) (vf vp : Name → ℕ) → World s vf vp → (x : Name) (u : ℕ) → find (readable s) x ≡ Some u
    → (j : ℕ) (g h : Going) (f : Forest) (n : ℕ) → (g.now.value (gate_name j) == 0) ≡ false → Alike s g h → Moved s vf g (under j (seated x f n) ∷ []) (put_value h x n)
seat_moved s vf vp w x u e j g h f n q a =
    record {
      end = put_value g x n;
      runs = runs_on vf g (put_value g x n) (under j (seated x f n)) [] [] q (runs_none vf (put_value g x n));
      alike = set_alike s g h a x n n refl;
      kept = past_name s vf vp w g x u n e;
    }

first_moved : (s : Source) (vf vp : Name → ℕ) → World s vf vp → (x : Name) (kids : Forest) → SeatFine s (seat_name x) kids
    → (j : ℕ) (g h : Going) → (g.now.value (gate_name j) == 0) ≡ false → Alike s g h → Moved s vf g (flat_first j x kids) (first_child x kids h)
first_moved s vf vp w x none f j g h q a = record { end = g; runs = runs_none vf g; alike = a; kept = λ i. refl }
first_moved s vf vp w x (state y b kids rest) f j g h q a =
    let here = state y b kids rest in
    seat_moved s vf vp w (seat_name x) (seat_width (size here)) (seat_found s vf vp w (seat_name x) here f refl) j g h here 0 q a

restart_moved : (s : Source) (vf vp : Name → ℕ) → World s vf vp → (ss gs : List Name) (f : Forest) → ForestFine s ss gs f
    → (j : ℕ) (g h : Going) → (g.now.value (gate_name j) == 0) ≡ false → Alike s g h → Moved s vf g (flat_restart j f) (restart f h)
restart_moved s vf vp w ss gs none fine j g h q a = record { end = g; runs = runs_none vf g; alike = a; kept = λ i. refl }
restart_moved s vf vp w ss gs (state x b kids rest) fine j g h q a =
    let h1 = first_child x kids h in
    let h2 = restart kids h1 in
    let m1 = first_moved s vf vp w x kids fine.2 j g h q a in
    let m2 = restart_moved s vf vp w ss (group_names kids) kids fine.3 j m1.end h1 (ap (λ (n : ℕ). n == 0) (m1.kept j) ∙ q) m1.alike in
    let m3 = restart_moved s vf vp w ss gs rest fine.4 j m2.end h2 (ap (λ (n : ℕ). n == 0) (m2.kept j ∙ m1.kept j) ∙ q) m2.alike in
    both_moved s vf g (flat_first j x kids) (flat_restart j kids ++ flat_restart j rest) h1 (restart rest h2) m1
    (both_moved s vf m1.end (flat_restart j kids) (flat_restart j rest) h2 (restart rest h2) m2 m3)

pub among_some : (x : Name) (f : Forest) → is_among x (group_names f) ≡ true → has_states f ≡ true
among_some x none h = absurd (cc)
among_some x (state y b kids rest) h = refl

-- the children of a state of a group
pub children_seat : (s : Source) (ss gs : List Name) (f : Forest) → ForestFine s ss gs f → (x : Name) → SeatFine s (seat_name x) (children_of f x)
children_seat s ss gs none fine x = tt
children_seat s ss gs (state y b kids rest) fine x =
    elim (cases_Bool (bytes_eq y x)) [
      | inl t ↦ rw t (subst (λ (n : Name). SeatFine s (seat_name n) kids) (equal_of_bytes_eq y x t) fine.2)
      | inr f ↦ rw f (children_seat s ss gs rest fine.4 x)
    ]

pub children_fine : (s : Source) (ss gs : List Name) (f : Forest) → ForestFine s ss gs f → (x : Name) → ForestFine s ss (group_names (children_of f x)) (children_of f x)
children_fine s ss gs none fine x = tt
children_fine s ss gs (state y b kids rest) fine x =
    elim (cases_Bool (bytes_eq y x)) [
      | inl t ↦ rw t fine.3
      | inr f ↦ rw f (children_fine s ss gs rest fine.4 x)
    ]

pub goto_moved : (s : Source) (vf vp : Name → ℕ) → World s vf vp → (ss gs : List Name) (seat : Name) (group : Forest)
    → SeatFine s seat group → ForestFine s ss gs group → (x : Name) → is_among x (group_names group) ≡ true → (j : ℕ) (g h : Going)
    → (g.now.value (gate_name j) == 0) ≡ false → Alike s g h → Moved s vf g (flat_goto seat group j x) (enter seat group x h)
goto_moved s vf vp w ss gs seat group sf fine x there j g h q a =
    let kids = children_of group x in
    let h1 = put_value h seat (place group x) in
    let h2 = first_child x kids h1 in
    let m1 = seat_moved s vf vp w seat (seat_width (size group)) (seat_found s vf vp w seat group sf (among_some x group there)) j g h group (place group x) q a in
    let m2 = first_moved s vf vp w x kids (children_seat s ss gs group fine x) j m1.end h1 (ap (λ (n : ℕ). n == 0) (m1.kept j) ∙ q) m1.alike in
    let m3 = restart_moved s vf vp w ss (group_names kids) kids (children_fine s ss gs group fine x) j m2.end h2 (ap (λ (n : ℕ). n == 0) (m2.kept j ∙ m1.kept j) ∙ q) m2.alike in
    both_moved s vf g (under j (seated seat group (place group x)) ∷ []) (flat_first j x kids ++ flat_restart j kids) h1 (restart kids h2)
    m1 (both_moved s vf m1.end (flat_first j x kids) (flat_restart j kids) h2 (restart kids h2) m2 m3)
