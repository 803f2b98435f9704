-- Where a goto of the machine leads: the place of the root's current child is another, and that of Run's is the first.
use Rattle.std.proofs.Common.{◌≡◌, ℕ, zero, suc, Bool, true, false, ◌&&◌, arith, nat_eq, refl, if◌then◌else◌}
use Rattle.std.proofs.lemmas.Grind.{common_steps}
use Rattle.sap_meaning.specs.Prelude.{below, Store, Slot, own, start, lowered, put_child, reset}
use Rattle.sap_meaning.proofs.Commands.{same_store}
use Rattle.sap_machine.proofs.Literal.{machine_world}
use Rattle.sap_machine.proofs.Entities.{entities, past, apart}
use Rattle.sap_machine.proofs.View.{Frame, levels, places, Numbers, store_of}

either : (b : Bool) (n : ℕ) → (if b then n else n) ≡ n
either true n = refl
either false n = refl

not_dynamic : (b : Bool) (n : ℕ) → (if b && false then 0 else n) ≡ n
not_dynamic true n = refl
not_dynamic false n = refl

apart20 : (x : ℕ) → nat_eq (past (suc x)) 20 ≡ false
apart20 x = grind (arith, common_steps)

-- the root or Run, at the number `group`, gets the child of this place, and the goto leads to the state `target`
abbrev moved : (group place target : ℕ) → Frame → Numbers → Store
moved group place target f v = reset machine_world target (put_child group place (store_of f v))

-- all states are enforced, so no level is lowered
leveled : (group place target : ℕ) (f : Frame) (v : Numbers) (z : Slot) → (moved group place target f v).level z ≡ levels f z
unfolding put_child reset
leveled group place target f v (own y) = entities (λ y. (if lowered machine_world target (own y) then 0 else levels f (own y)) ≡ levels f (own y))
    refl refl (not_dynamic (below machine_world target 2) f.pc) (not_dynamic (below machine_world target 3) f.acc) (not_dynamic (below machine_world target 4) f.ir)
    (not_dynamic (below machine_world target 5) 0) (not_dynamic (below machine_world target 6) 0) (not_dynamic (below machine_world target 7) 0)
    (not_dynamic (below machine_world target 8) 1) (not_dynamic (below machine_world target 9) 1)
    (not_dynamic (below machine_world target 10) 2) (not_dynamic (below machine_world target 11) 2)
    (not_dynamic (below machine_world target 12) 1) (not_dynamic (below machine_world target 13) 2)
    (not_dynamic (below machine_world target 14) 1) (not_dynamic (below machine_world target 15) 2)
    (not_dynamic (below machine_world target 16) 0) (not_dynamic (below machine_world target 17) 0)
    (not_dynamic (below machine_world target 18) 0) (not_dynamic (below machine_world target 19) f.user)
    (λ x. either (lowered machine_world target (own (past x))) 0) y
leveled group place target f v (start m i) = refl
leveled group place target f v _ = refl

pub to_user : (f : Frame) (v : Numbers) → reset machine_world 19 (put_child 18 0 (store_of f v)) ≡ store_of (record f { current = f.current }) v
unfolding put_child reset
to_user f v = same_store (moved 18 0 19 f v) (store_of (record f { current = f.current }) v) (λ z. refl) (leveled 18 0 19 f v) seated
  where
    beyond : (x : ℕ) → (moved 18 0 19 f v).child (past x) ≡ places (record f { current = f.current }) (past x)
    beyond zero = refl
    beyond (suc x) = simp apart (either (below machine_world 19 (past (suc x))) 0)

    seated : (p : ℕ) → (moved 18 0 19 f v).child p ≡ places (record f { current = f.current }) p
    seated = entities (λ p. (moved 18 0 19 f v).child p ≡ places (record f { current = f.current }) p)
        refl refl refl refl refl refl refl refl refl refl refl refl refl refl refl refl refl refl refl refl beyond

-- to a state, at its place among the children of the root
to_child : (place target : ℕ) → nat_eq (past 0) target ≡ false → below machine_world target (past 0) ≡ false → (f : Frame) (v : Numbers)
    → reset machine_world target (put_child 20 place (store_of f v)) ≡ store_of (record f { current = place }) v
unfolding put_child reset
to_child place target other above f v = same_store (moved 20 place target f v) (store_of (record f { current = place }) v) (λ z. refl) (leveled 20 place target f v) seated
  where
    by : (a b : Bool) → ◌≡◌ {A = ℕ} (if a then 0 else if b then 0 else 0) 0
    by true b = refl
    by false b = either b 0

    none : (p : ℕ) → ◌≡◌ {A = ℕ} (if nat_eq p target then 0 else if below machine_world target p then 0 else 0) 0
    none p = by (nat_eq p target) (below machine_world target p)

    beyond : (x : ℕ) → (moved 20 place target f v).child (past x) ≡ places (record f { current = place }) (past x)
    beyond zero = rw (other, above) refl
    beyond (suc x) = simp apart20 (none (past (suc x)))

    seated : (p : ℕ) → (moved 20 place target f v).child p ≡ places (record f { current = place }) p
    seated = entities (λ p. (moved 20 place target f v).child p ≡ places (record f { current = place }) p)
        (none 0) (none 1) (none 2) (none 3) (none 4) (none 5) (none 6) (none 7) (none 8) (none 9) (none 10) (none 11)
        (none 12) (none 13) (none 14) (none 15) (none 16) (none 17) (none 18) (none 19) beyond

pub to_kernel : (f : Frame) (v : Numbers) → reset machine_world 17 (put_child 20 1 (store_of f v)) ≡ store_of (record f { current = 1 }) v
to_kernel = to_child 1 17 refl refl

pub to_run : (f : Frame) (v : Numbers) → reset machine_world 18 (put_child 20 2 (store_of f v)) ≡ store_of (record f { current = 2 }) v
to_run = to_child 2 18 refl refl

pub to_boot : (f : Frame) (v : Numbers) → reset machine_world 16 (put_child 20 0 (store_of f v)) ≡ store_of (record f { current = 0 }) v
to_boot = to_child 0 16 refl refl
