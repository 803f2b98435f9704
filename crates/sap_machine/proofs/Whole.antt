-- The whole run: where it is behind each cycle, and what is refused in it.
use Rattle.std.proofs.Common.{◌≡◌, ℕ, zero, suc, Bool, true, false, ◌+◌, ◌*◌, ◌%◌, ◌<◌, ◌≤◌, ◌++◌, refl, sym, ap, subst, ◌∙◌, arith, List, [], ◌∷◌, nat_eq, eqb, if◌then◌else◌}
use Rattle.std.specs.Prelude.{nat_lt}
use Rattle.std.proofs.lemmas.Grind.{common_steps}
use Rattle.sap_meaning.specs.Prelude.{Store, Slot, own, start, Refusal, After, stay, Tagged, cycle, first, first_number, first_level}
use Rattle.sap_meaning.proofs.Commands.{same_store}
use Rattle.sap_machine.specs.declared.user.User.{User}
use Rattle.sap_machine.specs.declared.user.User.TheVariants.{A, B}
use Rattle.sap_machine.proofs.Literal.{machine, machine_world}
use Rattle.sap_machine.specs.Table.{UserState, begun, step, steps}
use Rattle.sap_machine.specs.Slices.{instructions, after_slices, other, holder}
use Rattle.sap_machine.specs.Laws.{refused_word}
use Rattle.sap_machine.proofs.Users.{level_of, other_other}
use Rattle.sap_machine.proofs.Entities.{entities, past}
use Rattle.sap_machine.proofs.View.{levels, places, Numbers, store_of}
use Rattle.sap_machine.proofs.Cycles.{fed, settled}
use Rattle.sap_machine.proofs.Boot.{boot_frame, boot_cycle, booted}
use Rattle.sap_machine.proofs.Booting.{Booting, Comes, booted_n, boots_more, first_turn}
use Rattle.sap_machine.proofs.Kernel.{Found, at_first, of_a, of_b, kernel_frame, switched, switch_cycle}
use Rattle.sap_machine.proofs.Idle.{idle_cycle}
use Rattle.sap_machine.proofs.Rows.{turn}
use Rattle.sap_machine.proofs.Instruction.{cycle_of, instruction}
use Rattle.sap_machine.proofs.Table.{Fits, step_fits}
use Rattle.sap_machine.proofs.Turns.{Started, Running}
use Rattle.sap_machine.proofs.Turns as turns
use Rattle.sap_machine.proofs.InTurn.{step_behind, slice_mine, slice_other, no_slice}

-- a user after n slices, by all users' words
abbrev pub after : (words : User → ℕ → ℕ) → User → (n : ℕ) → UserState
after words u n = after_slices u (words u) n

-- where the run is behind c cycles, for each user's words
pub data At (words : User → ℕ → ℕ) (c : ℕ) (s : Store) : Type 0 where
  boots : (x y : ℕ) (v : Numbers) → c < 16 → s ≡ store_of (boot_frame 0 x y) v → Booting words c v → At words c s
  first_kernel : (x y : ℕ) (v : Numbers) → c ≡ 16 → s ≡ store_of (kernel_frame 0 x y) v → Booting words 16 v → At words c s
  starts : (n x y : ℕ) (v : Numbers) → c ≡ 17 + 6 * n → s ≡ store_of (turn (holder n) x y) v
      → Started (holder n) (after words (holder n) n) (after words (other (holder n)) n) v → At words c s
  runs : (n r d x y : ℕ) (v : Numbers) → d + r ≡ 3 → c ≡ 18 + 6 * n + r → s ≡ store_of (turn (holder n) x y) v
      → Running (holder n) d (steps r (after words (holder n) n)) (after words (other (holder n)) n) v → At words c s
  leaves : (n x y : ℕ) (v : Numbers) → c ≡ 22 + 6 * n → s ≡ store_of (kernel_frame (level_of (holder n)) x y) v
      → Running (holder n) 0 (after words (holder n) (suc n)) (after words (other (holder n)) (suc n)) v → At words c s

-- the first store
pub first_store : first machine_world ≡ store_of (boot_frame 0 0 0) (first_number machine_world)
unfolding first
first_store = same_store (first machine_world) (store_of (boot_frame 0 0 0) (first_number machine_world)) (λ z. refl) leveled seated
  where
    leveled : (z : Slot) → first_level machine_world z ≡ levels (boot_frame 0 0 0) z
    leveled (own y) = entities (λ y. first_level machine_world (own y) ≡ levels (boot_frame 0 0 0) (own y)) refl refl refl refl refl refl
        refl refl refl refl refl refl refl refl refl refl refl refl refl refl (λ x. refl) y
    leveled (start m i) = refl
    leveled _ = refl

    beyond : (x : ℕ) → 0 ≡ places (boot_frame 0 0 0) (past x)
    beyond zero = refl
    beyond (suc x) = refl

    seated : (p : ℕ) → 0 ≡ places (boot_frame 0 0 0) p
    seated = entities (λ p. 0 ≡ places (boot_frame 0 0 0) p) refl refl refl refl refl refl refl refl refl refl refl refl refl refl refl refl refl refl refl refl beyond

-- words that fit
abbrev pub Small : (User → ℕ → ℕ) → Type 0
Small words = (u : User) (k : ℕ) → k < 16 → words u k < 4096

steps_fit : (n : ℕ) (s : UserState) → Fits s → Fits (steps n s)
steps_fit zero s f = f
steps_fit (suc n) s f = steps_fit n (step s) (step_fits s f)

after_fits : (words : User → ℕ → ℕ) (u : User) (n : ℕ) → Small words → Fits (after words u n)
unfolding after_slices
after_fits words u n small = steps_fit (instructions u n) (begun (words u)) (record { pc = omega arith; word = small u })

-- what a cycle leads to
abbrev pub Next : (words : User → ℕ → ℕ) (c : ℕ) → List Refusal → After → Type 0
Next words c rs r = (r.refused ≡ rs) × At words (suc c) r.store

abbrev pub refused_of : (c : ℕ) → Tagged → Tagged → List Refusal
refused_of c t t' = if nat_lt c 16 then refused_word machine_world.order A t ++ refused_word machine_world.order B t' else []

none_behind : (xs : List Refusal) → xs ++ [] ≡ xs
none_behind [] = refl
none_behind (x ∷ xs) = ap (λ (rest : List Refusal). x ∷ rest) (none_behind xs)

ends : (xs ys : List Refusal) → xs ++ (ys ++ []) ≡ xs ++ ys
ends xs ys = ap (λ (rest : List Refusal). xs ++ rest) (none_behind ys)

quiet : (c : ℕ) (t t' : Tagged) → 16 ≤ c → refused_of c t t' ≡ []
quiet c t t' late = let e : nat_lt c 16 ≡ false = grind (arith, common_steps) in rw e refl

from : (words : User → ℕ → ℕ) (c : ℕ) (t t' : Tagged) (s s' next_store : Store) → 16 ≤ c → s ≡ s' → cycle machine (t ∷ t' ∷ []) s' ≡ stay next_store → At words (suc c) next_store
    → Next words c (refused_of c t t') (cycle machine (t ∷ t' ∷ []) s)
from words c t t' s s' next_store late is leads at =
    subst (λ s. Next words c (refused_of c t t') (cycle machine (t ∷ t' ∷ []) s)) (sym is)
    (subst (λ r. Next words c (refused_of c t t') r) (sym leads) (sym (quiet c t t' late), at))

found : (u : User) → Found u (level_of u)
found A = of_a
found B = of_b

pub one_cycle : (words : User → ℕ → ℕ) (c : ℕ) (t t' : Tagged) (s : Store) → Small words → (c < 16 → Comes words A c t) → (c < 16 → Comes words B c t') → At words c s
    → Next words c (refused_of c t t') (cycle machine (t ∷ t' ∷ []) s)
one_cycle words c t t' s small new_a new_b (boots x y v early is now) = by (nat_eq c 15) refl
  where
    later : Booting words (suc c) (settled (booted t.level t'.level (fed t t' v)))
    later = boots_more words t t' c v early (new_a early) (new_b early) now

    told : refused_of c t t' ≡ refused_word machine_world.order A t ++ refused_word machine_world.order B t'
    told = let e : nat_lt c 16 ≡ true = grind (arith, common_steps) in rw e refl

    by : (last : Bool) → nat_eq c 15 ≡ last → Next words c (refused_of c t t') (cycle machine (t ∷ t' ∷ []) s)
    by true at_last =
        let here : c ≡ 15 = grind (arith, common_steps) in
        let n : eqb (booted t.level t'.level (fed t t' v) (own 7)) 0 ≡ true = ap (λ n. eqb n 0) (booted_n words t t' c v now) ∙ ap (λ c. eqb ((c % 16 + 1) % 16) 0) here in
        subst (λ s. Next words c (refused_of c t t') (cycle machine (t ∷ t' ∷ []) s)) (sym is)
        (subst (λ r. Next words c (refused_of c t t') r) (sym (boot_cycle true x y t t' v n)) (
          ends (refused_word machine_world.order A t) (refused_word machine_world.order B t') ∙ sym told,
          first_kernel t.level t'.level (settled (booted t.level t'.level (fed t t' v))) (ap suc here) refl
              (subst (λ i. Booting words i (settled (booted t.level t'.level (fed t t' v)))) (ap suc here) later),
        ))
    by false before =
        let early_yet : suc c < 16 = grind (arith, common_steps) in
        let n : eqb (booted t.level t'.level (fed t t' v) (own 7)) 0 ≡ false = ap (λ n. eqb n 0) (booted_n words t t' c v now)
        ∙ (let e : eqb ((c % 16 + 1) % 16) 0 ≡ false = grind (arith, common_steps) in e) in
        subst (λ s. Next words c (refused_of c t t') (cycle machine (t ∷ t' ∷ []) s)) (sym is)
        (subst (λ r. Next words c (refused_of c t t') r) (sym (boot_cycle false x y t t' v n)) (
          ends (refused_word machine_world.order A t) (refused_word machine_world.order B t')
              ∙ sym told,
          boots t.level t'.level (settled (booted t.level t'.level (fed t t' v))) early_yet refl later,
        ))
one_cycle words c t t' s small new_a new_b (first_kernel x y v is_c is now) =
    let begun_turn : Started A (after words A 0) (after words B 0) (settled (switched B 0 (fed t t' v))) =
    subst (λ z. Started A z (after words B 0) (settled (switched B 0 (fed t t' v)))) (sym (no_slice A (words A)))
    (subst (λ z. Started A (begun (words A)) z (settled (switched B 0 (fed t t' v)))) (sym (no_slice B (words B))) (first_turn words t t' v now)) in
    from words c t t' s (store_of (kernel_frame 0 x y) v) _ (omega arith) is (switch_cycle B 0 x y t t' v at_first now.who)
    (starts 0 t.level t'.level _ (omega arith) refl begun_turn)
one_cycle words c t t' s small new_a new_b (starts n x y v ec is now) =
    let h = holder n in
    from words c t t' s (store_of (turn h x y) v) _ (omega arith) is (cycle_of h x y t t' v now.who (ap (λ n. eqb n 0) now.cnt))
    (runs n 0 3 t.level t'.level _ refl (omega arith) refl (turns.starts h t t' (after words h n) (after words (other h) n) v (after_fits words h n small).pc now))
one_cycle words c t t' s small new_a new_b (runs n r zero x y v full ec is now) =
    let h = holder n in
    let three : r ≡ 3 = omega arith in
    let done : steps r (after words h n) ≡ after words h (suc n) = ap (λ r. steps r (after words h n)) three ∙ sym (slice_mine n (words h)) in
    let w : Numbers = settled (fed t t' v) in
    from words c t t' s (store_of (turn h x y) v) _ (omega arith) is (idle_cycle (turn h x y) t t' v (ap (λ n. eqb n 0) now.cnt))
    (leaves n t.level t'.level _ (omega arith) refl
    (subst (λ z. Running h 0 z (after words (other h) (suc n)) w) done (subst (λ z. Running h 0 (steps r (after words h n)) z w) (sym (slice_other n (words (other h))))
    (turns.waits h t t' (steps r (after words h n)) (after words (other h) n) v now))))
one_cycle words c t t' s small new_a new_b (runs n r (suc d) x y v full ec is now) =
    let h = holder n in
    from words c t t' s (store_of (turn h x y) v) _ (omega arith) is
    (cycle_of h x y t t' v now.who (ap (λ n. eqb n 0) now.cnt ∙ (let e : eqb (suc d) 0 ≡ false = grind (arith, common_steps) in e)))
    (runs n (suc r) d t.level t'.level _ (omega arith) (omega arith) refl
    (subst (λ z. Running h d z (after words (other h) n) (instruction h t t' v)) (step_behind r (after words h n))
    (turns.goes_on h t t' d (steps r (after words h n)) (after words (other h) n) v (omega arith) (steps_fit r (after words h n) (after_fits words h n small)) now)))
one_cycle words c t t' s small new_a new_b (leaves n x y v ec is now) =
    let h = holder n in
    from words c t t' s (store_of (kernel_frame (level_of h) x y) v) _ (omega arith) is (switch_cycle h (level_of h) x y t t' v (found h) now.who)
    (starts (suc n) t.level t'.level _ (omega arith) refl
    (subst (λ u. Started (other h) (after words (other h) (suc n)) (after words u (suc n)) (settled (switched h (level_of h) (fed t t' v)))) (sym (other_other h))
    (turns.leaves h t t' (after words h (suc n)) (after words (other h) (suc n)) v (after_fits words h (suc n) small).pc now)))
