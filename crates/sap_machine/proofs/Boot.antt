-- A cycle of the boot: a word for each user, which is refused where its level isn't at or below the user's.
use Rattle.std.proofs.Common.{◌≡◌, ℕ, zero, suc, Bool, true, false, ◌+◌, ◌%◌, ◌++◌, refl, ap, ◌∙◌, List, [], ◌∷◌, eqb, if◌then◌else◌, arith}
use Rattle.sap_maps.specs.Term.{Term, constant, read, two}
use Rattle.sap_bits.specs.declared.Op2.TheVariants.{Add}
use Rattle.sap_meaning.specs.Prelude.{within, Step, write, Block, end_block, command_then, lone, go_to, no_node, is_dynamic, Store, own, next, After, Refusal, stay, value, Home, guard, test, site_of, does_block, does, attempt, does_child, effect, touches, hangs, raised_alone, Tagged, cycle}
use Rattle.std.specs.Prelude.{nat_lt}
use Rattle.std.proofs.lemmas.Grind.{common_steps}
use Rattle.sap_machine.proofs.Literal.{machine, machine_world, block}
use Rattle.sap_machine.proofs.Literal as M
use Rattle.sap_machine.specs.declared.user.User.{User}
use Rattle.sap_machine.specs.declared.user.User.TheVariants.{A, B}
use Rattle.sap_machine.proofs.Users.{level_of, input_of, words_of}
use Rattle.sap_machine.proofs.Entities.{apart}
use Rattle.sap_meaning.proofs.Commands.{Quiet, raise_quiet, take_then, take_else, accept}
use Rattle.sap_machine.proofs.Commands.{enforced, nothing_raised, finished}
use Rattle.sap_machine.proofs.View.{Frame, held_by, Numbers, store_of, put, assigned, stored}
use Rattle.sap_machine.proofs.Moves.{to_boot, to_kernel}
use Rattle.sap_machine.proofs.Cycles.{at_boot, in_boot, ended, fed, settled, settles, cycle_in_boot}

-- after some refusals
abbrev pub behind : List Refusal → After → After
behind rs a = record { store = a.store; refused = rs ++ a.refused }

abbrev pub refusal : (site level : ℕ) → Refusal
refusal k l = record { site = k; level = l }

refuse : (at : Home) (enter : ℕ → ℕ → Store → After) (k : Step) (cs : Block) (pc : ℕ) (s : Store)
    → Quiet (raised_alone machine_world at k) → test machine_world at k pc s ≡ false
    → does_block (within machine_world at enter) (command_then (lone k) cs) pc s
    ≡ behind (refusal (site_of k) (machine_world.order.join pc (guard machine_world at k s)) ∷ []) (does_block (within machine_world at enter) cs pc s)
unfolding does_block does attempt
refuse at enter k cs pc s quiet fails = rw (raise_quiet machine_world.order (raised_alone machine_world at k) (guard machine_world at k s) s quiet, fails) refl

-- m[i] := e, whether its test holds or not
stored_or_not : (holds : Bool) (at : Home) (enter : ℕ → ℕ → Store → After) (site m : ℕ) (i e : Term ℕ) (cs : Block) (pc : ℕ) (f : Frame) (v : Numbers)
    → is_dynamic machine_world m ≡ false → test machine_world at (write site m i e) pc (store_of f v) ≡ holds
    → does_block (within machine_world at enter) (command_then (lone (write site m i e)) cs) pc (store_of f v)
    ≡ behind (if holds then [] else refusal site (machine_world.order.join pc (guard machine_world at (write site m i e) (store_of f v))) ∷ [])
    (does_block (within machine_world at enter) cs pc (store_of f (if holds then put (next m (value machine_world i (store_of f v))) (value machine_world e (store_of f v)) v else v)))
stored_or_not true at enter site m i e cs pc f v enforced_memory is = stored at enter site m i e cs pc f v enforced_memory is
stored_or_not false at enter site m i e cs pc f v enforced_memory is = refuse at enter (write site m i e) cs pc (store_of f v) nothing_raised is

abbrev enter : ℕ → ℕ → Store → After
enter = does_child machine_world no_node 16

abbrev pub boot_frame : (current x y : ℕ) → Frame
boot_frame c x y = record (held_by 0 x y) { current = c }

-- whether a word at level t is taken, and what it leaves of the numbers
abbrev pub takes : User → (t : ℕ) → Bool
takes u t = machine_world.order.le t (level_of u)

abbrev pub word_put : (holds : Bool) → User → Numbers → Numbers
word_put holds u v = if holds then put (next (words_of u) (v (own 7))) (v (own (input_of u))) v else v

-- the words of the inputs, at the levels x and y
abbrev pub both_put : (x y : ℕ) → Numbers → Numbers
both_put x y v = word_put (takes B y) B (word_put (takes A x) A v)

abbrev pub booted : (x y : ℕ) → Numbers → Numbers
booted x y v =
    let w : Numbers = both_put x y v in
    put (own 7) ((w (own 7) + 1) % 16) w

fork_quiet : Quiet (touches machine_world at_boot (M.if_or (M.is 4 (read M.n) 0) (M.goto 4 M.kernel ∷ []) (M.goto 5 M.boot ∷ [])))
fork_quiet = enforced (hangs 16 no_node (M.if_or (M.is 4 (read M.n) 0) (M.goto 4 M.kernel ∷ []) (M.goto 5 M.boot ∷ []))) refl refl (λ x. simp apart refl)

kernel_quiet : Quiet (raised_alone machine_world at_boot (go_to 4 17))
kernel_quiet = enforced (hangs 16 no_node (M.goto 4 M.kernel)) refl refl (λ x. simp apart refl)

boot_quiet : Quiet (raised_alone machine_world at_boot (go_to 5 16))
boot_quiet = enforced (hangs 16 no_node (M.goto 5 M.boot)) refl refl (λ x. simp apart refl)

abbrev fork : Block
fork = block (M.if_or (M.is 4 (read M.n) 0) (M.goto 4 M.kernel ∷ []) (M.goto 5 M.boot ∷ []) ∷ [])

forks : (last : Bool) (x y : ℕ) (v : Numbers) → eqb (v (own 7)) 0 ≡ last
    → does_block (within machine_world at_boot enter) fork 0 (store_of (boot_frame 0 x y) v) ≡ stay (store_of (boot_frame (if last then 1 else 0) x y) v)
unfolding effect
forks true x y v is =
    take_then machine_world at_boot enter end_block 0 (store_of (boot_frame 0 x y) v) (M.is 4 (read M.n) 0) M.none
    (block (M.goto 4 M.kernel ∷ [])) (block (M.goto 5 M.boot ∷ [])) fork_quiet refl (store_of (boot_frame 1 x y) v)
    (ap (λ b. let m : ℕ = if b then 1 else 0 in m) is)
    (accept machine_world at_boot enter end_block 0 (store_of (boot_frame 0 x y) v) (go_to 4 17) (store_of (boot_frame 1 x y) v)
    kernel_quiet refl (ap stay (to_kernel (boot_frame 0 x y) v)) ∙ finished at_boot enter 0 (store_of (boot_frame 1 x y) v))
    ∙ finished at_boot enter 0 (store_of (boot_frame 1 x y) v)
forks false x y v is =
    take_else machine_world at_boot enter end_block 0 (store_of (boot_frame 0 x y) v) (M.is 4 (read M.n) 0) M.none
    (block (M.goto 4 M.kernel ∷ [])) (block (M.goto 5 M.boot ∷ [])) fork_quiet refl (store_of (boot_frame 0 x y) v)
    (ap (λ b. let m : ℕ = if b then 1 else 0 in m) is)
    (accept machine_world at_boot enter end_block 0 (store_of (boot_frame 0 x y) v) (go_to 5 16) (store_of (boot_frame 0 x y) v) boot_quiet
    refl (ap stay (to_boot (boot_frame 0 x y) v)) ∙ finished at_boot enter 0 (store_of (boot_frame 0 x y) v))
    ∙ finished at_boot enter 0 (store_of (boot_frame 0 x y) v)

abbrev pub refused_at : (site level tag : ℕ) → List Refusal
refused_at site l t = if machine_world.order.le t l then [] else refusal site l ∷ []

no_level : (x : ℕ) → nat_lt (suc (suc (suc (suc x)))) 4 ≡ false
no_level x = grind (arith, common_steps)

-- the level of the word decides
tested_a : (x y : ℕ) (v : Numbers) → test machine_world at_boot (write 1 M.pa (read M.n) (read M.wa)) 0 (store_of (boot_frame 0 x y) v) ≡ machine_world.order.le x 1
tested_a zero y v = refl
tested_a (suc (suc (suc (suc x)))) y v = rw (no_level x) refl
tested_a _ y v = refl

tested_b : (x y : ℕ) (v : Numbers) → test machine_world at_boot (write 2 M.pb (read M.n) (read M.wb)) 0 (store_of (boot_frame 0 x y) v) ≡ machine_world.order.le y 2
tested_b x zero v = refl
tested_b x (suc (suc (suc (suc y)))) v = rw (no_level y) refl
tested_b x _ v = refl

boots : (last : Bool) (x y : ℕ) (v : Numbers) → eqb (booted x y v (own 7)) 0 ≡ last
    → in_boot (boot_frame 0 x y) v ≡ behind (refused_at 1 1 x) (behind (refused_at 2 2 y) (stay (store_of (boot_frame (if last then 1 else 0) x y) (booted x y v))))
boots last x y v is =
    let v1 : Numbers = word_put (takes A x) A v in
    let v2 : Numbers = both_put x y v in
    stored_or_not (machine_world.order.le x 1) at_boot enter 1 M.pa (read M.n) (read M.wa)
    (block (M.store 2 M.pb (read M.n) (read M.wb) ∷ M.set 3 M.n (two Add (read M.n) (constant 4 1))
    ∷ M.if_or (M.is 4 (read M.n) 0) (M.goto 4 M.kernel ∷ []) (M.goto 5 M.boot ∷ []) ∷ [])) 0 (boot_frame 0 x y) v refl (tested_a x y v)
    ∙ ap (behind (refused_at 1 1 x)) (
    stored_or_not (machine_world.order.le y 2) at_boot enter 2 M.pb (read M.n) (read M.wb)
    (block (M.set 3 M.n (two Add (read M.n) (constant 4 1)) ∷ M.if_or (M.is 4 (read M.n) 0) (M.goto 4 M.kernel ∷ []) (M.goto 5 M.boot ∷ []) ∷ []))
    0 (boot_frame 0 x y) v1 refl (tested_b x y v1)
    ∙ ap (behind (refused_at 2 2 y)) (assigned at_boot enter 3 M.n (two Add (read M.n) (constant 4 1)) fork 0 (boot_frame 0 x y) v2 refl refl ∙ forks last x y (booted x y v) is))

-- a whole cycle of the boot
pub boot_cycle : (last : Bool) (x y : ℕ) (t u : Tagged) (v : Numbers) → eqb (booted t.level u.level (fed t u v) (own 7)) 0 ≡ last
    → cycle machine (t ∷ u ∷ []) (store_of (boot_frame 0 x y) v)
    ≡ behind (refused_at 1 1 t.level) (behind (refused_at 2 2 u.level)
    (stay (store_of (boot_frame (if last then 1 else 0) t.level u.level) (settled (booted t.level u.level (fed t u v))))))
boot_cycle last x y t u v is =
    cycle_in_boot (boot_frame 0 x y) v t u ∙ ap ended (boots last t.level u.level (fed t u v) is)
    ∙ ap (λ (s : Store). behind (refused_at 1 1 t.level) (behind (refused_at 2 2 u.level) (stay s)))
    (settles (boot_frame (if last then 1 else 0) t.level u.level) (booted t.level u.level (fed t u v)))
