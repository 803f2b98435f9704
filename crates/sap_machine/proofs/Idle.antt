-- The last cycle of a slice: where the count is 0, Run goes to the kernel.
use Rattle.std.proofs.Common.{◌≡◌, ℕ, true, refl, ap, ◌∙◌, [], ◌∷◌, eqb, if◌then◌else◌}
use Rattle.sap_maps.specs.Term.{constant, read, two}
use Rattle.sap_bits.specs.declared.Op2.TheVariants.{Sub}
use Rattle.sap_meaning.specs.Prelude.{end_block, go_to, Store, own, After, stay, does_child, effect, hangs, raised_alone, Tagged, cycle}
use Rattle.sap_meaning.proofs.Commands.{Quiet, take_then, accept}
use Rattle.sap_machine.proofs.Literal.{machine, machine_world, block}
use Rattle.sap_machine.proofs.Literal as M
use Rattle.sap_machine.proofs.Entities.{apart}
use Rattle.sap_machine.proofs.Commands.{enforced, finished}
use Rattle.sap_machine.proofs.View.{Frame, Numbers, store_of}
use Rattle.sap_machine.proofs.Moves.{to_kernel}
use Rattle.sap_machine.proofs.Cycles.{users, at_run, in_run, ended, fed, tagged, settled, settles, cycle_in_run}

abbrev run_enter : ℕ → ℕ → Store → After
run_enter = does_child machine_world users 18

go_quiet : Quiet (raised_alone machine_world at_run (go_to 28 17))
go_quiet = enforced (hangs 18 users (M.goto 28 M.kernel)) refl refl (λ x. simp apart refl)

idles : (f : Frame) (v : Numbers) → eqb (v (own 5)) 0 ≡ true → in_run f v ≡ stay (store_of (record f { current = 1 }) v)
unfolding effect
idles f v count =
    take_then machine_world at_run run_enter end_block 0 (store_of f v) (M.is 3 (read M.cnt) 0) M.none (block (M.goto 28 M.kernel ∷ []))
    (block (M.set 29 M.cnt (two Sub (read M.cnt) (constant 3 1)) ∷ M.fall 30 ∷ []))
    (enforced (hangs 18 users (M.if_or (M.is 3 (read M.cnt) 0) (M.goto 28 M.kernel ∷ [])
    (M.set 29 M.cnt (two Sub (read M.cnt) (constant 3 1)) ∷ M.fall 30 ∷ []))) refl refl (λ x. simp apart refl))
    refl (store_of (record f { current = 1 }) v) (ap (λ b. let m : ℕ = if b then 1 else 0 in m) count)
    (accept machine_world at_run run_enter end_block 0 (store_of f v) (go_to 28 17) (store_of (record f { current = 1 }) v) go_quiet refl
    (ap stay (to_kernel f v)) ∙ finished at_run run_enter 0 (store_of (record f { current = 1 }) v))
    ∙ finished at_run run_enter 0 (store_of (record f { current = 1 }) v)

pub idle_cycle : (f : Frame) (s t : Tagged) (v : Numbers) → eqb (v (own 5)) 0 ≡ true
    → cycle machine (s ∷ t ∷ []) (store_of (record f { current = 2 }) v) ≡ stay (store_of (record (tagged s t f) { current = 1 }) (settled (fed s t v)))
idle_cycle f s t v count =
    cycle_in_run f v s t ∙ ap ended (idles (tagged s t (record f { current = 2 })) (fed s t v) count)
    ∙ ap stay (settles (record (tagged s t f) { current = 1 }) (fed s t v))
