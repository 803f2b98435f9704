-- The whole body of User in a user's turn, and the cycle that it makes.
use Rattle.std.proofs.Common.{◌≡◌, ℕ, false, refl, ap, ◌∙◌, [], ◌∷◌, eqb, if◌then◌else◌}
use Rattle.sap_maps.specs.Term.{constant, read, two}
use Rattle.sap_bits.specs.declared.Op2.TheVariants.{Sub}
use Rattle.sap_meaning.specs.Prelude.{within, end_block, fall_to_child, Store, own, After, stay, does_block, does_child, does_state, effect, hangs, raised_alone, Tagged, cycle}
use Rattle.sap_meaning.proofs.Commands.{Quiet, take_else, accept}
use Rattle.sap_machine.specs.declared.user.User.{User}
use Rattle.sap_machine.specs.declared.user.User.TheVariants.{A, B}
use Rattle.sap_machine.proofs.Literal.{machine, machine_world, user_body, block}
use Rattle.sap_machine.proofs.Literal as M
use Rattle.sap_machine.proofs.Users.{turn_of, words_of, cells_of}
use Rattle.sap_machine.proofs.Entities.{apart}
use Rattle.sap_machine.proofs.Commands.{enforced, finished}
use Rattle.sap_machine.proofs.View.{Numbers, store_of, assigned}
use Rattle.sap_machine.proofs.Steps.{ldi, ld, st, add, sub, jmp, jz, halt, row, rows, fetch, advance, row_keeps, jz_keeps, counted}
use Rattle.sap_machine.proofs.Cycles.{users, at_run, in_run, ended, fed, settled, settles, cycle_in_run}
use Rattle.sap_machine.proofs.Rows.{Does, turn, row_ldi, row_ld, row_st, row_add, row_sub, row_jmp, row_jz, row_halt, fetches, advances, goes_on}

-- the numbers behind the body
abbrev pub worked : User → Numbers → Numbers
worked u v = advance (fetch (words_of u) (rows (cells_of u) v))

pub body : (u : User) (x y : ℕ) (v : Numbers) → v (own 6) ≡ turn_of u → Does u x y v (block user_body) (worked u v)
body u x y v who =
    let m = cells_of u in
    let v1 = row 1 ldi v in let w1 = row_keeps 1 ldi v (own 6) refl ∙ who in
    let v2 = row 2 (ld m) v1 in let w2 = row_keeps 2 (ld m) v1 (own 6) refl ∙ w1 in
    let v3 = row 3 (st m) v2 in let w3 = row_keeps 3 (st m) v2 (own 6) refl ∙ w2 in
    let v4 = row 4 (add m) v3 in let w4 = row_keeps 4 (add m) v3 (own 6) refl ∙ w3 in
    let v5 = row 5 (sub m) v4 in let w5 = row_keeps 5 (sub m) v4 (own 6) refl ∙ w4 in
    let v6 = row 6 jmp v5 in let w6 = row_keeps 6 jmp v5 (own 6) refl ∙ w5 in
    let v7 = row 7 jz v6 in let w7 = row_keeps 7 jz v6 (own 6) (jz_keeps v6) ∙ w6 in
    let v8 = row 8 halt v7 in let w8 = row_keeps 8 halt v7 (own 6) refl ∙ w7 in
    row_ldi u x y v _ ∙ row_ld u x y v1 w1 _ ∙ row_st u x y v2 w2 _ ∙ row_add u x y v3 w3 _ ∙ row_sub u x y v4 w4 _ ∙ row_jmp u x y v5 _ ∙ row_jz u x y v6 _ ∙ row_halt u x y v7 _
    ∙ fetches u x y v8 w8 _ ∙ advances u x y (fetch (words_of u) v8) _ ∙ goes_on u x y (advance (fetch (words_of u) v8))

abbrev run_enter : ℕ → ℕ → Store → After
run_enter = does_child machine_world users 18

fall_quiet : Quiet (raised_alone machine_world at_run (fall_to_child 30 M.none))
fall_quiet = enforced (hangs 18 users (M.fall 30)) refl refl (λ x. simp apart refl)

falls : (u : User) (x y : ℕ) (v : Numbers) → v (own 6) ≡ turn_of u
    → does_block (within machine_world at_run run_enter) (block (M.fall 30 ∷ [])) 0 (store_of (turn u x y) v) ≡ stay (store_of (turn u x y) (worked u v))
unfolding effect does_child does_state
falls A x y v who =
    accept machine_world at_run run_enter end_block 0 (store_of (turn A x y) v) (fall_to_child 30 M.none) (store_of (turn A x y) (worked A v)) fall_quiet refl (body A x y v who)
    ∙ finished at_run run_enter 0 (store_of (turn A x y) (worked A v))
falls B x y v who =
    accept machine_world at_run run_enter end_block 0 (store_of (turn B x y) v) (fall_to_child 30 M.none) (store_of (turn B x y) (worked B v)) fall_quiet refl (body B x y v who)
    ∙ finished at_run run_enter 0 (store_of (turn B x y) (worked B v))

-- one instruction, where the count is not 0
pub runs : (u : User) (x y : ℕ) (v : Numbers) → v (own 6) ≡ turn_of u → eqb (v (own 5)) 0 ≡ false → in_run (turn u x y) v ≡ stay (store_of (turn u x y) (worked u (counted v)))
runs u x y v who count =
    take_else machine_world at_run run_enter end_block 0 (store_of (turn u x y) v) (M.is 3 (read M.cnt) 0) M.none
    (block (M.goto 28 M.kernel ∷ [])) (block (M.set 29 M.cnt (two Sub (read M.cnt) (constant 3 1)) ∷ M.fall 30 ∷ []))
    (enforced (hangs 18 users (M.if_or (M.is 3 (read M.cnt) 0) (M.goto 28 M.kernel ∷ [])
    (M.set 29 M.cnt (two Sub (read M.cnt) (constant 3 1)) ∷ M.fall 30 ∷ []))) refl refl (λ x. simp apart refl))
    refl (store_of (turn u x y) (worked u (counted v))) (ap (λ b. let m : ℕ = if b then 1 else 0 in m) count)
    (assigned at_run run_enter 29 M.cnt (two Sub (read M.cnt) (constant 3 1)) (block (M.fall 30 ∷ [])) 0 (turn u x y) v refl refl ∙ falls u x y (counted v) who)
    ∙ finished at_run run_enter 0 (store_of (turn u x y) (worked u (counted v)))

-- the numbers behind a cycle of a turn
abbrev pub instruction : User → Tagged → Tagged → Numbers → Numbers
instruction u s t v = settled (worked u (counted (fed s t v)))

-- a whole cycle of a turn
pub cycle_of : (u : User) (x y : ℕ) (s t : Tagged) (v : Numbers) → v (own 6) ≡ turn_of u → eqb (v (own 5)) 0 ≡ false
    → cycle machine (s ∷ t ∷ []) (store_of (turn u x y) v) ≡ stay (store_of (turn u s.level t.level) (instruction u s t v))
cycle_of u x y s t v who count =
    cycle_in_run (turn u x y) v s t ∙ ap ended (runs u s.level t.level (fed s t v) who count)
    ∙ ap stay (settles (turn u s.level t.level) (worked u (counted (fed s t v))))
