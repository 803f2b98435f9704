-- A cycle of the kernel: it keeps what the pipeline has of one user, zeroes and retags the pipeline, and takes what it keeps of the other.
use Rattle.std.proofs.Common.{◌≡◌, ℕ, true, ◌+◌, ◌-◌, ◌%◌, refl, ap, ◌∙◌, List, [], ◌∷◌, eqb, if◌then◌else◌}
use Rattle.sap_maps.specs.Term.{constant, read, one, two}
use Rattle.sap_bits.specs.declared.Op1.TheVariants.{Not}
use Rattle.sap_bits.specs.declared.Op2.TheVariants.{Sub}
use Rattle.sap_meaning.specs.Prelude.{within, Command, Block, end_block, command_then, go_to, no_node, Store, own, After, stay, does_block, does_child, effect, touches, hangs, raised_alone, Tagged, cycle}
use Rattle.sap_meaning.proofs.Commands.{Quiet, take_then, take_else, accept}
use Rattle.sap_machine.specs.declared.user.User.{User}
use Rattle.sap_machine.specs.declared.user.User.TheVariants.{A, B}
use Rattle.sap_machine.specs.Slices.{other}
use Rattle.sap_machine.proofs.Literal.{machine, machine_world, block, turn_of_a, if_or, set, set_tag}
use Rattle.sap_machine.proofs.Literal as M
use Rattle.sap_machine.proofs.Users.{level_of, turn_of, pc_of, acc_of}
use Rattle.sap_machine.proofs.Entities.{apart}
use Rattle.sap_machine.proofs.Commands.{enforced, finished}
use Rattle.sap_machine.proofs.View.{Frame, held_by, Numbers, store_of, put, assigned}
use Rattle.sap_machine.proofs.Moves.{to_run}
use Rattle.sap_machine.proofs.Retagged.{tagged_number, retagged, level_of_pc, level_of_acc, level_of_ir, level_of_user}
use Rattle.sap_machine.proofs.Cycles.{at_kernel, in_kernel, ended, fed, settled, settles, cycle_in_kernel}

abbrev enter : ℕ → ℕ → Store → After
enter = does_child machine_world no_node 17

-- what some commands at the front of the kernel's body, the rest of which is cs, lead to
abbrev Leads : Command → Frame → Numbers → Frame → Numbers → Type 0
Leads c f v g w = (cs : Block) → does_block (within machine_world at_kernel enter) (command_then c cs) 0 (store_of f v) ≡ does_block (within machine_world at_kernel enter) cs 0 (store_of g w)

abbrev keep : User → List Command
keep A = set 6 M.apc (two Sub (read M.pc) (constant 4 1)) ∷ set 7 M.aacc (read M.acc) ∷ []
keep B = set 8 M.bpc (two Sub (read M.pc) (constant 4 1)) ∷ set 9 M.bacc (read M.acc) ∷ []

abbrev take : User → List Command
take A = set_tag 14 M.pc 1 ∷ set_tag 15 M.acc 1 ∷ set_tag 16 M.ir 1 ∷ set_tag 17 M.user 1 ∷ set 18 M.pc (read M.apc) ∷ set 19 M.acc (read M.aacc) ∷ []
take B = set_tag 20 M.pc 2 ∷ set_tag 21 M.acc 2 ∷ set_tag 22 M.ir 2 ∷ set_tag 23 M.user 2 ∷ set 24 M.pc (read M.bpc) ∷ set 25 M.acc (read M.bacc) ∷ []

keep_quiet : Quiet (touches machine_world at_kernel (if_or turn_of_a (keep A) (keep B)))
keep_quiet = enforced (hangs 17 no_node (if_or turn_of_a (keep A) (keep B))) refl refl (λ x. simp apart refl)

take_quiet : Quiet (touches machine_world at_kernel (if_or turn_of_a (take A) (take B)))
take_quiet = enforced (hangs 17 no_node (if_or turn_of_a (take A) (take B))) refl refl (λ x. simp apart refl)

go_quiet : Quiet (raised_alone machine_world at_kernel (go_to 27 18))
go_quiet = enforced (hangs 17 no_node (M.goto 27 M.run)) refl refl (λ x. simp apart refl)

-- The pipeline as the kernel finds it, when the user u is to leave: at this user's level, or at low where the machine has just
-- begun, with the turn of b.
pub data Found : User → (level : ℕ) → Type 0 where
  at_first : Found B 0
  of_a : Found A 1
  of_b : Found B 2

-- in the kernel, with a pipeline at level l
abbrev pub kernel_frame : (l x y : ℕ) → Frame
kernel_frame l x y = record (held_by l x y) { current = 1 }

-- .. and behind its zeroing
abbrev zeroed_frame : (l x y : ℕ) → Frame
zeroed_frame l x y = record { first = x; second = y; pc = 0; acc = 0; ir = 0; user = l; current = 1 }

-- the numbers behind each part of the kernel's body

abbrev kept : User → Numbers → Numbers
kept u v = let w : Numbers = put (own (pc_of u)) ((16 + v (own 2) - 1) % 16) v in put (own (acc_of u)) (w (own 3)) w

abbrev zeroed : (l : ℕ) → Numbers → Numbers
zeroed l v = tagged_number l 0 4 (tagged_number l 0 3 (tagged_number l 0 2 v))

abbrev turned : Numbers → Numbers
turned v = put (own 6) (1 - v (own 6)) v

abbrev taken : User → (l : ℕ) → Numbers → Numbers
taken u l v =
    let t : ℕ = level_of u in
    let w : Numbers = tagged_number l t 19 (tagged_number 0 t 4 (tagged_number 0 t 3 (tagged_number 0 t 2 v))) in
    let w' : Numbers = put (own 2) (w (own (pc_of u))) w in
    put (own 3) (w' (own (acc_of u))) w'

-- from a turn of the user u, whose pipeline is at level l, to one of the other
abbrev pub switched : User → (l : ℕ) → Numbers → Numbers
switched u l v = put (own 5) 4 (taken (other u) l (turned (zeroed l (kept u v))))

keeps_a : (l x y : ℕ) (v : Numbers) → Found A l → v (own 6) ≡ 0 → Leads (if_or turn_of_a (keep A) (keep B)) (kernel_frame l x y) v (kernel_frame l x y) (kept A v)
keeps_a l x y v of_a who cs =
    let f : Frame = kernel_frame 1 x y in
    let w : Numbers = put (own 8) ((16 + v (own 2) - 1) % 16) v in
    take_then machine_world at_kernel enter cs 0 (store_of f v) turn_of_a M.none (block (keep A)) (block (keep B)) keep_quiet refl
    (store_of f (kept A v)) (ap (λ n. let m : ℕ = if eqb n 0 then 1 else 0 in m) who)
    (assigned at_kernel enter 6 M.apc (two Sub (read M.pc) (constant 4 1)) _ 0 f v refl refl
    ∙ assigned at_kernel enter 7 M.aacc (read M.acc) _ 0 f w refl refl ∙ finished at_kernel enter 0 (store_of f (kept A v)))

keeps_b_at : (l x y : ℕ) (v : Numbers) → machine_world.order.le (machine_world.order.join 0 (machine_world.order.join l 0)) 2 ≡ true
    → machine_world.order.le (machine_world.order.join 0 l) 2 ≡ true
    → v (own 6) ≡ 1 → Leads (if_or turn_of_a (keep A) (keep B)) (kernel_frame l x y) v (kernel_frame l x y) (kept B v)
keeps_b_at l x y v pc_passes acc_passes who cs =
    let f : Frame = kernel_frame l x y in
    let w : Numbers = put (own 10) ((16 + v (own 2) - 1) % 16) v in
    take_else machine_world at_kernel enter cs 0 (store_of f v) turn_of_a M.none (block (keep A)) (block (keep B)) keep_quiet refl
    (store_of f (kept B v)) (ap (λ n. let m : ℕ = if eqb n 0 then 1 else 0 in m) who)
    (assigned at_kernel enter 8 M.bpc (two Sub (read M.pc) (constant 4 1)) _ 0 f v refl pc_passes
    ∙ assigned at_kernel enter 9 M.bacc (read M.acc) _ 0 f w refl acc_passes ∙ finished at_kernel enter 0 (store_of f (kept B v)))

keeps : (u : User) (l x y : ℕ) (v : Numbers) → Found u l → v (own 6) ≡ turn_of u → Leads (if_or turn_of_a (keep A) (keep B)) (kernel_frame l x y) v (kernel_frame l x y) (kept u v)
keeps u l x y v at_first who = keeps_b_at 0 x y v refl refl who
keeps u l x y v of_a who = keeps_a 1 x y v of_a who
keeps u l x y v of_b who = keeps_b_at 2 x y v refl refl who

zeroes : (l x y : ℕ) (v : Numbers) (cs : Block)
    → does_block (within machine_world at_kernel enter)
    (command_then (set_tag 10 M.pc 0) (command_then (set_tag 11 M.acc 0) (command_then (set_tag 12 M.ir 0) cs))) 0 (store_of (kernel_frame l x y) v)
    ≡ does_block (within machine_world at_kernel enter) cs 0 (store_of (zeroed_frame l x y) (zeroed l v))
zeroes l x y v cs =
    let f : Frame = kernel_frame l x y in
    let f1 : Frame = record f { pc = 0 } in
    let f2 : Frame = record f1 { acc = 0 } in
    let v1 : Numbers = tagged_number l 0 2 v in
    let v2 : Numbers = tagged_number l 0 3 v1 in
    retagged at_kernel enter 10 2 0 _ 0 f f1 v (level_of_pc f 0) refl ∙ retagged at_kernel enter 11 3 0 _ 0 f1 f2 v1 (level_of_acc f1 0) refl
    ∙ retagged at_kernel enter 12 4 0 cs 0 f2 (zeroed_frame l x y) v2 (level_of_ir f2 0) refl

-- the turn's user takes the pipeline, which was at level l
takes : (u : User) (l x y : ℕ) (v : Numbers) → v (own 6) ≡ turn_of u
    → Leads (if_or turn_of_a (take A) (take B)) (zeroed_frame l x y) v (kernel_frame (level_of u) x y) (taken u l v)
takes A l x y v who cs =
    let f : Frame = zeroed_frame l x y in
    let f1 : Frame = record f { pc = 1 } in
    let f2 : Frame = record f1 { acc = 1 } in
    let f3 : Frame = record f2 { ir = 1 } in
    let g : Frame = kernel_frame 1 x y in
    let v1 : Numbers = tagged_number 0 1 2 v in
    let v2 : Numbers = tagged_number 0 1 3 v1 in
    let v3 : Numbers = tagged_number 0 1 4 v2 in
    let v4 : Numbers = tagged_number l 1 19 v3 in
    let v5 : Numbers = put (own 2) (v4 (own 8)) v4 in
    take_then machine_world at_kernel enter cs 0 (store_of f v) turn_of_a M.none (block (take A)) (block (take B)) take_quiet refl
    (store_of g (taken A l v)) (ap (λ n. let m : ℕ = if eqb n 0 then 1 else 0 in m) who)
    (retagged at_kernel enter 14 2 1 _ 0 f f1 v (level_of_pc f 1) refl ∙ retagged at_kernel enter 15 3 1 _ 0 f1 f2 v1 (level_of_acc f1 1) refl
    ∙ retagged at_kernel enter 16 4 1 _ 0 f2 f3 v2 (level_of_ir f2 1) refl ∙ retagged at_kernel enter 17 19 1 _ 0 f3 g v3 (level_of_user f3 1) refl
    ∙ assigned at_kernel enter 18 M.pc (read M.apc) _ 0 g v4 refl refl ∙ assigned at_kernel enter 19 M.acc (read M.aacc) _ 0 g v5 refl refl
    ∙ finished at_kernel enter 0 (store_of g (taken A l v)))
takes B l x y v who cs =
    let f : Frame = zeroed_frame l x y in
    let f1 : Frame = record f { pc = 2 } in
    let f2 : Frame = record f1 { acc = 2 } in
    let f3 : Frame = record f2 { ir = 2 } in
    let g : Frame = kernel_frame 2 x y in
    let v1 : Numbers = tagged_number 0 2 2 v in
    let v2 : Numbers = tagged_number 0 2 3 v1 in
    let v3 : Numbers = tagged_number 0 2 4 v2 in
    let v4 : Numbers = tagged_number l 2 19 v3 in
    let v5 : Numbers = put (own 2) (v4 (own 10)) v4 in
    take_else machine_world at_kernel enter cs 0 (store_of f v) turn_of_a M.none (block (take A)) (block (take B)) take_quiet refl
    (store_of g (taken B l v)) (ap (λ n. let m : ℕ = if eqb n 0 then 1 else 0 in m) who)
    (retagged at_kernel enter 20 2 2 _ 0 f f1 v (level_of_pc f 2) refl ∙ retagged at_kernel enter 21 3 2 _ 0 f1 f2 v1 (level_of_acc f1 2) refl
    ∙ retagged at_kernel enter 22 4 2 _ 0 f2 f3 v2 (level_of_ir f2 2) refl ∙ retagged at_kernel enter 23 19 2 _ 0 f3 g v3 (level_of_user f3 2) refl
    ∙ assigned at_kernel enter 24 M.pc (read M.bpc) _ 0 g v4 refl refl ∙ assigned at_kernel enter 25 M.acc (read M.bacc) _ 0 g v5 refl refl
    ∙ finished at_kernel enter 0 (store_of g (taken B l v)))

-- cnt := 4; goto Run
leaves : (t x y : ℕ) (v : Numbers) → does_block (within machine_world at_kernel enter) (block (set 26 M.cnt (constant 3 4) ∷ M.goto 27 M.run ∷ [])) 0
    (store_of (kernel_frame t x y) v) ≡ stay (store_of (held_by t x y) (put (own 5) 4 v))
unfolding effect
leaves t x y v =
    let f : Frame = kernel_frame t x y in
    assigned at_kernel enter 26 M.cnt (constant 3 4) _ 0 f v refl refl
    ∙ accept machine_world at_kernel enter end_block 0 (store_of f (put (own 5) 4 v)) (go_to 27 18)
    (store_of (held_by t x y) (put (own 5) 4 v)) go_quiet refl (ap stay (to_run f (put (own 5) 4 v)))
    ∙ finished at_kernel enter 0 (store_of (held_by t x y) (put (own 5) 4 v))

-- ~who is the turn of the other
other_turn : (u : User) (l : ℕ) (v : Numbers) → v (own 6) ≡ turn_of u → turned (zeroed l (kept u v)) (own 6) ≡ turn_of (other u)
other_turn A l v is = ap (λ n. 1 - n) is
other_turn B l v is = ap (λ n. 1 - n) is

switches : (u : User) (l x y : ℕ) (v : Numbers) → Found u l → v (own 6) ≡ turn_of u
    → in_kernel (kernel_frame l x y) v ≡ stay (store_of (held_by (level_of (other u)) x y) (switched u l v))
switches u l x y v found who =
    let t : ℕ = level_of (other u) in
    let v1 : Numbers = zeroed l (kept u v) in
    let v2 : Numbers = turned v1 in
    keeps u l x y v found who _ ∙ zeroes l x y (kept u v) _
    ∙ assigned at_kernel enter 13 M.who (one Not (read M.who)) _ 0 (zeroed_frame l x y) v1 refl refl
    ∙ takes (other u) l x y v2 (other_turn u l v who) _
    ∙ leaves t x y (taken (other u) l v2)

-- a whole cycle of the kernel
pub switch_cycle : (u : User) (l x y : ℕ) (s t : Tagged) (v : Numbers) → Found u l → v (own 6) ≡ turn_of u
    → cycle machine (s ∷ t ∷ []) (store_of (kernel_frame l x y) v) ≡ stay (store_of (held_by (level_of (other u)) s.level t.level) (settled (switched u l (fed s t v))))
switch_cycle u l x y s t v found who =
    cycle_in_kernel (kernel_frame l x y) v s t ∙ ap ended (switches u l s.level t.level (fed s t v) found who)
    ∙ ap stay (settles (held_by (level_of (other u)) s.level t.level) (switched u l (fed s t v)))
