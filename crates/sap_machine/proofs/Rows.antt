-- What the body of User does in a cycle of a user's turn, command by command.
use Rattle.std.proofs.Common.{◌≡◌, ℕ, true, false, refl, ap, ◌∙◌, [], ◌∷◌, eqb, if◌then◌else◌}
use Rattle.sap_maps.specs.Term.{Term, constant, read, cell, two}
use Rattle.sap_bits.specs.declared.Op2.TheVariants.{Add, Sub}
use Rattle.sap_meaning.specs.Prelude.{within, Block, command_then, end_block, no_node, Command, assign, go_to, is_dynamic, Store, own, After, stay, Home, test, value, tag, does_block, does_child, effect, touches, hangs, raised_alone}
use Rattle.sap_meaning.proofs.Commands.{Quiet, take_then, take_else, accept}
use Rattle.sap_machine.proofs.Literal.{machine_world, block, on, when, if_or, set, store, is, turn_of_a}
use Rattle.sap_machine.proofs.Literal as M
use Rattle.sap_machine.specs.declared.user.User.{User}
use Rattle.sap_machine.specs.declared.user.User.TheVariants.{A, B}
use Rattle.sap_machine.proofs.Users.{of_user, level_of, turn_of, words_of, cells_of}
use Rattle.sap_machine.proofs.Entities.{apart}
use Rattle.sap_machine.proofs.Commands.{enforced}
use Rattle.sap_machine.proofs.View.{Frame, held_by, Numbers, store_of, put, assigned, stored, chosen}
use Rattle.sap_machine.proofs.Moves.{to_user}
use Rattle.sap_machine.proofs.Steps.{op, ldi, ld, st, add, sub, jmp, jz, halt, row, fetch, advance}

abbrev pub at_user : Home
at_user = record { state = 19; parent = 18; children = no_node }

abbrev pub enter : ℕ → ℕ → Store → After
enter = does_child machine_world no_node 19

-- a user's turn
abbrev pub turn : User → (first second : ℕ) → Frame
turn u x y = held_by (level_of u) x y

-- what stands in User does so to a store of the user's turn, at the user's level
abbrev pub Does : User → (x y : ℕ) → Numbers → Block → Numbers → Type 0
Does u x y v b w = does_block (within machine_world at_user enter) b (level_of u) (store_of (turn u x y) v) ≡ stay (store_of (turn u x y) w)

abbrev pub Leads : User → (x y : ℕ) → Numbers → Command → Numbers → Type 0
Leads u x y v c w = (cs : Block)
    → does_block (within machine_world at_user enter) (command_then c cs) (level_of u) (store_of (turn u x y) v)
    ≡ does_block (within machine_world at_user enter) cs (level_of u) (store_of (turn u x y) w)

pub at_end : (u : User) (x y : ℕ) (v : Numbers) → Does u x y v end_block v
unfolding does_block
at_end u x y v = refl

-- a condition that is at or below the user's level
abbrev Allows : Term ℕ → User → Type 0
Allows e u = (x y : ℕ) (v : Numbers) → machine_world.order.join (level_of u) (tag machine_world e (store_of (turn u x y) v)) ≡ level_of u

-- the one in a turn of a, the other in a turn of b
abbrev mine : User → Command → Command → Command
mine A c d = c
mine B c d = d

-- if (who == 0) { .. } else { .. }
turned : (u : User) (c d : Command) (w : Numbers) (x y : ℕ) (v : Numbers) → v (own 6) ≡ turn_of u → Quiet (touches machine_world at_user (if_or turn_of_a (c ∷ []) (d ∷ [])))
    → Leads u x y v (mine u c d) w → Leads u x y v (if_or turn_of_a (c ∷ []) (d ∷ [])) w
turned A c d w x y v who quiet leads cs =
    take_then machine_world at_user enter cs 1 (store_of (turn A x y) v) turn_of_a M.none (block (c ∷ [])) (block (d ∷ [])) quiet refl (store_of (turn A x y) w)
    (ap (λ n. let m : ℕ = if eqb n 0 then 1 else 0 in m) who) (leads end_block ∙ at_end A x y w)
turned B c d w x y v who quiet leads cs =
    take_else machine_world at_user enter cs 2 (store_of (turn B x y) v) turn_of_a M.none (block (c ∷ [])) (block (d ∷ [])) quiet refl (store_of (turn B x y) w)
    (ap (λ n. let m : ℕ = if eqb n 0 then 1 else 0 in m) who) (leads end_block ∙ at_end B x y w)

-- a row of the table: if (ir[11:8] == k) { .. }
on_row : (u : User) (k : ℕ) (c : Command) (does : Numbers → Numbers) (x y : ℕ) (v : Numbers) → Quiet (touches machine_world at_user (on k (c ∷ [])))
    → Leads u x y v c (does v) → Leads u x y v (on k (c ∷ [])) (row k does v)
on_row u k c does x y v quiet leads cs =
    chosen at_user enter (is 4 M.op k) (block (c ∷ [])) end_block cs M.none (level_of u) (turn u x y) v (does v) v (eqb (op v) k) quiet
    (of_user (Allows (is 4 M.op k)) (λ x y v. refl) (λ x y v. refl) u x y v) refl (leads end_block ∙ at_end u x y (does v)) (at_end u x y v)

-- x := e, where its test holds in each user's turn
abbrev Passes : (site x : ℕ) → Term ℕ → User → Type 0
Passes site r e u = (x y : ℕ) (v : Numbers) → test machine_world at_user (assign site r e) (level_of u) (store_of (turn u x y) v) ≡ true

sets : (u : User) (site r : ℕ) (e : Term ℕ) (x y : ℕ) (v : Numbers) → is_dynamic machine_world r ≡ false → Passes site r e u
    → Leads u x y v (set site r e) (put (own r) (value machine_world e (store_of (turn u x y) v)) v)
sets u site r e x y v enforced_register passes cs = assigned at_user enter site r e cs (level_of u) (turn u x y) v enforced_register (passes x y v)

pub row_ldi : (u : User) (x y : ℕ) (v : Numbers) → Leads u x y v (on 1 (set 31 M.acc M.byte ∷ [])) (row 1 ldi v)
row_ldi u x y v =
    on_row u 1 (set 31 M.acc M.byte) ldi x y v (enforced (hangs 19 no_node (on 1 (set 31 M.acc M.byte ∷ []))) refl refl (λ x. simp apart refl))
    (sets u 31 M.acc M.byte x y v refl (of_user (Passes 31 M.acc M.byte) (λ x y v. refl) (λ x y v. refl) u))

-- acc := da[ir[3:0]], and the same of db
abbrev loaded : User → Command
loaded A = set 32 M.acc (cell M.da M.place)
loaded B = set 33 M.acc (cell M.db M.place)

pub row_ld : (u : User) (x y : ℕ) (v : Numbers) → v (own 6) ≡ turn_of u → Leads u x y v (on 2 (if_or turn_of_a (loaded A ∷ []) (loaded B ∷ []) ∷ [])) (row 2 (ld (cells_of u)) v)
row_ld u x y v who =
    on_row u 2 (if_or turn_of_a (loaded A ∷ []) (loaded B ∷ [])) (ld (cells_of u)) x y v
    (enforced (hangs 19 no_node (on 2 (if_or turn_of_a (loaded A ∷ []) (loaded B ∷ []) ∷ []))) refl refl (λ x. simp apart refl))
    (turned u (loaded A) (loaded B) (ld (cells_of u) v) x y v who (enforced (hangs 19 no_node (if_or turn_of_a (loaded A ∷ []) (loaded B ∷ []))) refl refl (λ x. simp apart refl))
    (of_user (λ u. Leads u x y v (mine u (loaded A) (loaded B)) (ld (cells_of u) v))
    (sets A 32 M.acc (cell M.da M.place) x y v refl (λ x y v. refl)) (sets B 33 M.acc (cell M.db M.place) x y v refl (λ x y v. refl)) u))

-- da[ir[3:0]] := acc, and the same of db
abbrev stores : User → Command
stores A = store 34 M.da M.place (read M.acc)
stores B = store 35 M.db M.place (read M.acc)

pub row_st : (u : User) (x y : ℕ) (v : Numbers) → v (own 6) ≡ turn_of u → Leads u x y v (on 3 (if_or turn_of_a (stores A ∷ []) (stores B ∷ []) ∷ [])) (row 3 (st (cells_of u)) v)
row_st u x y v who =
    on_row u 3 (if_or turn_of_a (stores A ∷ []) (stores B ∷ [])) (st (cells_of u)) x y v
    (enforced (hangs 19 no_node (on 3 (if_or turn_of_a (stores A ∷ []) (stores B ∷ []) ∷ []))) refl refl (λ x. simp apart refl))
    (turned u (stores A) (stores B) (st (cells_of u) v) x y v who (enforced (hangs 19 no_node (if_or turn_of_a (stores A ∷ []) (stores B ∷ []))) refl refl (λ x. simp apart refl))
    (of_user (λ u. Leads u x y v (mine u (stores A) (stores B)) (st (cells_of u) v))
    (λ cs. stored at_user enter 34 M.da M.place (read M.acc) cs 1 (turn A x y) v refl refl)
    (λ cs. stored at_user enter 35 M.db M.place (read M.acc) cs 2 (turn B x y) v refl refl) u))

-- acc := acc + da[ir[3:0]], and the same of db
abbrev added : User → Command
added A = set 36 M.acc (two Add (read M.acc) (cell M.da M.place))
added B = set 37 M.acc (two Add (read M.acc) (cell M.db M.place))

pub row_add : (u : User) (x y : ℕ) (v : Numbers) → v (own 6) ≡ turn_of u → Leads u x y v (on 4 (if_or turn_of_a (added A ∷ []) (added B ∷ []) ∷ [])) (row 4 (add (cells_of u)) v)
row_add u x y v who =
    on_row u 4 (if_or turn_of_a (added A ∷ []) (added B ∷ [])) (add (cells_of u)) x y v
    (enforced (hangs 19 no_node (on 4 (if_or turn_of_a (added A ∷ []) (added B ∷ []) ∷ []))) refl refl (λ x. simp apart refl))
    (turned u (added A) (added B) (add (cells_of u) v) x y v who (enforced (hangs 19 no_node (if_or turn_of_a (added A ∷ []) (added B ∷ []))) refl refl (λ x. simp apart refl))
    (of_user (λ u. Leads u x y v (mine u (added A) (added B)) (add (cells_of u) v))
    (sets A 36 M.acc (two Add (read M.acc) (cell M.da M.place)) x y v refl (λ x y v. refl))
    (sets B 37 M.acc (two Add (read M.acc) (cell M.db M.place)) x y v refl (λ x y v. refl)) u))

-- acc := acc - da[ir[3:0]], and the same of db
abbrev subtracted : User → Command
subtracted A = set 38 M.acc (two Sub (read M.acc) (cell M.da M.place))
subtracted B = set 39 M.acc (two Sub (read M.acc) (cell M.db M.place))

pub row_sub : (u : User) (x y : ℕ) (v : Numbers) → v (own 6) ≡ turn_of u
    → Leads u x y v (on 5 (if_or turn_of_a (subtracted A ∷ []) (subtracted B ∷ []) ∷ [])) (row 5 (sub (cells_of u)) v)
row_sub u x y v who =
    on_row u 5 (if_or turn_of_a (subtracted A ∷ []) (subtracted B ∷ [])) (sub (cells_of u)) x y v
    (enforced (hangs 19 no_node (on 5 (if_or turn_of_a (subtracted A ∷ []) (subtracted B ∷ []) ∷ []))) refl refl (λ x. simp apart refl))
    (turned u (subtracted A) (subtracted B) (sub (cells_of u) v) x y v who
    (enforced (hangs 19 no_node (if_or turn_of_a (subtracted A ∷ []) (subtracted B ∷ []))) refl refl (λ x. simp apart refl))
    (of_user (λ u. Leads u x y v (mine u (subtracted A) (subtracted B)) (sub (cells_of u) v))
    (sets A 38 M.acc (two Sub (read M.acc) (cell M.da M.place)) x y v refl (λ x y v. refl))
    (sets B 39 M.acc (two Sub (read M.acc) (cell M.db M.place)) x y v refl (λ x y v. refl)) u))

pub row_jmp : (u : User) (x y : ℕ) (v : Numbers) → Leads u x y v (on 6 (set 40 M.pc M.place ∷ [])) (row 6 jmp v)
row_jmp u x y v =
    on_row u 6 (set 40 M.pc M.place) jmp x y v (enforced (hangs 19 no_node (on 6 (set 40 M.pc M.place ∷ []))) refl refl (λ x. simp apart refl))
    (sets u 40 M.pc M.place x y v refl (of_user (Passes 40 M.pc M.place) (λ x y v. refl) (λ x y v. refl) u))

pub row_jz : (u : User) (x y : ℕ) (v : Numbers) → Leads u x y v (on 7 (when (is 8 (read M.acc) 0) (set 41 M.pc M.place ∷ []) ∷ [])) (row 7 jz v)
row_jz u x y v =
    on_row u 7 (when (is 8 (read M.acc) 0) (set 41 M.pc M.place ∷ [])) jz x y v
    (enforced (hangs 19 no_node (on 7 (when (is 8 (read M.acc) 0) (set 41 M.pc M.place ∷ []) ∷ []))) refl refl (λ x. simp apart refl))
    (λ cs. chosen at_user enter (is 8 (read M.acc) 0) (block (set 41 M.pc M.place ∷ [])) end_block cs M.none (level_of u) (turn u x y) v (jmp v) v (eqb (v (own 3)) 0)
    (enforced (hangs 19 no_node (when (is 8 (read M.acc) 0) (set 41 M.pc M.place ∷ []))) refl refl (λ x. simp apart refl))
    (of_user (Allows (is 8 (read M.acc) 0)) (λ x y v. refl) (λ x y v. refl) u x y v) refl
    (sets u 41 M.pc M.place x y v refl (of_user (Passes 41 M.pc M.place) (λ x y v. refl) (λ x y v. refl) u) end_block ∙ at_end u x y (jmp v)) (at_end u x y v))

pub row_halt : (u : User) (x y : ℕ) (v : Numbers) → Leads u x y v (on 8 (set 42 M.pc (two Sub (read M.pc) (constant 4 1)) ∷ [])) (row 8 halt v)
row_halt u x y v =
    on_row u 8 (set 42 M.pc (two Sub (read M.pc) (constant 4 1))) halt x y v
    (enforced (hangs 19 no_node (on 8 (set 42 M.pc (two Sub (read M.pc) (constant 4 1)) ∷ []))) refl refl (λ x. simp apart refl))
    (sets u 42 M.pc (two Sub (read M.pc) (constant 4 1)) x y v refl (of_user (Passes 42 M.pc (two Sub (read M.pc) (constant 4 1))) (λ x y v. refl) (λ x y v. refl) u))

-- ir := pa[pc], and the same of pb
abbrev fetched : User → Command
fetched A = set 43 M.ir (cell M.pa (read M.pc))
fetched B = set 44 M.ir (cell M.pb (read M.pc))

pub fetches : (u : User) (x y : ℕ) (v : Numbers) → v (own 6) ≡ turn_of u → Leads u x y v (if_or turn_of_a (fetched A ∷ []) (fetched B ∷ [])) (fetch (words_of u) v)
fetches u x y v who =
    turned u (fetched A) (fetched B) (fetch (words_of u) v) x y v who
    (enforced (hangs 19 no_node (if_or turn_of_a (fetched A ∷ []) (fetched B ∷ []))) refl refl (λ x. simp apart refl))
    (of_user (λ u. Leads u x y v (mine u (fetched A) (fetched B)) (fetch (words_of u) v))
    (sets A 43 M.ir (cell M.pa (read M.pc)) x y v refl (λ x y v. refl)) (sets B 44 M.ir (cell M.pb (read M.pc)) x y v refl (λ x y v. refl)) u)

pub advances : (u : User) (x y : ℕ) (v : Numbers) → Leads u x y v (set 45 M.pc (two Add (read M.pc) (constant 4 1))) (advance v)
advances u x y v = sets u 45 M.pc (two Add (read M.pc) (constant 4 1)) x y v refl (of_user (Passes 45 M.pc (two Add (read M.pc) (constant 4 1))) (λ x y v. refl) (λ x y v. refl) u)

-- goto User
stays_quiet : Quiet (raised_alone machine_world at_user (go_to 46 19))
stays_quiet = enforced (hangs 19 no_node (M.goto 46 M.user)) refl refl (λ x. simp apart refl)

abbrev MayStay : User → Type 0
MayStay u = (x y : ℕ) (v : Numbers) → test machine_world at_user (go_to 46 19) (level_of u) (store_of (turn u x y) v) ≡ true

pub goes_on : (u : User) (x y : ℕ) (v : Numbers) → Does u x y v (block (M.goto 46 M.user ∷ [])) v
unfolding effect
goes_on u x y v =
    accept machine_world at_user enter end_block (level_of u) (store_of (turn u x y) v) (go_to 46 19) (store_of (turn u x y) v) stays_quiet
    (of_user MayStay (λ x y v. refl) (λ x y v. refl) u x y v) (ap stay (to_user (turn u x y) v)) ∙ at_end u x y v
