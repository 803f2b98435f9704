-- What writes, raises and resets do to numbers, levels and current children.
use Rattle.sap_lemmas.proofs.Common.{◌≡◌, ℕ, Bool, true, false, refl, ap, arith, nat_eq, inl, inr, if◌then◌else◌, cases_Bool, eqb-true, common_steps, and_left, and_right, test_of_same}
use Rattle.sap_meaning.proofs.ProgramLemmas.{register_no_memory_test, state_no_memory_test}
use Rattle.sap_lattice.specs.Order.{Order}
use Rattle.sap_meaning.specs.Program.{World, entity, is_dynamic, is_register, is_state, below}
use Rattle.sap_meaning.specs.Store.{Slot, own, start, next, start_whole, next_whole, Store, owner, home, number, level, child, same_slot, put_number, put_level, put_child, raised, raise, lowered, reset, source, settle, held}

pub slot_self : (z : Slot) → same_slot z z ≡ true
slot_self (own x) = test_of_same x
slot_self (start m i) = grind (arith, common_steps, test_of_same m, test_of_same i)
slot_self (next m i) = grind (arith, common_steps, test_of_same m, test_of_same i)
slot_self (start_whole m) = test_of_same m
slot_self (next_whole m) = test_of_same m

pub slot_same : (y z : Slot) → same_slot y z ≡ true → y ≡ z
slot_same (own x) (own y) h = ap own (eqb-true x y h)
slot_same (start m i) (start n j) h =
    let a = eqb-true m n (and_left _ _ h) in let b = eqb-true i j (and_right (nat_eq m n) _ h) in cc
slot_same (next m i) (next n j) h =
    let a = eqb-true m n (and_left _ _ h) in let b = eqb-true i j (and_right (nat_eq m n) _ h) in cc
slot_same (start_whole m) (start_whole n) h = ap start_whole (eqb-true m n h)
slot_same (next_whole m) (next_whole n) h = ap next_whole (eqb-true m n h)
slot_same _ _ h = cc

pub owner_home : (w : World) (z : Slot) → owner (home w z) ≡ owner z
owner_home w (start m i) = elim (cases_Bool (is_dynamic w m)) [ inl d ↦ rw d refl | inr d ↦ rw d refl ]
owner_home w (next m i) = elim (cases_Bool (is_dynamic w m)) [ inl d ↦ rw d refl | inr d ↦ rw d refl ]
owner_home w _ = refl

-- an entity's own slot shares its level with no other
pub home_own : (w : World) (y : Slot) (x : ℕ) → same_slot (home w y) (own x) ≡ same_slot y (own x)
home_own w (start m i) x = elim (cases_Bool (is_dynamic w m)) [ inl d ↦ rw d refl | inr d ↦ rw d refl ]
home_own w (next m i) x = elim (cases_Bool (is_dynamic w m)) [ inl d ↦ rw d refl | inr d ↦ rw d refl ]
home_own w _ x = refl

pub home_next : (w : World) (m i : ℕ) → is_dynamic w m ≡ false → home w (next m i) ≡ next m i
home_next w m i d = rw d refl

pub home_start : (w : World) (m i : ℕ) → is_dynamic w m ≡ false → home w (start m i) ≡ start m i
home_start w m i d = rw d refl

-- nor does a cell of an enforced memory
pub home_cell : (w : World) (y : Slot) (m i : ℕ) → same_slot (home w y) (next m i) ≡ true → y ≡ next m i
home_cell w (start n j) m i h = elim (cases_Bool (is_dynamic w n)) [ inl d ↦ (let h' = rw d at h in cc) | inr d ↦ (let h' = rw d at h in cc) ]
home_cell w (next n j) m i h = elim (cases_Bool (is_dynamic w n)) [ inl d ↦ (let h' = rw d at h in cc) | inr d ↦ slot_same (next n j) (next m i) (rw d at h) ]
home_cell w _ m i h = cc

pub number_put : (y z : Slot) (n : ℕ) (s : Store) → number y (put_number z n s) ≡ (if same_slot y z then n else number y s)
unfolding put_number
number_put y z n s = refl

pub level_number : (w : World) (y z : Slot) (n : ℕ) (s : Store) → level w y (put_number z n s) ≡ level w y s
unfolding put_number
level_number w y z n s = refl

pub child_number : (p : ℕ) (z : Slot) (n : ℕ) (s : Store) → child p (put_number z n s) ≡ child p s
unfolding put_number
child_number p z n s = refl

pub level_put : (w : World) (y z : Slot) (t : ℕ) (s : Store) → level w y (put_level w z t s) ≡ (if same_slot (home w y) (home w z) then t else level w y s)
unfolding put_level
level_put w y z t s = refl

pub number_level : (w : World) (y z : Slot) (t : ℕ) (s : Store) → number y (put_level w z t s) ≡ number y s
unfolding put_level
number_level w y z t s = refl

pub child_level_put : (w : World) (p : ℕ) (z : Slot) (t : ℕ) (s : Store) → child p (put_level w z t s) ≡ child p s
unfolding put_level
child_level_put w p z t s = refl

pub level_child : (w : World) (y : Slot) (p n : ℕ) (s : Store) → level w y (put_child p n s) ≡ level w y s
unfolding put_child
level_child w y p n s = refl

pub number_child : (y : Slot) (p n : ℕ) (s : Store) → number y (put_child p n s) ≡ number y s
unfolding put_child
number_child y p n s = refl

pub child_put : (q p n : ℕ) (s : Store) → child q (put_child p n s) ≡ (if nat_eq q p then n else child q s)
unfolding put_child
child_put q p n s = refl

pub level_raise : (w : World) (y : Slot) (h : ℕ → Bool) (t : ℕ) (s : Store)
    → level w y (raise w.order h t s) ≡ (if raised h (home w y) then w.order.join (level w y s) t else level w y s)
unfolding raise
level_raise w y h t s = refl

pub number_raise : (o : Order) (y : Slot) (h : ℕ → Bool) (t : ℕ) (s : Store) → number y (raise o h t s) ≡ number y s
unfolding raise
number_raise o y h t s = refl

pub child_raise : (o : Order) (p : ℕ) (h : ℕ → Bool) (t : ℕ) (s : Store) → child p (raise o h t s) ≡ child p s
unfolding raise
child_raise o p h t s = refl

pub level_reset : (w : World) (y : Slot) (target : ℕ) (s : Store) → level w y (reset w target s) ≡ (if lowered w target (home w y) then w.order.bottom else level w y s)
unfolding reset
level_reset w y target s = refl

pub number_reset : (w : World) (y : Slot) (target : ℕ) (s : Store) → number y (reset w target s) ≡ number y s
unfolding reset
number_reset w y target s = refl

pub child_reset : (w : World) (p target : ℕ) (s : Store) → child p (reset w target s) ≡ (if nat_eq p target then 0 else if below w target p then 0 else child p s)
unfolding reset
child_reset w p target s = refl

pub home_source : (w : World) (z : Slot) → source (home w z) ≡ home w (source z)
home_source w (start m i) = elim (cases_Bool (is_dynamic w m)) [ inl d ↦ rw d refl | inr d ↦ rw d refl ]
home_source w (next m i) = elim (cases_Bool (is_dynamic w m)) [ inl d ↦ rw d refl | inr d ↦ rw d refl ]
home_source w _ = refl

pub owner_source : (z : Slot) → owner (source z) ≡ owner z
owner_source (own x) = refl
owner_source _ = refl

pub held_source : (w : World) (z : Slot) → held w z ≡ true → held w (source z) ≡ true
held_source w (start_whole m) h = cc
held_source w (next_whole m) h = cc
held_source w _ h = h

pub held_register : (w : World) (x : ℕ) → is_register w x ≡ true → held w (own x) ≡ true
held_register w x h = register_no_memory_test (entity w x).kind h

pub held_state : (w : World) (x : ℕ) → is_state w x ≡ true → held w (own x) ≡ true
held_state w x h = state_no_memory_test (entity w x).kind h

pub level_settle : (w : World) (z : Slot) (s : Store) → level w z (settle s) ≡ level w (source z) s
unfolding settle
level_settle w z s = ap s.level (home_source w z)

pub number_settle : (z : Slot) (s : Store) → number z (settle s) ≡ number (source z) s
unfolding settle
number_settle z s = refl

pub child_settle : (p : ℕ) (s : Store) → child p (settle s) ≡ child p s
unfolding settle
child_settle p s = refl

-- what is raised hangs
pub raised_hangs : (h : ℕ → Bool) (z : Slot) → raised h z ≡ true → h (owner z) ≡ true
raised_hangs h (own x) e = e
raised_hangs h (next_whole m) e = e
raised_hangs h _ e = cc

-- what is lowered is dynamic, and a state
pub lowered_dynamic : (w : World) (target : ℕ) (z : Slot) → lowered w target z ≡ true → is_dynamic w (owner z) ≡ true
lowered_dynamic w target (own x) e = and_right (below w target x) _ e
lowered_dynamic w target _ e = cc
