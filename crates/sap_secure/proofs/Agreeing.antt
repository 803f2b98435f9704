-- Stores that look alike while a cycle runs.
use Rattle.std.proofs.lemmas.Bool.{cond_both}
use Rattle.sap_lemmas.proofs.Common.{◌≡◌, ℕ, Bool, true, false, ◌||◌, refl, sym, ap, ◌∙◌, subst, inl, inr, if◌then◌else◌, cases_Bool, false_from_ne_true}
use Rattle.sap_meaning.proofs.ProgramLemmas.{state_no_value}
use Rattle.sap_lattice.specs.Order.{Laws}
use Rattle.sap_meaning.specs.Prelude.{World, entity, is_dynamic, is_input, is_register, is_memory, is_state, authority, Slot, own, start, next, Store, owner, home, number, level, same_slot, put_number, put_level, put_child, raised, raise, lowered, reset, held, Low, High}
use Rattle.sap_meaning.proofs.Slots.{slot_self, slot_same, home_own, home_cell, home_next, level_number, level_raise, number_put}
use Rattle.sap_meaning.proofs.Keeps.{OfDynamic, raise_keeps, reset_keeps}
use Rattle.sap_secure.proofs.Levels.{Like, Same, high_left, high_right, low_join, same_high, same_self, same_flip, same_next, same_raised}

-- what expressions can read, and what commands can write
abbrev pub compared : World → Slot → Bool
compared w (own x) = is_input w x || is_register w x
compared w (start m i) = is_memory w m
compared w (next m i) = is_memory w m
compared w _ = false

pub record Agree (w : World) (l : ℕ) (s t : Store) : Type 0 where
  pub cells : (z : Slot) → compared w z ≡ true → Same w.order l (number z s) (level w z s) (number z t) (level w z t)
  pub tags : (z : Slot) → held w z ≡ true → is_dynamic w (owner z) ≡ false → Low w.order l (authority w (owner z)) → level w z s ≡ level w z t

-- no slot but z has its level where z has it
abbrev pub Sole : World → Slot → Type 0
Sole w z = (y : Slot) → same_slot (home w y) (home w z) ≡ true → y ≡ z

pub sole_own : (w : World) (x : ℕ) → Sole w (own x)
sole_own w x y h = slot_same y (own x) (sym (home_own w y x) ∙ h)

pub sole_cell : (w : World) (m i : ℕ) → is_dynamic w m ≡ false → Sole w (next m i)
sole_cell w m i d y h = home_cell w y m i (subst (λ z. same_slot (home w y) z ≡ true) (home_next w m i d) h)

pub sole_test : (w : World) (z : Slot) → Sole w z → (y : Slot) → same_slot (home w y) (home w z) ≡ same_slot y z
sole_test w z sole y = elim (cases_Bool (same_slot y z)) [
  | inl h ↦ (ap (λ x. same_slot (home w x) (home w z)) (slot_same y z h) ∙ slot_self (home w z)) ∙ sym h
  | inr h ↦ false_from_ne_true _ (λ j. let k : same_slot y z ≡ true = ap (λ x. same_slot x z) (sole y j) ∙ slot_self z in cc) ∙ sym h
]

module _ (w : World) (laws : Laws w.order) (l : ℕ) where
  pub agree_self : (s : Store) → Agree w l s s
  agree_self s = record { cells = λ z g. same_self w.order laws l _ _; tags = λ z g d a. refl }

  pub agree_flip : (s t : Store) → Agree w l s t → Agree w l t s
  agree_flip s t r = record { cells = λ z g. same_flip w.order laws l _ _ _ _ (r.cells z g); tags = λ z g d a. sym (r.tags z g d a) }

  pub agree_next : (s t u : Store) → Agree w l s t → Agree w l t u → Agree w l s u
  agree_next s t u r q = record {
    cells = λ z g. same_next w.order laws l _ _ _ _ _ _ (r.cells z g) (q.cells z g);
    tags = λ z g d a. r.tags z g d a ∙ q.tags z g d a;
  }

  -- writes of numbers that are equal where the level is low
  pub agree_number : (s t : Store) (z : Slot) (n m : ℕ) → Agree w l s t → (compared w z ≡ true → Low w.order l (level w z s) → n ≡ m)
      → Agree w l (put_number z n s) (put_number z m t)
  agree_number s t z n m r f = record {
    cells = λ y g. rw (number_put y z n s, number_put y z m t, level_number w y z n s, level_number w y z m t) (both y g (same_slot y z) (λ h. slot_same y z h));
    tags = λ y g d a. level_number w y z n s ∙ r.tags y g d a ∙ sym (level_number w y z m t);
  }
    where
      both : (y : Slot) → compared w y ≡ true → (b : Bool) → (b ≡ true → y ≡ z)
          → Same w.order l (if b then n else number y s) (level w y s) (if b then m else number y t) (level w y t)
      both y g true at =
          let e : y ≡ z = at refl in
          let q = r.cells y g in
          record { low = q.low; number = λ h. f (subst (λ x. compared w x ≡ true) e g) (subst (λ x. Low w.order l (level w x s)) e h); level = q.level }
      both y g false at = r.cells y g

  -- both
  pub agree_write : (s t : Store) (z : Slot) (n a m b : ℕ) → Sole w z → Agree w l s t → (compared w z ≡ true → Same w.order l n a m b)
      → (is_dynamic w (owner z) ≡ false → Low w.order l (authority w (owner z)) → a ≡ b) → Agree w l (put_level w z a (put_number z n s)) (put_level w z b (put_number z m t))
  unfolding put_level put_number
  agree_write s t z n a m b sole r f e = record {
    cells = λ y g. rw (sole_test w z sole y) (both y g (same_slot y z) (slot_same y z));
    tags = λ y g d low. rw (sole_test w z sole y) (tagged y g d low (same_slot y z) (slot_same y z));
  }
    where
      both : (y : Slot) → compared w y ≡ true → (i : Bool) → (i ≡ true → y ≡ z)
          → Same w.order l (if i then n else number y s) (if i then a else level w y s) (if i then m else number y t) (if i then b else level w y t)
      both y g true at = f (subst (λ x. compared w x ≡ true) (at refl) g)
      both y g false at = r.cells y g

      tagged : (y : Slot) → held w y ≡ true → is_dynamic w (owner y) ≡ false → Low w.order l (authority w (owner y)) → (i : Bool)
          → (i ≡ true → y ≡ z) → (if i then a else level w y s) ≡ (if i then b else level w y t)
      tagged y g d low true at = e (subst (λ x. is_dynamic w (owner x) ≡ false) (at refl) d) (subst (λ x. Low w.order l (authority w (owner x))) (at refl) low)
      tagged y g d low false at = r.tags y g d low

  -- a write that looks the same
  pub agree_over : (s : Store) (z : Slot) (n a : ℕ) → Sole w z → (compared w z ≡ true → Same w.order l (number z s) (level w z s) n a)
      → (is_dynamic w (owner z) ≡ false → Low w.order l (authority w (owner z)) → level w z s ≡ a) → Agree w l s (put_level w z a (put_number z n s))
  unfolding put_level put_number
  agree_over s z n a sole f e = record {
    cells = λ y g. rw (sole_test w z sole y) (both y g (same_slot y z) (slot_same y z));
    tags = λ y g d low. rw (sole_test w z sole y) (tagged y d low (same_slot y z) (slot_same y z));
  }
    where
      both : (y : Slot) → compared w y ≡ true → (i : Bool) → (i ≡ true → y ≡ z)
          → Same w.order l (number y s) (level w y s) (if i then n else number y s) (if i then a else level w y s)
      both y g true at = subst (λ x. Same w.order l (number x s) (level w x s) n a) (sym (at refl)) (f (subst (λ x. compared w x ≡ true) (at refl) g))
      both y g false at = same_self w.order laws l _ _

      tagged : (y : Slot) → is_dynamic w (owner y) ≡ false → Low w.order l (authority w (owner y)) → (i : Bool) → (i ≡ true → y ≡ z) → level w y s ≡ (if i then a else level w y s)
      tagged y d low true at = subst (λ x. level w x s ≡ a) (sym (at refl))
          (e (subst (λ x. is_dynamic w (owner x) ≡ false) (at refl) d) (subst (λ x. Low w.order l (authority w (owner x))) (at refl) low))
      tagged y d low false at = refl

  -- a write of a number where the level is high
  pub agree_hidden : (s : Store) (z : Slot) (n : ℕ) → (compared w z ≡ true → High w.order l (level w z s)) → Agree w l s (put_number z n s)
  unfolding put_number
  agree_hidden s z n f = record {
    cells = λ y g. cond_both (same_slot y z) n (number y s) (λ v. Same w.order l (number y s) (level w y s) v (level w y s)) (λ i.
        let e : y ≡ z = slot_same y z i in
        let h : High w.order l (level w y s) = subst (λ x. High w.order l (level w x s)) (sym e) (f (subst (λ x. compared w x ≡ true) e g)) in
        same_high w.order laws l _ _ _ _ h h) (λ i. same_self w.order laws l _ _);
    tags = λ y g d low. refl;
  }

  -- raises of dynamic entities by levels that are equal or both high
  pub agree_raised : (s t : Store) (h : ℕ → Bool) (a b : ℕ) → OfDynamic w h → Agree w l s t → Like w.order l a b → Agree w l (raise w.order h a s) (raise w.order h b t)
  unfolding raise
  agree_raised s t h a b dyn r f = record {
    cells = λ y g. elim (cases_Bool (raised h (home w y))) [ inl i ↦ rw i (same_raised w.order laws l _ _ _ _ a b (r.cells y g) f) | inr i ↦ rw i (r.cells y g) ];
    tags = λ y g d low. raise_keeps w s h a dyn y d ∙ r.tags y g d low ∙ sym (raise_keeps w t h b dyn y d);
  }

  -- a raise of what is high
  pub agree_raise : (s : Store) (h : ℕ → Bool) (a : ℕ) → OfDynamic w h
      → ((y : Slot) → compared w y ≡ true → raised h (home w y) ≡ true → High w.order l (level w y s)) → Agree w l s (raise w.order h a s)
  unfolding raise
  agree_raise s h a dyn high = record {
    cells = λ y g. cond_both (raised h (home w y)) _ _ (λ v. Same w.order l (number y s) (level w y s) (number y s) v)
        (λ e. same_high w.order laws l _ _ _ _ (high y g e) (high_left w.order laws l (level w y s) a (high y g e))) (λ e. same_self w.order laws l _ _);
    tags = λ y g d low. sym (raise_keeps w s h a dyn y d);
  }

  -- what is high stays high
  pub raise_high : (s : Store) (h : ℕ → Bool) (a : ℕ) (y : Slot) → High w.order l (level w y s) → High w.order l (level w y (raise w.order h a s))
  raise_high s h a y high =
      rw (level_raise w y h a s) (cond_both (raised h (home w y)) _ _ (λ v. High w.order l v) (λ e. high_left w.order laws l _ a high) (λ e. high))

  pub raise_low : (s : Store) (h : ℕ → Bool) (a : ℕ) (y : Slot) → Low w.order l a → Low w.order l (level w y s) → Low w.order l (level w y (raise w.order h a s))
  raise_low s h a y low here =
      rw (level_raise w y h a s) (cond_both (raised h (home w y)) _ _ (λ v. Low w.order l v) (λ e. low_join w.order laws l _ a here low) (λ e. here))

  -- what is raised to a high level is high
  pub raise_to : (s : Store) (h : ℕ → Bool) (a : ℕ) (y : Slot) → raised h (home w y) ≡ true → High w.order l a → High w.order l (level w y (raise w.order h a s))
  raise_to s h a y e high = rw (level_raise w y h a s, e) (high_right w.order laws l _ a high)

  pub agree_child : (s : Store) (p n : ℕ) → Agree w l s (put_child p n s)
  unfolding put_child
  agree_child s p n = record { cells = λ y g. same_self w.order laws l _ _; tags = λ y g d a. refl }

  -- states are not compared
  pub agree_reset : (s : Store) (target : ℕ) → Agree w l s (reset w target s)
  unfolding reset
  agree_reset s target = record {
    cells = λ y g. rw (off y g) (same_self w.order laws l _ _);
    tags = λ y g d a. sym (reset_keeps w s target y d);
  }
    where
      off : (y : Slot) → compared w y ≡ true → lowered w target (home w y) ≡ false
      off (own x) g = elim (cases_Bool (is_state w x)) [
        | inl k ↦ (let no = state_no_value (entity w x).kind k in cc)
        | inr k ↦ rw k refl
      ]
      off (start m i) g = elim (cases_Bool (is_dynamic w m)) [ inl d ↦ rw d refl | inr d ↦ rw d refl ]
      off (next m i) g = elim (cases_Bool (is_dynamic w m)) [ inl d ↦ rw d refl | inr d ↦ rw d refl ]
      off _ g = refl

  -- a state's level is not compared, but for its authority
  pub agree_state : (s : Store) (x a : ℕ) → is_state w x ≡ true → is_dynamic w x ≡ true → Agree w l s (put_level w (own x) a s)
  unfolding put_level
  agree_state s x a st d = record {
    cells = λ y g. rw (sole_test w (own x) (sole_own w x) y) (cond_both (same_slot y (own x)) a (level w y s) (λ v. Same w.order l (number y s) (level w y s) (number y s) v)
        (λ i. let g' = subst (λ z. compared w z ≡ true) (slot_same y (own x) i) g in let no = state_no_value (entity w x).kind st in cc) (λ i. same_self w.order laws l _ _));
    tags = λ y g e low. rw (sole_test w (own x) (sole_own w x) y) (cond_both (same_slot y (own x)) a (level w y s) (λ v. level w y s ≡ v)
        (λ i. let e' = subst (λ z. is_dynamic w (owner z) ≡ false) (slot_same y (own x) i) e in cc) (λ i. refl));
  }
