-- Two runs of open commands, from stores that look alike, look alike.
use Rattle.sap_lemmas.proofs.Common.{◌≡◌, ℕ, Bool, true, false, ◌&&◌, ◌||◌, List, ◌∷◌, refl, sym, ap, ◌∙◌, subst, nat_eq, inl, inr, ◌⊎◌, if◌then◌else◌, cases_Bool, eqb-true, or_left, or_right, and_left, iff_same, test_of_same}
use Rattle.sap_lattice.specs.Order.{Laws}
use Rattle.sap_maps.specs.Term.{Term, constant, read, cell, one, two, choose, join, part}
use Rattle.sap_meaning.specs.Prelude.{World, is_dynamic, authority, LevelTerm, fixed, of, at_place, both, Step, assign, write, retag, retag_cell, go_to, fall_to_child, Command, lone, try, if_else, try_then, case_of, Arms, last_arm, and_arm, Block, end_block, command_then, is_memory, Slot, own, start, next, Store, owner, number, level, put_number, raise, After, stay, and_then, Holds, value, tag, level_at, new_level, told, Home, site_of, guard, test, touches, raised_alone, effect, attempt, select, branch, does, does_block, attempt_then, is_constant, does_arms, Low, High, seen, FineTerm, FineLevel, transfers, Open, NoTransfer, Once, OnceBlock, OnceArms, step_writes, step_reaches, block_reaches, EveryInArms, EveryInBlock}
use Rattle.sap_meaning.specs.Does.{within, choose_arm}
use Rattle.sap_meaning.proofs.Slots.{held_register}
use Rattle.sap_meaning.proofs.Keeps.{OfDynamic, Keeps, branch_all, holds_raise, alone_dynamic, effect_holds}
use Rattle.sap_secure.proofs.Levels.{Like, Same, high_right, low_below, low_left, low_right, low_join, not_below, same_high, seen_parts}
use Rattle.sap_secure.proofs.Agreeing.{compared, Agree, sole_own, sole_cell, agree_flip, agree_next, agree_number, agree_write, agree_hidden, agree_raised, raise_to}
use Rattle.sap_secure.proofs.Concerns.{step_concerns, concerns, block_concerns, hanging, arms_concern}
use Rattle.sap_secure.proofs.Sites.{Site, spot, Proper, ProperBlock, ProperStep, fine_block, apart_from, ProperArms}
use Rattle.sap_secure.proofs.Frames.{start_effect, next_effect}
use Rattle.sap_secure.proofs.Confined.{held_target, Confined, Entering, Quiet, Even, confined_self, quiet_raise, even_raise, even_next, landing, keeps, attempt_confined, select_confined, block_confined, touches_dynamic, quiet_left, quiet_right, attempt_then_confined, arms_confined, hush_next, changing, begun}

-- two results that look alike
pub record Twin (w : World) (l : ℕ) (a b : After) : Type 0 where
  pub same : Agree w l a.store b.store
  pub refused : seen w.order l a.refused ≡ seen w.order l b.refused

-- what holds of both blocks holds of the one that is picked
pub branch_both : (P : After → After → Type 0) (a b : ℕ → Store → After) (v p : ℕ) (t u : Store) → P (a p t) (a p u) → P (b p t) (b p u) → P (branch a b v p t) (branch a b v p u)
branch_both P a b v p t u x y = elim (cases_Bool (nat_eq v 0)) [ inl i ↦ rw i y | inr i ↦ rw i x ]

-- and so for the arm and the others
pub choose_both : (P : After → After → Type 0) (cs : List ℕ) (a : ℕ → Store → After) (others : ℕ → ℕ → Store → After) (v p : ℕ) (t u : Store)
    → P (a p t) (a p u) → P (others v p t) (others v p u)
    → P (choose_arm cs a others v p t) (choose_arm cs a others v p u)
choose_both P cs a others v p t u x y = elim (cases_Bool (is_constant cs v)) [ inl i ↦ rw i x | inr i ↦ rw i y ]

-- a step that is refused, before what its handler does
abbrev pub refusal : Step → ℕ → After → After
refusal k v a = record { store = a.store; refused = record { site = site_of k; level = v } ∷ a.refused }

module _ (w : World) (laws : Laws w.order) (l : ℕ) where
  abbrev IsLow : ℕ → Type 0
  IsLow t = Low w.order l t

  left_low : (x y : ℕ) → Low w.order l (w.order.join x y) → IsLow x
  left_low x y h = low_left w.order laws l x y h

  right_low : (x y : ℕ) → Low w.order l (w.order.join x y) → IsLow y
  right_low x y h = low_right w.order laws l x y h

  pub value_low : (e : Term ℕ) → FineTerm w e → (s t : Store) → Agree w l s t → Low w.order l (tag w e s) → value w e s ≡ value w e t
  value_low (constant u n) fine s t r h = refl
  value_low (read x) fine s t r h = (r.cells (own x) fine).number h
  value_low (cell m i) fine s t r h =
      let n = value_low i fine.1 s t r (left_low _ _ h) in
      rw (← n) ((r.cells (start m (value w i s)) fine.0).number (right_low (tag w i s) _ h))
  value_low (one op a) fine s t r h = let f = value_low a fine s t r h in cc
  value_low (two op a b) fine s t r h =
      let f = value_low a fine.0 s t r (left_low _ _ h) in let g = value_low b fine.1 s t r (right_low (tag w a s) _ h) in cc
  value_low (choose c a b) fine s t r h =
      let k = right_low (tag w c s) _ h in
      let e = value_low c fine.0 s t r (left_low _ _ h) in let f = value_low a fine.1 s t r (left_low _ _ k) in let g = value_low b fine.2 s t r (right_low (tag w a s) _ k) in cc
  value_low (join a b) fine s t r h =
      let f = value_low a fine.0 s t r (left_low _ _ h) in let g = value_low b fine.1 s t r (right_low (tag w a s) _ h) in cc
  value_low (part a hi lo) fine s t r h = let f = value_low a fine s t r h in cc

  pub tag_low : (e : Term ℕ) → FineTerm w e → (s t : Store) → Agree w l s t → Low w.order l (tag w e s) → tag w e s ≡ tag w e t
  tag_low (constant u n) fine s t r h = refl
  tag_low (read x) fine s t r h = (r.cells (own x) fine).level h
  tag_low (cell m i) fine s t r h =
      let f = tag_low i fine.1 s t r (left_low _ _ h) in
      let n = value_low i fine.1 s t r (left_low _ _ h) in
      let v = (r.cells (start m (value w i s)) fine.0).level (right_low (tag w i s) _ h) in
      ap (λ x. w.order.join x (level w (start m (value w i s)) s)) f ∙ ap (λ x. w.order.join (tag w i t) x) (v ∙ ap (λ x. level w (start m x) t) n)
  tag_low (one op a) fine s t r h = tag_low a fine s t r h
  tag_low (two op a b) fine s t r h =
      let f = tag_low a fine.0 s t r (left_low _ _ h) in let g = tag_low b fine.1 s t r (right_low (tag w a s) _ h) in cc
  tag_low (choose c a b) fine s t r h =
      let k = right_low (tag w c s) _ h in
      let e = tag_low c fine.0 s t r (left_low _ _ h) in let f = tag_low a fine.1 s t r (left_low _ _ k) in let g = tag_low b fine.2 s t r (right_low (tag w a s) _ k) in cc
  tag_low (join a b) fine s t r h =
      let f = tag_low a fine.0 s t r (left_low _ _ h) in let g = tag_low b fine.1 s t r (right_low (tag w a s) _ h) in cc
  tag_low (part a hi lo) fine s t r h = tag_low a fine s t r h

  pub tag_same : (e : Term ℕ) → FineTerm w e → (s t : Store) → Agree w l s t → w.order.le (tag w e s) l ≡ w.order.le (tag w e t) l
  tag_same e fine s t r = iff_same _ _ (λ h. rw (sym (tag_low e fine s t r h)) h) (λ h. rw (sym (tag_low e fine t s (agree_flip w laws l s t r) h)) h)

  pub told_low : (n : LevelTerm) → FineLevel w n → (s t : Store) → Agree w l s t → Low w.order l (told w n s) → (told w n s ≡ told w n t) × (new_level w n s ≡ new_level w n t)
  told_low (fixed n) fine s t r h = (refl, refl)
  told_low (of e) fine s t r h = (tag_low e fine s t r h, tag_low e fine s t r h)
  told_low (at_place e) fine s t r h = (tag_low e fine s t r h, ap (λ v. level_at w.order v) (value_low e fine s t r h))
  told_low (both a b) fine s t r h =
      let f = told_low a fine.0 s t r (left_low _ _ h) in let g = told_low b fine.1 s t r (right_low (told w a s) _ h) in
      let f0 = f.0 in let f1 = f.1 in let g0 = g.0 in let g1 = g.1 in (cc, cc)

  pub told_same : (n : LevelTerm) → FineLevel w n → (s t : Store) → Agree w l s t → w.order.le (told w n s) l ≡ w.order.le (told w n t) l
  told_same n fine s t r = iff_same _ _ (λ h. rw (sym (told_low n fine s t r h).0) h) (λ h. rw (sym (told_low n fine t s (agree_flip w laws l s t r) h).0) h)

  pub refusal_twin : (k : Step) (v : ℕ) (a b : After) → IsLow v → Twin w l a b → Twin w l (refusal k v a) (refusal k v b)
  refusal_twin k v a b low c = record { same = c.same; refused = rw low (ap (λ rs. record { site = site_of k; level = v } ∷ rs) c.refused) }

  -- both results are those of high contexts
  pub twin_confined : (r u : Store) (a b : After) → Agree w l r u → Confined w l r a → Confined w l u b → Twin w l a b
  twin_confined r u a b e f g = record {
    same = agree_next w laws l _ _ _ (agree_flip w laws l _ _ f.same) (agree_next w laws l _ _ _ e g.same);
    refused = f.quiet ∙ sym g.quiet;
  }

  module _ (i : Site w) (entering : Entering w l i.kids i.enter) (holding : (n pc : ℕ) → Keeps w (i.enter n pc)) where
    abbrev At : Home
    At = spot i

    pub guard_same : (k : Step) → ProperStep w i k → transfers k ≡ false → (s t : Store) → Agree w l s t → w.order.le (guard w At k s) l ≡ w.order.le (guard w At k t) l
    guard_same (assign site x e) fine plain s t r = elim (cases_Bool (is_dynamic w x)) [ inl d ↦ rw d refl | inr d ↦ rw d (r.cells (own x) (or_right _ _ fine.0.0)).low ]
    guard_same (write site m j e) fine plain s t r = elim (cases_Bool (is_dynamic w m)) [ inl d ↦ rw d refl | inr d ↦ rw d (tag_same (cell m j) (fine.0.0, fine.0.1) s t r) ]
    guard_same (go_to site target) fine plain s t r = cc
    guard_same (fall_to_child site hang) fine plain s t r = cc
    guard_same _ fine plain s t r = refl

    pub guard_low : (k : Step) → ProperStep w i k → transfers k ≡ false → (s t : Store) → Agree w l s t → IsLow (guard w At k s) → guard w At k s ≡ guard w At k t
    guard_low (assign site x e) fine plain s t r h =
        elim (cases_Bool (is_dynamic w x)) [ inl d ↦ rw d refl | inr d ↦ rw d ((r.cells (own x) (or_right _ _ fine.0.0)).level (rw d at h)) ]
    guard_low (write site m j e) fine plain s t r h =
        elim (cases_Bool (is_dynamic w m)) [ inl d ↦ rw d refl | inr d ↦ rw d (tag_low (cell m j) (fine.0.0, fine.0.1) s t r (rw d at h)) ]
    guard_low (go_to site target) fine plain s t r h = cc
    guard_low (fall_to_child site hang) fine plain s t r h = cc
    guard_low _ fine plain s t r h = refl

    told_joined : (n : LevelTerm) (j : Term ℕ) → FineLevel w n → FineTerm w j → (s t : Store) → Agree w l s t
        → w.order.le (w.order.join (told w n s) (tag w j s)) l ≡ w.order.le (w.order.join (told w n t) (tag w j t)) l
    told_joined n j fn fj s t r = iff_same _ _ (λ h. one_way s t r h) (λ h. one_way t s (agree_flip w laws l s t r) h)
      where
        one_way : (s t : Store) → Agree w l s t → Low w.order l (w.order.join (told w n s) (tag w j s)) → Low w.order l (w.order.join (told w n t) (tag w j t))
        one_way s t r h = rw (← (told_low n fn s t r (left_low _ _ h)).0, ← tag_low j fj s t r (right_low (told w n s) _ h)) h

    -- under a low guard both tests tell the same
    pub test_low : (k : Step) → ProperStep w i k → transfers k ≡ false → (pc : ℕ) (s t : Store) → Agree w l s t → IsLow (guard w At k s) → test w At k pc s ≡ test w At k pc t
    test_low (assign site x e) fine plain pc s t r h = elim (cases_Bool (is_dynamic w x)) [
      | inl d ↦ rw d refl
      | inr d ↦ rw d (
          let low : Low w.order l (level w (own x) s) = rw d at h in
          let same = r.cells (own x) (or_right _ _ fine.0.0) in
          let lev = same.level low in
          elim (cases_Bool (w.order.le (tag w e s) l)) [
            | inl y ↦ (let g = tag_low e fine.0.1 s t r y in cc)
            | inr y ↦ (let a = not_below w.order laws l _ (level w (own x) s) (high_right w.order laws l pc (tag w e s) y) low in
                let b = not_below w.order laws l _ (level w (own x) t) (high_right w.order laws l pc (tag w e t) (sym (tag_same e fine.0.1 s t r) ∙ y)) (sym same.low ∙ low) in cc)
          ])
    ]
    test_low (write site m j e) fine plain pc s t r h = elim (cases_Bool (is_dynamic w m)) [
      | inl d ↦ rw d refl
      | inr d ↦ rw d (
          let h' = rw d at h in
          let low : Low w.order l (tag w j s) = left_low _ _ h' in
          let place : Low w.order l (level w (start m (value w j s)) s) = right_low (tag w j s) _ h' in
          let n = value_low j fine.0.1 s t r low in
          let ti = tag_low j fine.0.1 s t r low in
          let same = r.cells (start m (value w j s)) fine.0.0 in
          let lev = same.level place in
          rw (← n, ← ti) (elim (cases_Bool (w.order.le (tag w e s) l)) [
            | inl y ↦ (let g = tag_low e fine.0.2 s t r y in rw (← g, lev) refl)
            | inr y ↦ (let a = not_below w.order laws l _ (level w (start m (value w j s)) s)
                (high_right w.order laws l pc _ (high_right w.order laws l (tag w j s) (tag w e s) y)) place in
                let b = not_below w.order laws l _ (level w (start m (value w j s)) t)
                (high_right w.order laws l pc _ (high_right w.order laws l (tag w j s) (tag w e t) (sym (tag_same e fine.0.2 s t r) ∙ y)))
                (sym same.low ∙ place) in rw (a, b) refl)
          ]))
    ]
    test_low (retag site x n) fine plain pc s t r h = elim (cases_Bool (w.order.le (told w n s) l)) [
      | inl y ↦ (let f = told_low n fine.0.2 s t r y in let f0 = f.0 in let f1 = f.1 in cc)
      | inr y ↦ (let a = not_below w.order laws l _ (authority w x) (high_right w.order laws l pc (told w n s) y) h in
          let b = not_below w.order laws l _ (authority w x) (high_right w.order laws l pc (told w n t) (sym (told_same n fine.0.2 s t r) ∙ y)) h in rw (a, b) refl)
    ]
    test_low (retag_cell site m j n) fine plain pc s t r h = elim (cases_Bool (w.order.le (w.order.join (told w n s) (tag w j s)) l)) [
      | inl y ↦ (let f = told_low n fine.0.3 s t r (left_low _ _ y) in let g = tag_low j fine.0.2 s t r (right_low (told w n s) _ y) in let f0 = f.0 in let f1 = f.1 in cc)
      | inr y ↦ (let a = not_below w.order laws l _ (authority w m) (high_right w.order laws l pc _ y) h in
          let b = not_below w.order laws l _ (authority w m) (high_right w.order laws l pc _ (sym (told_joined n j fine.0.3 fine.0.2 s t r) ∙ y)) h in rw (a, b) refl)
    ]
    test_low _ fine plain pc s t r h = cc

    -- under a low guard the effects look alike
    pub effect_low : (k : Step) → ProperStep w i k → transfers k ≡ false → (pc : ℕ) (s t r u : Store) → IsLow pc → Agree w l s t
        → Agree w l r u → IsLow (guard w At k s) → test w At k pc s ≡ true → Twin w l (effect (within w At i.enter) k pc s r) (effect (within w At i.enter) k pc t u)
    unfolding effect
    effect_low (assign site x e) fine plain pc s t r u lowpc like lifts h ts = elim (cases_Bool (is_dynamic w x)) [
      | inl d ↦ rw d (record {
        same = agree_write w laws l r u (own x) _ _ _ _ (sole_own w x) lifts (λ _. dynamic_cell (cases_Bool (w.order.le (tag w e s) l))) (λ no _. cc);
        refused = refl;
      })
      | inr d ↦ rw d (
          let low : Low w.order l (level w (own x) s) = rw d at h in
          let up : w.order.le (w.order.join pc (tag w e s)) (level w (own x) s) ≡ true = rw d at ts in
          let n = value_low e fine.0.1 s t like (right_low pc _ (low_below w.order laws l _ _ up low)) in
          let same = lifts.cells (own x) (or_right _ _ fine.0.0) in
          record {
            same = agree_write w laws l r u (own x) _ _ _ _ (sole_own w x) lifts (λ _. record {
              low = same.low;
              number = λ _. n;
              level =
                  same.level;
            }) (λ d a. lifts.tags (own x) (held_register w x fine.0.0) d a);
            refused = refl;
          })
    ]
      where
        dynamic_cell : (Low w.order l (tag w e s) ⊎ High w.order l (tag w e s))
            → Same w.order l (value w e s) (w.order.join pc (tag w e s)) (value w e t) (w.order.join pc (tag w e t))
        dynamic_cell (inl y) = let a = tag_low e fine.0.1 s t like y in let b = value_low e fine.0.1 s t like y in record { low = cc; number = λ _. b; level = λ _. cc }
        dynamic_cell (inr y) = same_high w.order laws l _ _ _ _ (high_right w.order laws l pc _ y) (high_right w.order laws l pc _ (sym (tag_same e fine.0.1 s t like) ∙ y))
    effect_low (write site m j e) fine plain pc s t r u lowpc like lifts h ts = elim (cases_Bool (is_dynamic w m)) [
      | inl d ↦ rw d (dynamic_write d (cases_Bool (w.order.le (v s) l)))
      | inr d ↦ rw d (
          let h' = rw d at h in
          let n = value_low j fine.0.1 s t like (left_low _ _ h') in
          let up = rw d at ts in
          let te : Low w.order l (tag w e s) = right_low (tag w j s) _ (right_low pc _ (low_below w.order laws l _ _ up (right_low (tag w j s) _ h'))) in
          let k = value_low e fine.0.2 s t like te in
          rw (← n) (record { same = agree_number w laws l r u (next m (value w j s)) _ _ lifts (λ _ _. k); refused = refl }))
    ]
      where
        v : Store → ℕ
        v b = w.order.join pc (w.order.join (tag w j b) (tag w e b))

        here : ℕ → Bool
        here y = nat_eq y m

        dyn : is_dynamic w m ≡ true → OfDynamic w here
        dyn d y z = rw (eqb-true y m z) d

        v_low : (a b : Store) → Agree w l a b → Low w.order l (v a) → v a ≡ v b
        v_low a b q low =
            let k = right_low pc _ low in
            let ti = tag_low j fine.0.1 a b q (left_low _ _ k) in
            let te = tag_low e fine.0.2 a b q (right_low (tag w j a) _ k) in
            ap (λ x. w.order.join pc (w.order.join x (tag w e a))) ti ∙ ap (λ x. w.order.join pc (w.order.join (tag w j b) x)) te

        v_like : Like w.order l (v s) (v t)
        v_like = (iff_same _ _ (λ z. rw (sym (v_low s t like z)) z) (λ z. rw (sym (v_low t s (agree_flip w laws l s t like) z)) z), v_low s t like)

        lifted : is_dynamic w m ≡ true → Agree w l (raise w.order here (v s) r) (raise w.order here (v t) u)
        lifted d = agree_raised w laws l r u here (v s) (v t) (dyn d) lifts v_like

        hidden : is_dynamic w m ≡ true → (b z : Store) → High w.order l (v b)
            → Agree w l (raise w.order here (v b) z) (put_number (next m (value w j b)) (value w e b) (raise w.order here (v b) z))
        hidden d b z high = agree_hidden w laws l (raise w.order here (v b) z) (next m (value w j b)) (value w e b)
            (λ _. raise_to w laws l z here (v b) (next m (value w j b)) (rw d (test_of_same m)) high)

        dynamic_write : is_dynamic w m ≡ true → (Low w.order l (v s) ⊎ High w.order l (v s))
            → Twin w l (stay (put_number (next m (value w j s)) (value w e s) (raise w.order here (v s) r)))
            (stay (put_number (next m (value w j t)) (value w e t) (raise w.order here (v t) u)))
        dynamic_write d (inl low) =
            let a = right_low pc _ low in
            let n = value_low j fine.0.1 s t like (left_low _ _ a) in
            let k = value_low e fine.0.2 s t like (right_low (tag w j s) _ a) in
            rw (← n) (record { same = agree_number w laws l _ _ (next m (value w j s)) _ _ (lifted d) (λ _ _. k); refused = refl })
        dynamic_write d (inr high) = record {
          same = agree_next w laws l _ _ _ (agree_flip w laws l _ _ (hidden d s r high)) (agree_next w laws l _ _ _ (lifted d) (hidden d t u (sym v_like.0 ∙ high)));
          refused = refl;
        }
    effect_low (retag site x n) fine plain pc s t r u lowpc like lifts h ts =
        let y : Low w.order l (told w n s) = right_low pc _ (low_below w.order laws l _ _ (and_left _ _ ts) h) in
        let f = told_low n fine.0.2 s t like y in
        let lev = like.tags (own x) (held_target w laws l i entering holding x fine.0.0) fine.0.1 h in
        record {
          same = agree_write w laws l r u (own x) _ _ _ _ (sole_own w x) lifts (λ reg. record {
            low = ap (λ v. w.order.le v l) f.1;
            number =
                λ z. rw (sym lev, sym f.1) (kept_number reg z (cases_Bool (w.order.le (level w (own x) s) (new_level w n s))));
            level = λ _. f.1;
          }) (λ _ _. f.1);
          refused = refl;
        }
      where
        kept_number : compared w (own x) ≡ true → Low w.order l (new_level w n s)
            → ((w.order.le (level w (own x) s) (new_level w n s) ≡ true) ⊎ (w.order.le (level w (own x) s) (new_level w n s) ≡ false))
            → (if w.order.le (level w (own x) s) (new_level w n s) then number (own x) s else 0)
            ≡ (if w.order.le (level w (own x) s) (new_level w n s) then number (own x) t else 0)
        kept_number reg z (inl b) = rw b ((like.cells (own x) reg).number (low_below w.order laws l _ _ b z))
        kept_number reg z (inr b) = rw b refl
    effect_low (retag_cell site m j n) fine plain pc s t r u lowpc like lifts h ts =
        let y : Low w.order l (w.order.join (told w n s) (tag w j s)) = right_low pc _ (low_below w.order laws l _ _ (and_left _ _ ts) h) in
        let f = told_low n fine.0.3 s t like (left_low _ _ y) in
        let k = value_low j fine.0.2 s t like (right_low (told w n s) _ y) in
        let lev = like.tags (start m (value w j s)) fine.0.0 fine.0.1 h in
        rw (← k) (record {
          same = agree_write w laws l r u (next m (value w j s)) _ _ _ _ (sole_cell w m _ fine.0.1) lifts
              (λ reg. record {
                low = ap (λ v. w.order.le v l) f.1;
                number =
                    λ z. rw (sym lev, sym f.1) (kept_number z (cases_Bool (w.order.le (level w (start m (value w j s)) s) (new_level w n s))));
                level = λ _. f.1;
              }) (λ _ _. f.1);
          refused = refl;
        })
      where
        kept_number : Low w.order l (new_level w n s)
            → ((w.order.le (level w (start m (value w j s)) s) (new_level w n s) ≡ true)
            ⊎ (w.order.le (level w (start m (value w j s)) s) (new_level w n s) ≡ false))
            → (if w.order.le (level w (start m (value w j s)) s) (new_level w n s) then number (start m (value w j s)) s else 0)
            ≡ (if w.order.le (level w (start m (value w j s)) s) (new_level w n s) then number (start m (value w j s)) t else 0)
        kept_number z (inl b) = rw b ((like.cells (start m (value w j s)) fine.0.0).number (low_below w.order laws l _ _ b z))
        kept_number z (inr b) = rw b refl
    effect_low _ fine plain pc s t r u lowpc like lifts h ts = cc

    -- under a low guard
    attempt_low : (k : Step) → ProperStep w i k → transfers k ≡ false → (hang : ℕ → Bool) (h : ℕ → Store → After) (pc : ℕ) (s t : Store)
        → OfDynamic w hang → Holds w s → Holds w t → IsLow pc → Agree w l s t → IsLow (guard w At k s) → (eh : ℕ → Bool) → Even w eh s
        → Even w eh t → ((q : ℕ) (r u : Store) → Holds w r → Holds w u → IsLow q → Agree w l r u → Even w eh r → Even w eh u
        → Twin w l (h q r) (h q u)) → Twin w l (attempt (within w At i.enter) k hang h pc s) (attempt (within w At i.enter) k hang h pc t)
    unfolding attempt
    attempt_low k fine plain hang h pc s t dyn hs ht lowpc like low eh es et handler = elim (cases_Bool (test w At k pc s)) [
      | inl a ↦ rw (a, sym (test_low k fine plain pc s t like low) ∙ a) (effect_low k fine plain pc s t r u lowpc like lifts low a)
      | inr a ↦ rw (a, sym (test_low k fine plain pc s t like low) ∙ a) (again (guard w At k t) (guard_low k fine plain s t like low))
    ]
      where
        r : Store
        r = raise w.order hang (guard w At k s) s

        u : Store
        u = raise w.order hang (guard w At k t) t

        lifts : Agree w l r u
        lifts = agree_raised w laws l s t hang _ _ dyn like (guard_same k fine plain s t like, guard_low k fine plain s t like)

        again : (v : ℕ) → guard w At k s ≡ v
            → Twin w l (refusal k (w.order.join pc (guard w At k s)) (h (w.order.join pc (guard w At k s)) r)) (refusal k (w.order.join pc v) (h (w.order.join pc v) u))
        again v e = rw (← e) (
            let up : Low w.order l (w.order.join pc (guard w At k s)) = low_join w.order laws l _ _ lowpc low in
            refusal_twin k _ _ _ up (handler (w.order.join pc (guard w At k s)) r u (holds_raise w s hang _ dyn hs) (holds_raise w t hang _ dyn ht) up lifts
            (even_raise w laws l eh hang s _ dyn es) (even_raise w laws l eh hang t _ dyn et)))

    -- the effect of an open step leaves both parts of the cells that it does not write as they were
    pub even_step : (k : Step) → transfers k ≡ false → (h : ℕ → Bool)
        → ((m : ℕ) → is_memory w m ≡ true → is_dynamic w m ≡ false → h m ≡ true → step_writes k m ≡ false) → (pc : ℕ) (b s : Store)
        → Even w h s → Even w h (effect (within w At i.enter) k pc b s).store
    even_step k plain h free pc b s e z g d j = part z g j d (e z g d j)
      where
        part : (z : Slot) → changing w z ≡ true → h (owner z) ≡ true → is_dynamic w (owner z) ≡ false → level w (begun z) s ≡ level w z s
            → level w (begun z) (effect (within w (spot i) i.enter) k pc b s).store ≡ level w z (effect (within w (spot i) i.enter) k pc b s).store
        part (next m n) g j d e = let f = free m g d j in (start_effect w i 0 m g d k plain f pc b s n).level ∙ e ∙ sym (next_effect w i 0 m g d k plain f pc b s n).level
        part _ g j d e = refl

    -- and with an accepted part, which goes on from the stores behind the effect
    attempt_then_low : (k : Step) → ProperStep w i k → transfers k ≡ false
        → (hang : ℕ → Bool) (f h : ℕ → Store → After) (pc : ℕ) (s t : Store) → OfDynamic w hang → Holds w s → Holds w t → IsLow pc → Agree w l s t → IsLow (guard w At k s)
        → (fh eh : ℕ → Bool) → Even w fh s → Even w fh t → Even w eh s → Even w eh t
        → ((b r : Store) → Even w fh r → Even w fh (effect (within w At i.enter) k pc b r).store)
        → ((q : ℕ) (r u : Store) → Holds w r → Holds w u → IsLow q → Agree w l r u → Even w fh r → Even w fh u → Twin w l (f q r) (f q u))
        → ((q : ℕ) (r u : Store) → Holds w r → Holds w u → IsLow q → Agree w l r u → Even w eh r → Even w eh u → Twin w l (h q r) (h q u))
        → Twin w l (attempt_then (within w At i.enter) k hang f h pc s) (attempt_then (within w At i.enter) k hang f h pc t)
    unfolding attempt_then
    attempt_then_low k fine plain hang f h pc s t dyn hs ht lowpc like low fh eh fs ft es et keep accepted handler = elim (cases_Bool (test w At k pc s)) [
      | inl a ↦ rw (a, sym (test_low k fine plain pc s t like low) ∙ a) (behind a (guard w At k t) (guard_low k fine plain s t like low))
      | inr a ↦ rw (a, sym (test_low k fine plain pc s t like low) ∙ a) (again (guard w At k t) (guard_low k fine plain s t like low))
    ]
      where
        r : Store
        r = raise w.order hang (guard w At k s) s

        u : Store
        u = raise w.order hang (guard w At k t) t

        hr : Holds w r
        hr = holds_raise w s hang _ dyn hs

        hu : Holds w u
        hu = holds_raise w t hang _ dyn ht

        up : IsLow (w.order.join pc (guard w At k s))
        up = low_join w.order laws l _ _ lowpc low

        lifts : Agree w l r u
        lifts = agree_raised w laws l s t hang _ _ dyn like (guard_same k fine plain s t like, guard_low k fine plain s t like)

        one : Store
        one = (effect (within w At i.enter) k pc s r).store

        other : Store
        other = (effect (within w At i.enter) k pc t u).store

        behind : test w At k pc s ≡ true → (v : ℕ) → guard w At k s ≡ v
            → Twin w l (and_then (effect (within w At i.enter) k pc s r) (f (w.order.join pc (guard w At k s)))) (and_then (effect (within w At i.enter) k pc t u) (f (w.order.join pc v)))
        behind a v e = rw (← e) (
            let c = effect_low k fine plain pc s t r u lowpc like lifts low a in
            let b = sym (test_low k fine plain pc s t like low) ∙ a in
            let d = accepted (w.order.join pc (guard w At k s)) one other
            (effect_holds w At i.siblings (landing w laws l i entering holding) i.enter holding k fine.0 pc s r a hr)
            (effect_holds w At i.siblings (landing w laws l i entering holding) i.enter holding k fine.0 pc t u b hu)
            up c.same (keep s r (even_raise w laws l fh hang s _ dyn fs)) (keep t u (even_raise w laws l fh hang t _ dyn ft)) in
            record { same = d.same; refused = seen_parts w.order laws l _ _ _ _ c.refused d.refused })

        again : (v : ℕ) → guard w At k s ≡ v
            → Twin w l (refusal k (w.order.join pc (guard w At k s)) (h (w.order.join pc (guard w At k s)) r)) (refusal k (w.order.join pc v) (h (w.order.join pc v) u))
        again v e = rw (← e) (refusal_twin k _ _ _ up
            (handler (w.order.join pc (guard w At k s)) r u hr hu up lifts (even_raise w laws l eh hang s _ dyn es) (even_raise w laws l eh hang t _ dyn et)))

    select_low : (e : Term ℕ) → FineTerm w e → (hang : ℕ → Bool) (pick : ℕ → ℕ → Store → After) (pc : ℕ) (s t : Store) → OfDynamic w hang
        → Holds w s → Holds w t → IsLow pc → Agree w l s t → IsLow (tag w e s) → (eh : ℕ → Bool) → Even w eh s → Even w eh t
        → ((v q : ℕ) (r u : Store) → Holds w r → Holds w u → IsLow q → Agree w l r u → Even w eh r → Even w eh u
        → Twin w l (pick v q r) (pick v q u)) → Twin w l (select w e hang pick pc s) (select w e hang pick pc t)
    unfolding select
    select_low e fe hang pick pc s t dyn hs ht lowpc like low eh es et f =
        let n = value_low e fe s t like low in
        let v = tag_low e fe s t like low in
        let up = low_join w.order laws l pc (tag w e s) lowpc low in
        let r = raise w.order hang (tag w e s) s in
        let u = raise w.order hang (tag w e s) t in
        let lifts : Agree w l r u = agree_raised w laws l s t hang _ _ dyn like (refl, λ _. refl) in
        let c = f (value w e s) (w.order.join pc (tag w e s)) r u (holds_raise w s hang (tag w e s) dyn hs)
        (holds_raise w t hang (tag w e s) dyn ht) up lifts (even_raise w laws l eh hang s (tag w e s) dyn es) (even_raise w laws l eh hang t (tag w e s) dyn et) in
        subst (λ m. Twin w l (pick (value w e s) (w.order.join pc (tag w e s)) r) (pick m (w.order.join pc (tag w e t)) (raise w.order hang (tag w e t) t))) n
        (subst (λ m. Twin w l (pick (value w e s) (w.order.join pc (tag w e s)) r) (pick (value w e s) (w.order.join pc m) (raise w.order hang m t))) v c)

    -- a step alone whose guard is high touches nothing that it does not raise
    alone_quiet : (k : Step) → ProperStep w i k → transfers k ≡ false → (s : Store) → Even w (step_concerns w i.state i.kids k) s
        → High w.order l (guard w At k s) → Quiet w l (step_concerns w i.state i.kids k) (raise w.order (raised_alone w At k) (guard w At k s) s)
    alone_quiet (assign site x e) fine plain s even high z g h = (
      λ d. (let dx : is_dynamic w x ≡ true = rw (eqb-true (owner z) x h) at d in let high' = rw dx at high in let low = laws.least_of_all l in cc),
      λ d. inl (even_raise w laws l (step_concerns w i.state i.kids (assign site x e)) (λ y. false) s _ (λ y h. cc) even z g d h),
    )
    alone_quiet (write site m j e) fine plain s even high z g h = (
      λ d. (let dx : is_dynamic w m ≡ true = rw (eqb-true (owner z) m h) at d in let high' = rw dx at high in let low = laws.least_of_all l in cc),
      λ d. inl (even_raise w laws l (step_concerns w i.state i.kids (write site m j e)) (λ y. false) s _ (λ y h. cc) even z g d h),
    )
    alone_quiet _ fine plain s even high z g h = cc

    -- the parts of what a command touches
    pub even_left : (a b : ℕ → Bool) (s : Store) → Even w (λ x. a x || b x) s → Even w a s
    even_left a b s e z g d h = e z g d (or_left (a (owner z)) (b (owner z)) h)

    pub even_right : (a b : ℕ → Bool) (s : Store) → Even w (λ x. a x || b x) s → Even w b s
    even_right a b s e z g d h = e z g d (or_right (a (owner z)) (b (owner z)) h)

    pub try_side : (k : Step) (hang : List Bool) (h : Block) → Proper w i (try k hang h) → (pc : ℕ) (s : Store) → Holds w s
        → Even w (concerns w i.state i.kids (try k hang h)) s → High w.order l (guard w At k s)
        → Confined w l (raise w.order (touches w At (try k hang h)) (guard w At k s) s) (does (within w At i.enter) (try k hang h) pc s)
    unfolding does
    try_side k hang h fine pc s hs even g =
        let hung = touches w At (try k hang h) in
        let dyn : OfDynamic w hung = touches_dynamic w laws l i entering holding (try k hang h) in
        let r = raise w.order hung (guard w At k s) s in
        let q : Quiet w l (concerns w i.state i.kids (try k hang h)) r =
        quiet_raise w laws l (concerns w i.state i.kids (try k hang h)) hung _ s (hanging w i.state i.kids (try k hang h)) dyn g even in
        attempt_confined w laws l i entering holding k fine.0 hung (does_block (within w At i.enter) h) pc s dyn hs
        (quiet_left w laws l i entering holding (step_concerns w i.state i.kids k) (block_concerns w i.state i.kids h) r q) (inr g)
        (λ z up. block_confined w laws l i entering holding h fine.1 z r (holds_raise w s hung _ dyn hs) up
        (quiet_right w laws l i entering holding (step_concerns w i.state i.kids k) (block_concerns w i.state i.kids h) r q))

    pub if_side : (hang : List Bool) (e : Term ℕ) (a b : Block) → Proper w i (if_else hang e a b) → (pc : ℕ) (s : Store) → Holds w s
        → Even w (concerns w i.state i.kids (if_else hang e a b)) s → High w.order l (tag w e s)
        → Confined w l (raise w.order (touches w At (if_else hang e a b)) (tag w e s) s) (does (within w At i.enter) (if_else hang e a b) pc s)
    unfolding does
    if_side hang e a b fine pc s hs even g =
        let hung = touches w At (if_else hang e a b) in
        let dyn : OfDynamic w hung = touches_dynamic w laws l i entering holding (if_else hang e a b) in
        let r = raise w.order hung (tag w e s) s in
        let q : Quiet w l (concerns w i.state i.kids (if_else hang e a b)) r =
        quiet_raise w laws l (concerns w i.state i.kids (if_else hang e a b)) hung _ s (hanging w i.state i.kids (if_else hang e a b)) dyn g even in
        select_confined w laws l i entering holding e hung (branch (does_block (within w At i.enter) a) (does_block (within w At i.enter) b)) pc s (high_right w.order laws l pc _ g)
        (λ v z up. branch_all (λ y. Confined w l r y) (does_block (within w At i.enter) a) (does_block (within w At i.enter) b) v z r
        (block_confined w laws l i entering holding a fine.1 z r (holds_raise w s hung _ dyn hs) up
        (quiet_left w laws l i entering holding (block_concerns w i.state i.kids a) (block_concerns w i.state i.kids b) r q))
        (block_confined w laws l i entering holding b fine.2 z r (holds_raise w s hung _ dyn hs) up
        (quiet_right w laws l i entering holding (block_concerns w i.state i.kids a) (block_concerns w i.state i.kids b) r q)))

    pub try_then_side : (k : Step) (hang : List Bool) (a b : Block) → Proper w i (try_then k hang a b) → (pc : ℕ) (s : Store) → Holds w s
        → Even w (concerns w i.state i.kids (try_then k hang a b)) s → High w.order l (guard w At k s)
        → Confined w l (raise w.order (touches w At (try_then k hang a b)) (guard w At k s) s) (does (within w At i.enter) (try_then k hang a b) pc s)
    unfolding does
    try_then_side k hang a b fine pc s hs even g =
        let hung = touches w At (try_then k hang a b) in
        let dyn : OfDynamic w hung = touches_dynamic w laws l i entering holding (try_then k hang a b) in
        let r = raise w.order hung (guard w At k s) s in
        let q : Quiet w l (concerns w i.state i.kids (try_then k hang a b)) r =
        quiet_raise w laws l (concerns w i.state i.kids (try_then k hang a b)) hung _ s (hanging w i.state i.kids (try_then k hang a b)) dyn g even in
        let mine = step_concerns w i.state i.kids k in
        let one = block_concerns w i.state i.kids a in
        let other = block_concerns w i.state i.kids b in
        let behind = quiet_right w laws l i entering holding mine (λ x. one x || other x) r q in
        attempt_then_confined w laws l i entering holding k fine.0 hung (does_block (within w At i.enter) a) (does_block (within w At i.enter) b) pc s dyn hs
        (quiet_left w laws l i entering holding mine (λ x. one x || other x) r q) (inr g)
        (λ z u up hold same. block_confined w laws l i entering holding a fine.1 z u hold up
        (λ y c d. hush_next w laws l r u same y c (quiet_left w laws l i entering holding one other r behind y c d)))
        (λ z up. block_confined w laws l i entering holding b fine.2 z r (holds_raise w s hung _ dyn hs) up (quiet_right w laws l i entering holding one other r behind))

    pub case_side : (hang : List Bool) (e : Term ℕ) (arms : Arms) → Proper w i (case_of hang e arms) → (pc : ℕ) (s : Store) → Holds w s
        → Even w (concerns w i.state i.kids (case_of hang e arms)) s → High w.order l (tag w e s)
        → Confined w l (raise w.order (touches w At (case_of hang e arms)) (tag w e s) s) (does (within w At i.enter) (case_of hang e arms) pc s)
    unfolding does
    case_side hang e arms fine pc s hs even g =
        let hung = touches w At (case_of hang e arms) in
        let dyn : OfDynamic w hung = touches_dynamic w laws l i entering holding (case_of hang e arms) in
        let r = raise w.order hung (tag w e s) s in
        let q : Quiet w l (concerns w i.state i.kids (case_of hang e arms)) r =
        quiet_raise w laws l (concerns w i.state i.kids (case_of hang e arms)) hung _ s (hanging w i.state i.kids (case_of hang e arms)) dyn g even in
        select_confined w laws l i entering holding e hung (does_arms (within w At i.enter) arms) pc s (high_right w.order laws l pc _ g)
        (λ v z up. arms_confined w laws l i entering holding arms fine.1 v z r (holds_raise w s hung _ dyn hs) up q)

    -- what the accepted part writes the step does not
    pub apart_step : (k : Step) (a : Block) → ProperBlock w i a → transfers k ≡ false → ((m : ℕ) → (step_reaches i.kids k m && block_reaches i.kids a m) ≡ false)
        → (m : ℕ) → is_memory w m ≡ true → is_dynamic w m ≡ false → block_concerns w i.state i.kids a m ≡ true → step_writes k m ≡ false
    apart_step k a fine plain once m mem d h = (apart_from w i (lone k) a (fine_block w i a fine) plain once m mem d h).1

    module _ (below : Type 0) where
      mutual
        unfolding does does_arms does_block

        pub does_twin : (c : Command) → Proper w i c → Once i.kids below c → Open c → (pc : ℕ) (s t : Store) → Holds w s → Holds w t
            → IsLow pc → Agree w l s t → Even w (concerns w i.state i.kids c) s → Even w (concerns w i.state i.kids c) t
            → Twin w l (does (within w At i.enter) c pc s) (does (within w At i.enter) c pc t)
        does_twin (lone k) fine once plain pc s t hs ht low like es et =
            let hang = raised_alone w At k in
            let dyn : OfDynamic w hang = alone_dynamic w At i.siblings (landing w laws l i entering holding) i.enter holding k in
            elim (cases_Bool (w.order.le (guard w At k s) l)) [
              | inl g ↦ attempt_low k fine plain hang (λ q s. stay s) pc s t dyn hs ht low like g (λ x. false) (λ z g d h. cc)
                  (λ z g d h. cc) (λ q r u hr hu lq e er eu. record { same = e; refused = refl })
              | inr g ↦ (
                  let g' = sym (guard_same k fine plain s t like) ∙ g in
                  twin_confined (raise w.order hang (guard w At k s) s) (raise w.order hang (guard w At k t) t)
                  _ _ (agree_raised w laws l s t hang _ _ dyn like (guard_same k fine plain s t like, λ lo. guard_low k fine plain s t like lo))
                  (attempt_confined w laws l i entering holding k fine hang (λ q s. stay s) pc s dyn hs (alone_quiet k fine plain s es g)
                  (inr g) (λ q up. confined_self w laws l _))
                  (attempt_confined w laws l i entering holding k fine hang (λ q s. stay s) pc t dyn ht (alone_quiet k fine plain t et g')
                  (inr g') (λ q up. confined_self w laws l _)))
            ]
        does_twin (try k hang h) fine once plain pc s t hs ht low like es et =
            let hung = touches w At (try k hang h) in
            let dyn : OfDynamic w hung = touches_dynamic w laws l i entering holding (try k hang h) in
            elim (cases_Bool (w.order.le (guard w At k s) l)) [
              | inl g ↦ attempt_low k fine.0 plain.0 hung (does_block (within w At i.enter) h) pc s t dyn hs ht low like g (block_concerns w i.state i.kids h)
                  (even_right (step_concerns w i.state i.kids k) (block_concerns w i.state i.kids h) s es)
                  (even_right (step_concerns w i.state i.kids k) (block_concerns w i.state i.kids h) t et)
                  (λ q r u hr hu lq e er eu. block_twin h fine.1 once.1 plain.1 q r u hr hu lq e er eu)
              | inr g ↦ (
                  let g' = sym (guard_same k fine.0 plain.0 s t like) ∙ g in
                  twin_confined (raise w.order hung (guard w At k s) s) (raise w.order hung (guard w At k t) t)
                  _ _ (agree_raised w laws l s t hung _ _ dyn like (guard_same k fine.0 plain.0 s t like, λ lo. guard_low k fine.0 plain.0 s t like lo))
                  (try_side k hang h fine pc s hs es g)
                  (try_side k hang h fine pc t ht et g'))
            ]
        does_twin (if_else hang e a b) fine once plain pc s t hs ht low like es et =
            let hung = touches w At (if_else hang e a b) in
            let dyn : OfDynamic w hung = touches_dynamic w laws l i entering holding (if_else hang e a b) in
            elim (cases_Bool (w.order.le (tag w e s) l)) [
              | inl g ↦ select_low e fine.0 hung (branch (does_block (within w At i.enter) a) (does_block (within w At i.enter) b)) pc s t dyn hs ht low like
                  g (concerns w i.state i.kids (if_else hang e a b)) es et
                  (λ v q r u hr hu lq k er eu. branch_both (λ y z. Twin w l y z) (does_block (within w At i.enter) a) (does_block (within w At i.enter) b) v q r u
                  (block_twin a fine.1 once.0 plain.1 q r u hr hu lq k
                  (even_left (block_concerns w i.state i.kids a) (block_concerns w i.state i.kids b) r er)
                  (even_left (block_concerns w i.state i.kids a) (block_concerns w i.state i.kids b) u eu))
                  (block_twin b fine.2 once.1 plain.2 q r u hr hu lq k
                  (even_right (block_concerns w i.state i.kids a) (block_concerns w i.state i.kids b) r er)
                  (even_right (block_concerns w i.state i.kids a) (block_concerns w i.state i.kids b) u eu)))
              | inr g ↦ twin_confined (raise w.order hung (tag w e s) s) (raise w.order hung (tag w e t) t)
                  _ _ (agree_raised w laws l s t hung _ _ dyn like (tag_same e fine.0 s t like, λ lo. tag_low e fine.0 s t like lo))
                  (if_side hang e a b fine pc s hs es g)
                  (if_side hang e a b fine pc t ht et (sym (tag_same e fine.0 s t like) ∙ g))
            ]
        does_twin (try_then k hang a b) fine once plain pc s t hs ht low like es et =
            let hung = touches w At (try_then k hang a b) in
            let dyn : OfDynamic w hung = touches_dynamic w laws l i entering holding (try_then k hang a b) in
            let mine = step_concerns w i.state i.kids k in
            let one = block_concerns w i.state i.kids a in
            let other = block_concerns w i.state i.kids b in
            let es' = even_right mine (λ x. one x || other x) s es in
            let et' = even_right mine (λ x. one x || other x) t et in
            elim (cases_Bool (w.order.le (guard w At k s) l)) [
              | inl g ↦ attempt_then_low k fine.0 plain.0 hung (does_block (within w At i.enter) a) (does_block (within w At i.enter) b) pc s t dyn hs ht low like g one other
                  (even_left one other s es') (even_left one other t et') (even_right one other s es') (even_right one other t et')
                  (λ v r e. even_step k plain.0 one (apart_step k a fine.1 plain.0 once.3) pc v r e)
                  (λ q r u hr hu lq e er eu. block_twin a fine.1 once.1 plain.1 q r u hr hu lq e er eu)
                  (λ q r u hr hu lq e er eu. block_twin b fine.2 once.2 plain.2 q r u hr hu lq e er eu)
              | inr g ↦ (
                  let g' = sym (guard_same k fine.0 plain.0 s t like) ∙ g in
                  twin_confined (raise w.order hung (guard w At k s) s) (raise w.order hung (guard w At k t) t)
                  _ _ (agree_raised w laws l s t hung _ _ dyn like (guard_same k fine.0 plain.0 s t like, λ lo. guard_low k fine.0 plain.0 s t like lo))
                  (try_then_side k hang a b fine pc s hs es g)
                  (try_then_side k hang a b fine pc t ht et g'))
            ]
        does_twin (case_of hang e arms) fine once plain pc s t hs ht low like es et =
            let hung = touches w At (case_of hang e arms) in
            let dyn : OfDynamic w hung = touches_dynamic w laws l i entering holding (case_of hang e arms) in
            elim (cases_Bool (w.order.le (tag w e s) l)) [
              | inl g ↦ select_low e fine.0 hung (does_arms (within w At i.enter) arms) pc s t dyn hs ht low like g (arms_concern w i.state i.kids arms) es et
                  (λ v q r u hr hu lq k er eu. arms_twin arms fine.1 once plain.1 v q r u hr hu lq k er eu)
              | inr g ↦ twin_confined (raise w.order hung (tag w e s) s) (raise w.order hung (tag w e t) t)
                  _ _ (agree_raised w laws l s t hung _ _ dyn like (tag_same e fine.0 s t like, λ lo. tag_low e fine.0 s t like lo))
                  (case_side hang e arms fine pc s hs es g)
                  (case_side hang e arms fine pc t ht et (sym (tag_same e fine.0 s t like) ∙ g))
            ]

        arms_twin : (arms : Arms) → ProperArms w i arms → OnceArms i.kids below arms → EveryInArms NoTransfer arms → (v pc : ℕ) (s t : Store) → Holds w s
            → Holds w t → IsLow pc → Agree w l s t → Even w (arms_concern w i.state i.kids arms) s → Even w (arms_concern w i.state i.kids arms) t
            → Twin w l (does_arms (within w At i.enter) arms v pc s) (does_arms (within w At i.enter) arms v pc t)
        arms_twin (last_arm b) fine once plain v pc s t hs ht low like es et = block_twin b fine once plain pc s t hs ht low like es et
        arms_twin (and_arm cs b arms) fine once plain v pc s t hs ht low like es et =
            let here = block_concerns w i.state i.kids b in
            let rest = arms_concern w i.state i.kids arms in
            choose_both (λ y z. Twin w l y z) cs (does_block (within w At i.enter) b) (does_arms (within w At i.enter) arms) v pc s t
            (block_twin b fine.0 once.0 plain.0 pc s t hs ht low like (even_left here rest s es) (even_left here rest t et))
            (arms_twin arms fine.1 once.1 plain.1 v pc s t hs ht low like (even_right here rest s es) (even_right here rest t et))

        pub block_twin : (b : Block) → ProperBlock w i b → OnceBlock i.kids below b → EveryInBlock NoTransfer b → (pc : ℕ) (s t : Store) → Holds w s
            → Holds w t → IsLow pc → Agree w l s t → Even w (block_concerns w i.state i.kids b) s
            → Even w (block_concerns w i.state i.kids b) t → Twin w l (does_block (within w At i.enter) b pc s) (does_block (within w At i.enter) b pc t)
        block_twin end_block fine once plain pc s t hs ht low like es et = record { same = like; refused = refl }
        block_twin (command_then c cs) fine once plain pc s t hs ht low like es et =
            let apart = apart_from w i c cs (fine_block w i cs fine.1) plain.0 once.2 in
            let f = does_twin c fine.0 once.0 plain.0 pc s t hs ht low like
            (even_left (concerns w i.state i.kids c) (block_concerns w i.state i.kids cs) s es)
            (even_left (concerns w i.state i.kids c) (block_concerns w i.state i.kids cs) t et) in
            let g = block_twin cs fine.1 once.1 plain.1 pc (does (within w At i.enter) c pc s).store (does (within w At i.enter) c pc t).store
            (keeps w laws l i entering holding c fine.0 pc s hs) (keeps w laws l i entering holding c fine.0 pc t ht) low f.same
            (even_next w laws l i entering holding c cs apart pc s (even_right (concerns w i.state i.kids c) (block_concerns w i.state i.kids cs) s es))
            (even_next w laws l i entering holding c cs apart pc t (even_right (concerns w i.state i.kids c) (block_concerns w i.state i.kids cs) t et)) in
            record { same = g.same; refused = seen_parts w.order laws l _ _ _ _ f.refused g.refused }
