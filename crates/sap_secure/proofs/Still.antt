-- In a high context the active path stays as it is.
use Rattle.sap_lemmas.proofs.Common.{◌≡◌, ℕ, zero, suc, ◌<◌, Bool, true, false, ◌&&◌, ◌||◌, List, [], refl, sym, ap, ◌∙◌, subst, arith, nat_eq, nat_lt, nat_le, inl, inr, ◌⊎◌, cases_Bool, and_from, false_from_ne_true, or_left, or_right, common_steps, and_left, and_right, neither_left, neither_right, test_of_same}
use Rattle.sap_meaning.proofs.FineLemmas.{inside_among}
use Rattle.sap_lattice.specs.Order.{Laws}
use Rattle.sap_maps.specs.Term.{Term}
use Rattle.sap_meaning.specs.Prelude.{within, World, is_dynamic, is_state, children, place, last, below, Step, go_to, fall_to_child, Command, lone, try, if_else, try_then, case_of, Arms, last_arm, and_arm, Block, end_block, command_then, State, state_node, Group, no_node, and_node, Slot, own, Store, owner, level, child, put_level, put_child, raise, reset, After, stay, Holds, tag, Home, child_level, opens, child_opens, guard, test, among, step_hangs, hangs, block_hangs, touches, raised_alone, arms_hang, effect, attempt, select, branch, does, does_block, attempt_then, does_arms, Low, High, transfers, Open, Closes, Final, number_of, ClosingArms}
use Rattle.sap_meaning.proofs.Slots.{child_raise, child_put, child_reset, level_put, child_level_put, level_child, held_state}
use Rattle.sap_meaning.proofs.Trees.{Nth, nth_of, placed}
use Rattle.sap_meaning.proofs.Keeps.{OfDynamic, Keeps, branch_all, raise_keeps, reset_keeps, holds_raise, alone_dynamic, choose_all, effect_holds}
use Rattle.sap_secure.proofs.Levels.{Like, high_above, high_left}
use Rattle.sap_secure.proofs.Agreeing.{raise_high, Agree}
use Rattle.sap_secure.proofs.Apart.{inside_state, group_unassigned, state_no_register, state_no_memory, unhung}
use Rattle.sap_secure.proofs.Concerns.{step_concerns, concerns, block_concerns, group_concerns, arms_concern}
use Rattle.sap_secure.proofs.Sites.{Site, spot, mine, Proper, ProperBlock, ProperStep, node, own_fine, unmarked, mine_state, fine_command, ProperArms}
use Rattle.sap_secure.proofs.Frames.{Kept, untouched, kept_raise, open_kept, open_step}
use Rattle.sap_secure.proofs.Confined.{Entering, Quiet, Up, up_join, landing, keeps, does_confined, hush_next, quiet_left, quiet_right, quiet_kept, touches_dynamic, alone_within, step_confined}
use Rattle.sap_secure.proofs.Walks.{Stop, path, one, path_here, path_high, from_same, from_quiet, nth_among, deeper, deeper_inside, deeper_not_among}

-- what children do, where the current one is high
abbrev pub Covered : World → ℕ → ℕ → Group → (ℕ → ℕ → Store → After) → Type 0
Covered w l e g enter = (m r : ℕ) (s : Store) (a : State) → Nth g m a → Holds w s → High w.order l r → Quiet w l (group_concerns w g) s
    → child e s ≡ m → High w.order l (level w (own (number_of a)) s) → path w l e g (enter m r s).store ≡ []

-- a state in its group, with what its children do
pub record Scene (w : World) (l : ℕ) : Type 0 where
  pub site : Site w
  pub entering : Entering w l site.kids site.enter
  pub holding : (n pc : ℕ) → Keeps w (site.enter n pc)
  pub kept : (m r : ℕ) (s : Store) → Kept w (own site.state) site.parent s (site.enter m r s).store
  pub covered : Covered w l site.state site.kids site.enter

-- The state, if it is touched, is high, and so is its current child, if that is touched and the state is low.
pub record Cover (w : World) (l e : ℕ) (g : Group) (h : ℕ → Bool) (s : Store) : Type 0 where
  pub own_high : h e ≡ true → High w.order l (level w (own e) s)
  pub kid_high : (a : State) → Nth g (child e s) a → Low w.order l (level w (own e) s) → h (number_of a) ≡ true → High w.order l (level w (own (number_of a)) s)

pub child_level_nth : (w : World) (g : Group) (n : ℕ) (a : State) (s : Store) → Nth g n a → child_level w g n s ≡ level w (own (number_of a)) s
child_level_nth w no_node n a s h = absurd h
child_level_nth w (and_node (state_node c b k) g) zero a s h = ap (λ x. level w (own (number_of x)) s) h
child_level_nth w (and_node (state_node c b k) g) (suc n) a s h = child_level_nth w g n a s h

pub child_opens_nth : (w : World) (g : Group) (n : ℕ) (a : State) (pc : ℕ) (s : Store) → Nth g n a → child_opens w g n pc s ≡ opens w (number_of a) pc s
child_opens_nth w no_node n a pc s h = absurd h
child_opens_nth w (and_node (state_node c b k) g) zero a pc s h = ap (λ x. opens w (number_of x) pc s) h
child_opens_nth w (and_node (state_node c b k) g) (suc n) a pc s h = child_opens_nth w g n a pc s h

pub touched_in : (d a b : Bool) → (a ≡ true → b ≡ true) → (d && a) ≡ true → (d && b) ≡ true
touched_in true a b f h = f h
touched_in false a b f h = h

module _ (w : World) (laws : Laws w.order) (l : ℕ) where
  pub cover_part : (e : ℕ) (g : Group) (h i : ℕ → Bool) (s : Store) → ((x : ℕ) → i x ≡ true → h x ≡ true) → Cover w l e g h s → Cover w l e g i s
  cover_part e g h i s f c = record { own_high = λ x. c.own_high (f e x); kid_high = λ a n low x. c.kid_high a n low (f (number_of a) x) }

  pub cover_raise : (e : ℕ) (g : Group) (h : ℕ → Bool) (s : Store) (hang : ℕ → Bool) (a : ℕ) → Cover w l e g h s → Cover w l e g h (raise w.order hang a s)
  unfolding raise
  cover_raise e g h s hang a c = record {
    own_high = λ x. raise_high w laws l s hang a (own e) (c.own_high x);
    kid_high = λ k n low x. raise_high w laws l s hang a (own (number_of k)) (c.kid_high k n (was (cases_Bool (w.order.le (level w (own e) s) l)) low) x);
  }
    where
      was : (Low w.order l (level w (own e) s) ⊎ High w.order l (level w (own e) s)) → Low w.order l (level w (own e) (raise w.order hang a s)) → Low w.order l (level w (own e) s)
      was (inl h) low = h
      was (inr h) low = let no = raise_high w laws l s hang a (own e) h in cc

  -- what keeps the levels of the state and of those below it, and its current child
  pub cover_kept : (i : Site w) (h : ℕ → Bool) (s t : Store) → ((x : ℕ) → mine i x ≡ true → Kept w (own x) i.state s t)
      → Cover w l i.state i.kids h s → Cover w l i.state i.kids h t
  cover_kept i h s t kept c = record {
    own_high = λ x. rw (me.level) (c.own_high x);
    kid_high = λ a n low x.
        let n' : Nth i.kids (child i.state s) a = subst (λ m. Nth i.kids m a) me.seat n in
        let low' : Low w.order l (level w (own i.state) s) = subst (λ v. Low w.order l v) me.level low in
        let k = kept (number_of a) (or_right (nat_eq (number_of a) i.state) _ (inside_among i.kids (number_of a) (nth_among i.kids (child i.state s) a n'))) in
        subst (λ v. High w.order l v) (sym k.level) (c.kid_high a n' low' x);
  }
    where
      me : Kept w (own i.state) i.state s t
      me = kept i.state (or_left _ _ (test_of_same i.state))

  module _ (c : Scene w l) where
    abbrev I : Site w
    I = c.site

    abbrev At : Home
    At = spot c.site

    abbrev pub PathOf : Store → List Stop
    PathOf s = path w l c.site.parent c.site.siblings s

    abbrev pub Here : Store → Type 0
    Here s = child c.site.parent s ≡ c.site.index

    abbrev pub MyHigh : Store → Type 0
    MyHigh s = High w.order l (level w (own c.site.state) s)

    abbrev pub Mine : (ℕ → Bool) → Store → Type 0
    Mine h s = Cover w l c.site.state c.site.kids h s

    abbrev UpAt : ℕ → Step → Store → Type 0
    UpAt pc k b = Up w laws l c.site c.entering c.holding pc k b

    pub high_path : (s : Store) → Here s → MyHigh s → PathOf s ≡ []
    high_path s here high = path_high w laws l c.site.parent c.site.index c.site.siblings (state_node c.site.state c.site.body c.site.kids) s c.site.self here high

    pub here_path : (s : Store) → Here s → PathOf s ≡ one w l c.site.index c.site.state c.site.kids s
    here_path s here = path_here w l c.site.parent c.site.index c.site.state c.site.body c.site.kids c.site.siblings s c.site.self here

    -- a path by the level of the state and the path below it
    pub like_path : (s t : Store) → Here s → Here t → level w (own c.site.state) s ≡ level w (own c.site.state) t
        → path w l c.site.state c.site.kids s ≡ path w l c.site.state c.site.kids t → PathOf s ≡ PathOf t
    like_path s t hs ht e f = here_path s hs ∙ rw (e, f) refl ∙ sym (here_path t ht)

    -- the target of a goto
    pub target_of : (site target : ℕ) → ProperStep w c.site (go_to site target) → (a : State) × Nth c.site.siblings (place w target) a × (number_of a ≡ target)
    target_of site target fine = placed w c.site.siblings target c.site.around.fine fine.0

    pub target_apart : (site target : ℕ) → ProperStep w c.site (go_to site target) → (nat_eq c.site.parent target || below w target c.site.parent) ≡ false
    target_apart site target fine = c.site.around.apart target (inside_among c.site.siblings target fine.0)

    pub moved_child : (site target : ℕ) → ProperStep w c.site (go_to site target) → (s : Store)
        → child c.site.parent (reset w target (put_child c.site.parent (place w target) s)) ≡ place w target
    moved_child site target fine s =
        let f = target_apart site target fine in
        child_reset w c.site.parent target (put_child c.site.parent (place w target) s)
        ∙ rw (neither_left (nat_eq c.site.parent target) (below w target c.site.parent) f, neither_right (nat_eq c.site.parent target) (below w target c.site.parent) f)
        (child_put c.site.parent c.site.parent (place w target) s ∙ rw (test_of_same c.site.parent) refl)

    -- a goto where it succeeds: the state left is high, and so is the one that is entered
    pub goto_source : (site target pc : ℕ) (b r : Store) → ((z : Slot) → is_dynamic w (owner z) ≡ false → level w z r ≡ level w z b)
        → Mine (λ x. is_dynamic w x && step_hangs c.site.state c.site.kids (go_to site target) x) r
        → test w At (go_to site target) pc b ≡ true → UpAt pc (go_to site target) b → MyHigh r
    goto_source site target pc b r same cover t up = elim (cases_Bool (is_dynamic w c.site.state)) [
      | inl d ↦ cover.own_high (and_from _ _ d (test_of_same c.site.state))
      | inr d ↦ subst (λ v. High w.order l v) (sym (same (own c.site.state) d))
          (high_above w.order laws l _ _ (rw d at (and_right (is_dynamic w target || w.order.le pc (level w (own target) b)) _ t))
          (up_join w laws l c.site c.entering c.holding pc (go_to site target) b up))
    ]

    pub goto_lands : (site target : ℕ) → ProperStep w c.site (go_to site target) → (pc : ℕ) (b r : Store) → Holds w r
        → ((z : Slot) → is_dynamic w (owner z) ≡ false → level w z r ≡ level w z b) → test w At (go_to site target) pc b ≡ true
        → UpAt pc (go_to site target) b → PathOf (effect (within w At c.site.enter) (go_to site target) pc b r).store ≡ []
    unfolding effect
    goto_lands site target fine pc b r holds same t up =
        let a = target_of site target fine in
        let moved = reset w target (put_child c.site.parent (place w target) r) in
        let seat = moved_child site target fine r in
        elim (cases_Bool (is_dynamic w target)) [
          | inl d ↦ rw d (path_high w laws l c.site.parent (place w target) c.site.siblings a.0 (put_level w (own target) pc moved) a.1
              (child_level_put w c.site.parent (own target) pc moved ∙ seat)
              (subst (λ x. High w.order l (level w (own x) (put_level w (own target) pc moved))) (sym a.2)
              (subst (λ v. High w.order l v) (sym (level_put w (own target) (own target) pc moved ∙ rw (test_of_same target) refl)) (dynamic_up d up))))
          | inr d ↦ rw d (path_high w laws l c.site.parent (place w target) c.site.siblings a.0 moved a.1 seat
              (subst (λ x. High w.order l (level w (own x) moved)) (sym a.2)
              (subst (λ v. High w.order l v) (sym (reset_keeps w (put_child c.site.parent (place w target) r) target (own target) d
              ∙ level_child w (own target) c.site.parent (place w target) r)) (enforced_up d up))))
        ]
      where
        dynamic_up : is_dynamic w target ≡ true → UpAt pc (go_to site target) b → High w.order l pc
        dynamic_up d (inl h) = h
        dynamic_up d (inr h) = let h' = rw d at h in let low = laws.least_of_all l in cc

        enforced_up : is_dynamic w target ≡ false → UpAt pc (go_to site target) b → High w.order l (level w (own target) r)
        enforced_up d (inl h) =
            let up' : w.order.le pc (level w (own target) b) ≡ true = rw d at (and_left (is_dynamic w target || w.order.le pc (level w (own target) b)) _ t) in
            subst (λ v. High w.order l v) (sym (same (own target) d)) (high_above w.order laws l pc (level w (own target) b) up' h)
        enforced_up d (inr h) = high_above w.order laws l
            _ _ (holds.above (own target) (held_state w target
            (inside_state w c.site.siblings 0 c.site.siblings c.site.around.fine target (inside_among c.site.siblings target fine.0))) d) (rw d at h)

    -- the current child
    pub current : (site : ℕ) (hang : List Bool) → ProperStep w c.site (fall_to_child site hang) → (s : Store) → Holds w s → (a : State) × Nth c.site.kids (child c.site.state s) a
    current site hang fine s holds =
        let n : 0 < children w c.site.state = rw (node w c.site).count fine.0 in
        nth_of c.site.kids (child c.site.state s) (rw (node w c.site).count at (holds.seated c.site.state n))

    -- the effect of a transfer, from the raised store r
    step_still : (k : Step) → transfers k ≡ true → ProperStep w c.site k → (pc : ℕ) (b r : Store)
        → child c.site.state r ≡ child c.site.state b → ((z : Slot) → is_dynamic w (owner z) ≡ false → level w z r ≡ level w z b)
        → Holds w r → Quiet w l (step_concerns w c.site.state c.site.kids k) r → Here r
        → Mine (λ x. is_dynamic w x && step_hangs c.site.state c.site.kids k x) r → test w At k pc b ≡ true → UpAt pc k b
        → PathOf (effect (within w At c.site.enter) k pc b r).store ≡ PathOf r
    unfolding effect
    step_still (go_to site target) moves fine pc b r seats same holds quiet here cover t up =
        goto_lands site target fine pc b r holds same t up ∙ sym (high_path r here (goto_source site target pc b r same cover t up))
    step_still (fall_to_child site hang) moves fine pc b r seats same holds quiet here cover t up = elim (cases_Bool (w.order.le (level w (own c.site.state) r) l)) [
      | inl low ↦ (
          let high = kid low (cases_Bool (is_dynamic w (number_of a.0))) in
          like_path after r (k.seat ∙ here) here k.level
          (c.covered m (w.order.join pc (child_level w c.site.kids (child c.site.state b) b)) r a.0 a.1 holds
          (up_join w laws l c.site c.entering c.holding pc (fall_to_child site hang) b up) quieter seats high
          ∙ sym (path_high w laws l c.site.state m c.site.kids a.0 r a.1 seats high)))
      | inr high ↦ high_path after (k.seat ∙ here) (subst (λ v. High w.order l v) (sym k.level) high) ∙ sym (high_path r here high)
    ]
      where
        after : Store
        after = (c.site.enter (child c.site.state b) (w.order.join pc (child_level w c.site.kids (child c.site.state b) b)) r).store

        m : ℕ
        m = child c.site.state b

        a : (a : State) × Nth c.site.kids (child c.site.state b) a
        a = let f = current site hang fine r holds in (f.0, subst (λ n. Nth c.site.kids n f.0) seats f.1)

        k : Kept w (own c.site.state) c.site.parent r (c.site.enter (child c.site.state b) (w.order.join pc (child_level w c.site.kids (child c.site.state b) b)) r).store
        k = c.kept _ _ r

        quieter : Quiet w l (group_concerns w c.site.kids) r
        quieter z g h = quiet z g (or_right (among c.site.kids (owner z)) _ h)

        kid : Low w.order l (level w (own c.site.state) r)
            → ((is_dynamic w (number_of a.0) ≡ true) ⊎ (is_dynamic w (number_of a.0) ≡ false)) → High w.order l (level w (own (number_of a.0)) r)
        kid low (inl d) =
            cover.kid_high a.0 (subst (λ n. Nth c.site.kids n a.0) (sym seats) a.1) low (and_from _ _ d (or_left _ _ (nth_among c.site.kids (child c.site.state b) a.0 a.1)))
        kid low (inr d) = subst (λ v. High w.order l v) (sym (same (own (number_of a.0)) d)) (upper up)
          where
            upper : UpAt pc (fall_to_child site hang) b → High w.order l (level w (own (number_of a.0)) b)
            upper (inl h) =
                let t' = subst (λ v. v ≡ true) (child_opens_nth w c.site.kids (child c.site.state b) a.0 pc b a.1) t in
                high_above w.order laws l pc _ (rw d at t') h
            upper (inr h) = subst (λ v. High w.order l v) (child_level_nth w c.site.kids (child c.site.state b) a.0 b a.1) h
    step_still _ moves fine pc b r seats same holds quiet here cover t up = cc

    raised_path : (hang : ℕ → Bool) (a : ℕ) (s : Store) → Here s → Mine hang s → ((x : ℕ) → deeper c.site.kids x ≡ true → hang x ≡ false)
        → PathOf (raise w.order hang a s) ≡ PathOf s
    raised_path hang a s here cover deep = elim (cases_Bool (w.order.le (level w (own c.site.state) s) l)) [
      | inl low ↦ (
          let k = kept_raise w (own c.site.state) c.site.parent s hang a (off low (hang c.site.state) refl) in
          like_path (raise w.order hang a s) s (k.seat ∙ here) here k.level
          (rw (child_raise w.order c.site.state hang a s)
          (from_quiet w laws l c.site.kids (child c.site.state s) (child c.site.state s) (raise w.order hang a s) s (λ x. child_raise w.order x hang a s)
          (λ b n. alike low b n (hang (number_of b)) refl)
          (λ x d. (kept_raise w (own x) x s hang a (deep x d)).level))))
      | inr high ↦ high_path (raise w.order hang a s) (child_raise w.order c.site.parent hang a s
          ∙ here) (raise_high w laws l s hang a (own c.site.state) high) ∙ sym (high_path s here high)
    ]
      where
        off : Low w.order l (level w (own c.site.state) s) → (i : Bool) → hang c.site.state ≡ i → hang c.site.state ≡ false
        off low true e = let h = cover.own_high e in cc
        off low false e = e

        alike : Low w.order l (level w (own c.site.state) s) → (b : State) → Nth c.site.kids (child c.site.state s) b → (i : Bool)
            → hang (number_of b) ≡ i → Like w.order l (level w (own (number_of b)) (raise w.order hang a s)) (level w (own (number_of b)) s)
        alike low b n true e =
            let h = cover.kid_high b n low e in
            let h' = raise_high w laws l s hang a (own (number_of b)) h in
            (h' ∙ sym h, λ z. cc)
        alike low b n false e =
            let z = (kept_raise w (own (number_of b)) c.site.state s hang a e).level in
            (ap (λ v. w.order.le v l) z, λ _. z)

    -- what a command touches is not deeper than the children
    pub shallow : (d : Command) → Proper w c.site d → (x : ℕ) → deeper c.site.kids x ≡ true → touches w At d x ≡ false
    shallow d fine x h =
        let i = deeper_inside w c.site.kids x h in
        let s = inside_state w c.site.kids 0 c.site.kids (own_fine w c.site).1 x i in
        untouched (is_dynamic w x) _ (unhung w x s c.site.state c.site.kids
        (other x (and_right (is_state w x) _ (sym ((node w c.site).numbers x) ∙ i))) (deeper_not_among w c.site.kids 0 c.site.kids (own_fine w c.site).1 x h)
        (group_unassigned w x (state_no_register w x s) (state_no_memory w x s) c.site.kids 0 c.site.kids (own_fine w c.site).1) c.site.siblings d (fine_command w c.site d fine))
      where
        other : (x : ℕ) → (nat_lt c.site.state x && nat_le x (last w c.site.state)) ≡ true → nat_eq x c.site.state ≡ false
        other x h = let k = and_left (nat_lt c.site.state x) _ h in differ c.site.state x k
          where
            differ : (e x : ℕ) → nat_lt e x ≡ true → nat_eq x e ≡ false
            differ e x h = grind (arith, common_steps)

    pub attempt_still : (k : Step) → transfers k ≡ true → ProperStep w c.site k
        → (hang : ℕ → Bool) (h : ℕ → Store → After) (pc : ℕ) (s : Store) → OfDynamic w hang → Holds w s
        → Quiet w l (step_concerns w c.site.state c.site.kids k) (raise w.order hang (guard w At k s) s) → Here s
        → Mine (λ x. is_dynamic w x && step_hangs c.site.state c.site.kids k x) (raise w.order hang (guard w At k s) s) → UpAt pc k s
        → ((r : ℕ) → High w.order l r → PathOf (h r (raise w.order hang (guard w At k s) s)).store ≡ PathOf (raise w.order hang (guard w At k s) s))
        → PathOf (attempt (within w At c.site.enter) k hang h pc s).store ≡ PathOf (raise w.order hang (guard w At k s) s)
    unfolding attempt
    attempt_still k moves fine hang h pc s dyn holds quiet here cover up handler = elim (cases_Bool (test w At k pc s)) [
      | inl t ↦ rw t (step_still k moves fine pc s (raise w.order hang (guard w At k s) s)
          (child_raise w.order c.site.state hang (guard w At k s) s) (raise_keeps w s hang _ dyn) (holds_raise w s hang _ dyn holds) quiet
          (child_raise w.order c.site.parent hang (guard w At k s) s ∙ here) cover t up)
      | inr t ↦ rw t (handler _ (up_join w laws l c.site c.entering c.holding pc k s up))
    ]

    pub select_still : (e : Term ℕ) (hang : ℕ → Bool) (pick : ℕ → ℕ → Store → After) (pc : ℕ) (s : Store)
        → High w.order l (w.order.join pc (tag w e s))
        → ((v r : ℕ) → High w.order l r → PathOf (pick v r (raise w.order hang (tag w e s) s)).store ≡ PathOf (raise w.order hang (tag w e s) s))
        → PathOf (select w e hang pick pc s).store ≡ PathOf (raise w.order hang (tag w e s) s)
    unfolding select
    select_still e hang pick pc s up f = f _ _ up

    -- an open command leaves the path alone
    pub clear : (d : Command) → Proper w c.site d → Open d → (pc : ℕ) (s : Store) (q x : ℕ) → mine c.site x ≡ true → Kept w (own x) q s (does (within w At c.site.enter) d pc s).store
    clear d fine plain pc s q x m = open_kept w c.site q x (mine_state w c.site x m) d fine plain (unmarked w c.site d fine x m) pc s

    pub own_mine : mine c.site c.site.state ≡ true
    own_mine = or_left _ _ (test_of_same c.site.state)

    pub clear_own : (d : Command) → Proper w c.site d → Open d → (pc : ℕ) (s : Store) → Kept w (own c.site.state) c.site.parent s (does (within w At c.site.enter) d pc s).store
    clear_own d fine plain pc s = clear d fine plain pc s c.site.parent c.site.state own_mine

    pub clear_path : (d : Command) → Proper w c.site d → Open d → (pc : ℕ) (s : Store) → Here s → PathOf (does (within w At c.site.enter) d pc s).store ≡ PathOf s
    clear_path d fine plain pc s here =
        let k = clear_own d fine plain pc s in
        let e = clear d fine plain pc s c.site.state c.site.state own_mine in
        like_path (does (within w At c.site.enter) d pc s).store s (k.seat ∙ here) here k.level
        (rw e.seat (from_same w l c.site.kids (child c.site.state s) (child c.site.state s) (does (within w At c.site.enter) d pc s).store s
        (λ x i. let z = clear d fine plain pc s x x (or_right (nat_eq x c.site.state) _ i) in (z.level, z.seat))))

    -- nor does the effect of an open step
    pub step_clear : (k : Step) → ProperStep w c.site k → transfers k ≡ false → (pc : ℕ) (b r : Store) (q x : ℕ) → mine c.site x ≡ true
        → Kept w (own x) q r (effect (within w At c.site.enter) k pc b r).store
    step_clear k fine plain pc b r q x m = open_step w c.site q x (mine_state w c.site x m) k fine plain (fine.1 x m) pc b r

    pub step_path : (k : Step) → ProperStep w c.site k → transfers k ≡ false → (pc : ℕ) (b r : Store) → Here r → PathOf (effect (within w At c.site.enter) k pc b r).store ≡ PathOf r
    step_path k fine plain pc b r here =
        let u = (effect (within w At c.site.enter) k pc b r).store in
        let k' = step_clear k fine plain pc b r c.site.parent c.site.state own_mine in
        let e = step_clear k fine plain pc b r c.site.state c.site.state own_mine in
        like_path u r (k'.seat ∙ here) here k'.level
        (rw e.seat (from_same w l c.site.kids (child c.site.state r) (child c.site.state r) u r (λ x i. let z =
        step_clear k fine plain pc b r x x (or_right (nat_eq x c.site.state) _ i) in (z.level, z.seat))))

    pub attempt_then_still : (k : Step) → transfers k ≡ false → ProperStep w c.site k
        → (hang : ℕ → Bool) (f g : ℕ → Store → After) (pc : ℕ) (s : Store) → OfDynamic w hang → Holds w s
        → Quiet w l (step_concerns w c.site.state c.site.kids k) (raise w.order hang (guard w At k s) s) → Here s → UpAt pc k s
        → ((r : ℕ) (u : Store) → High w.order l r → Holds w u → Agree w l (raise w.order hang (guard w At k s) s) u → Here u
        → ((x : ℕ) → mine c.site x ≡ true → Kept w (own x) c.site.state (raise w.order hang (guard w At k s) s) u) → PathOf (f r u).store ≡ PathOf u)
        → ((r : ℕ) → High w.order l r → PathOf (g r (raise w.order hang (guard w At k s) s)).store ≡ PathOf (raise w.order hang (guard w At k s) s))
        → PathOf (attempt_then (within w At c.site.enter) k hang f g pc s).store ≡ PathOf (raise w.order hang (guard w At k s) s)
    unfolding attempt_then
    attempt_then_still k plain fine hang f g pc s dyn holds quiet here up accepted refused =
        let r = raise w.order hang (guard w At k s) s in
        let here' : Here r = child_raise w.order c.site.parent hang (guard w At k s) s ∙ here in
        let held_up = holds_raise w s hang (guard w At k s) dyn holds in
        elim (cases_Bool (test w At k pc s)) [
          | inl t ↦ rw t (
              let u = (effect (within w At c.site.enter) k pc s r).store in
              let one = step_confined w laws l c.site c.entering c.holding k fine pc s r (raise_keeps w s hang _ dyn) held_up quiet t up in
              let seat = (step_clear k fine plain pc s r c.site.parent c.site.state own_mine).seat in
              accepted (w.order.join pc (guard w At k s)) u (up_join w laws l c.site c.entering c.holding pc k s up)
              (effect_holds w At c.site.siblings (landing w laws l c.site c.entering c.holding) c.site.enter c.holding k fine.0 pc s r t held_up) one.same (seat ∙ here')
              (λ x m. step_clear k fine plain pc s r c.site.state x m)
              ∙ step_path k fine plain pc s r here')
          | inr t ↦ rw t (refused _ (up_join w laws l c.site c.entering c.holding pc k s up))
        ]

    mutual
      unfolding does does_arms does_block

      pub does_still : (d : Command) → Proper w c.site d → Final d → (pc : ℕ) (s : Store) → Holds w s → High w.order l pc
          → Quiet w l (concerns w c.site.state c.site.kids d) s → Here s → Mine (touches w At d) s → PathOf (does (within w At c.site.enter) d pc s).store ≡ PathOf s
      does_still (lone k) fine final pc s holds high quiet here cover =
          let hang = raised_alone w At k in
          let dyn : OfDynamic w hang = alone_dynamic w At c.site.siblings (landing w laws l c.site c.entering c.holding) c.site.enter c.holding k in
          let inn = alone_within w laws l c.site c.entering c.holding k in
          attempt_still k final fine hang (λ r t. stay t) pc s dyn holds
          (quiet_kept w laws l c.site c.entering c.holding (step_concerns w c.site.state c.site.kids k) hang _ s dyn quiet) here
          (cover_raise _ _ _ s _ _ cover) (inl high) (λ r u. refl)
          ∙ raised_path hang _ s here (cover_part _ _ _ _ s inn cover) (λ x h. false_from_ne_true _ (λ i. let no = shallow (lone k) fine x h in let yes = inn x i in cc))
      does_still (try k hang h) fine final pc s holds high quiet here cover =
          let hung = touches w At (try k hang h) in
          let dyn : OfDynamic w hung = touches_dynamic w laws l c.site c.entering c.holding (try k hang h) in
          let r' = raise w.order hung (guard w At k s) s in
          let q = quiet_kept w laws l c.site c.entering c.holding (concerns w c.site.state c.site.kids (try k hang h)) hung (guard w At k s) s dyn quiet in
          let cov = cover_raise _ _ _ s hung (guard w At k s) cover in
          attempt_still k final.0 fine.0 hung (does_block (within w At c.site.enter) h) pc s dyn holds
          (quiet_left w laws l c.site c.entering c.holding (step_concerns w c.site.state c.site.kids k) (block_concerns w c.site.state c.site.kids h) r' q) here
          (cover_part _ _ _ _ r' (λ x. touched_in (is_dynamic w x) _ _ (λ i. or_left _ (block_hangs c.site.state c.site.kids h x) i)) cov) (inl high)
          (λ r u. block_still h fine.1 final.1 r _ (holds_raise w s hung _ dyn holds) u
          (quiet_right w laws l c.site c.entering c.holding (step_concerns w c.site.state c.site.kids k)
          (block_concerns w c.site.state c.site.kids h) r' q) (child_raise w.order c.site.parent hung (guard w At k s) s ∙ here)
          (cover_part _ _ _ _ r' (λ x. touched_in (is_dynamic w x) _ _ (λ i. or_right (step_hangs c.site.state c.site.kids k x) _ i)) cov))
          ∙ raised_path hung _ s here cover (shallow (try k hang h) fine)
      does_still (if_else hang e a b) fine final pc s holds high quiet here cover =
          let hung = touches w At (if_else hang e a b) in
          let dyn : OfDynamic w hung = touches_dynamic w laws l c.site c.entering c.holding (if_else hang e a b) in
          let r' = raise w.order hung (tag w e s) s in
          let q = quiet_kept w laws l c.site c.entering c.holding (concerns w c.site.state c.site.kids (if_else hang e a b)) hung (tag w e s) s dyn quiet in
          let cov = cover_raise _ _ _ s hung (tag w e s) cover in
          let here' = child_raise w.order c.site.parent hung (tag w e s) s ∙ here in
          select_still e hung (branch (does_block (within w At c.site.enter) a) (does_block (within w At c.site.enter) b)) pc s (high_left w.order laws l pc _ high)
          (λ v r u. branch_all (λ z. PathOf z.store ≡ PathOf r') (does_block (within w At c.site.enter) a) (does_block (within w At c.site.enter) b) v r r'
          (block_still a fine.1 final.0 r _ (holds_raise w s hung _ dyn holds) u
          (quiet_left w laws l c.site c.entering c.holding (block_concerns w c.site.state c.site.kids a) (block_concerns w c.site.state c.site.kids b) r' q) here'
          (cover_part _ _ _ _ r' (λ x. touched_in (is_dynamic w x) _ _ (λ i. or_left _ (block_hangs c.site.state c.site.kids b x) i)) cov))
          (block_still b fine.2 final.1 r _ (holds_raise w s hung _ dyn holds) u
          (quiet_right w laws l c.site c.entering c.holding (block_concerns w c.site.state c.site.kids a) (block_concerns w c.site.state c.site.kids b) r' q) here'
          (cover_part _ _ _ _ r' (λ x. touched_in (is_dynamic w x) _ _ (λ i. or_right (block_hangs c.site.state c.site.kids a x) _ i)) cov)))
          ∙ raised_path hung _ s here cover (shallow (if_else hang e a b) fine)
      does_still (try_then k hang a b) fine final pc s holds high quiet here cover =
          let hung = touches w At (try_then k hang a b) in
          let dyn : OfDynamic w hung = touches_dynamic w laws l c.site c.entering c.holding (try_then k hang a b) in
          let r' = raise w.order hung (guard w At k s) s in
          let q = quiet_kept w laws l c.site c.entering c.holding (concerns w c.site.state c.site.kids (try_then k hang a b)) hung (guard w At k s) s dyn quiet in
          let cov = cover_raise _ _ _ s hung (guard w At k s) cover in
          let mine_now = step_concerns w c.site.state c.site.kids k in
          let one = block_concerns w c.site.state c.site.kids a in
          let other = block_concerns w c.site.state c.site.kids b in
          let behind = quiet_right w laws l c.site c.entering c.holding mine_now (λ x. one x || other x) r' q in
          attempt_then_still k final.0 fine.0 hung (does_block (within w At c.site.enter) a) (does_block (within w At c.site.enter) b) pc s dyn holds
          (quiet_left w laws l c.site c.entering c.holding mine_now (λ x. one x || other x) r' q) here (inl high)
          (λ r u up hold same here' kept. block_still a fine.1 final.1 r u hold up
          (λ z g h. hush_next w laws l r' u same z g (quiet_left w laws l c.site c.entering c.holding one other r' behind z g h)) here'
          (cover_kept c.site _ r' u (λ x m. kept x m)
          (cover_part _ _ _ _ r' (λ x. touched_in (is_dynamic w x)
          _ _ (λ i. or_right (step_hangs c.site.state c.site.kids k x) _ (or_left _ (block_hangs c.site.state c.site.kids b x) i))) cov)))
          (λ r up. block_still b fine.2 final.2 r _ (holds_raise w s hung _ dyn holds) up (quiet_right w laws l c.site c.entering c.holding one other r' behind)
          (child_raise w.order c.site.parent hung (guard w At k s) s ∙ here)
          (cover_part _ _ _ _ r' (λ x. touched_in (is_dynamic w x)
          _ _ (λ i. or_right (step_hangs c.site.state c.site.kids k x) _ (or_right (block_hangs c.site.state c.site.kids a x) _ i))) cov))
          ∙ raised_path hung _ s here cover (shallow (try_then k hang a b) fine)
      does_still (case_of hang e arms) fine final pc s holds high quiet here cover =
          let hung = touches w At (case_of hang e arms) in
          let dyn : OfDynamic w hung = touches_dynamic w laws l c.site c.entering c.holding (case_of hang e arms) in
          let q = quiet_kept w laws l c.site c.entering c.holding (concerns w c.site.state c.site.kids (case_of hang e arms)) hung (tag w e s) s dyn quiet in
          let cov = cover_raise _ _ _ s hung (tag w e s) cover in
          let here' = child_raise w.order c.site.parent hung (tag w e s) s ∙ here in
          select_still e hung (does_arms (within w At c.site.enter) arms) pc s (high_left w.order laws l pc _ high)
          (λ v r u. arms_still arms fine.1 final v r _ (holds_raise w s hung _ dyn holds) u q here' cov)
          ∙ raised_path hung _ s here cover (shallow (case_of hang e arms) fine)

      arms_still : (arms : Arms) → ProperArms w c.site arms → ClosingArms arms → (v pc : ℕ) (s : Store) → Holds w s → High w.order l pc
          → Quiet w l (arms_concern w c.site.state c.site.kids arms) s → Here s
          → Mine (λ x. is_dynamic w x && arms_hang c.site.state c.site.kids arms x) s → PathOf (does_arms (within w At c.site.enter) arms v pc s).store ≡ PathOf s
      arms_still (last_arm b) fine final v pc s holds high quiet here cover = block_still b fine final pc s holds high quiet here cover
      arms_still (and_arm cs b arms) fine final v pc s holds high quiet here cover =
          choose_all (λ z. PathOf z.store ≡ PathOf s) cs (does_block (within w At c.site.enter) b) (does_arms (within w At c.site.enter) arms) v pc s
          (block_still b fine.0 final.0 pc s holds high
          (quiet_left w laws l c.site c.entering c.holding (block_concerns w c.site.state c.site.kids b) (arms_concern w c.site.state c.site.kids arms) s quiet) here
          (cover_part _ _ _ _ s (λ x. touched_in (is_dynamic w x) _ _ (λ i. or_left _ (arms_hang c.site.state c.site.kids arms x) i)) cover))
          (arms_still arms fine.1 final.1 v pc s holds high
          (quiet_right w laws l c.site c.entering c.holding (block_concerns w c.site.state c.site.kids b) (arms_concern w c.site.state c.site.kids arms) s quiet) here
          (cover_part _ _ _ _ s (λ x. touched_in (is_dynamic w x) _ _ (λ i. or_right (block_hangs c.site.state c.site.kids b x) _ i)) cover))

      pub block_still : (b : Block) → ProperBlock w c.site b → Closes b → (pc : ℕ) (s : Store) → Holds w s → High w.order l pc
          → Quiet w l (block_concerns w c.site.state c.site.kids b) s → Here s
          → Mine (λ x. is_dynamic w x && block_hangs c.site.state c.site.kids b x) s → PathOf (does_block (within w At c.site.enter) b pc s).store ≡ PathOf s
      block_still end_block fine closes pc s holds high quiet here cover = absurd closes
      block_still (command_then d end_block) fine closes pc s holds high quiet here cover =
          does_still d fine.0 closes pc s holds high (λ z g h. quiet z g (or_left _ false h)) here
          (cover_part _ _ _ _ s (λ x. touched_in (is_dynamic w x) _ _ (λ i. or_left _ false i)) cover)
      block_still (command_then d (command_then j js)) fine closes pc s holds high quiet here cover =
          let f = does_confined w laws l c.site c.entering c.holding d fine.0 pc s holds high
          (quiet_left w laws l c.site c.entering c.holding (concerns w c.site.state c.site.kids d) (block_concerns w c.site.state c.site.kids (command_then j js)) s quiet) in
          let s' = (does (within w At c.site.enter) d pc s).store in
          let k = clear_own d fine.0 closes.0 pc s in
          block_still (command_then j js) fine.1 closes.1 pc s' (keeps w laws l c.site c.entering c.holding d fine.0 pc s holds) high
          (λ z g h. hush_next w laws l s s' f.same z g (quiet z g (or_right (concerns w c.site.state c.site.kids d (owner z)) _ h)))
          (k.seat ∙ here)
          (cover_kept c.site _ s s' (λ x m. clear d fine.0 closes.0 pc s c.site.state x m)
          (cover_part _ _ _ _ s (λ x. touched_in (is_dynamic w x) _ _ (λ i. or_right (hangs c.site.state c.site.kids d x) _ i)) cover))
          ∙ clear_path d fine.0 closes.0 pc s here
