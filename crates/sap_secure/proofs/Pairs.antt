-- Two runs of a list that closes, from stores that look alike on the active path too.
use Rattle.sap_lemmas.proofs.Common.{◌≡◌, ℕ, Bool, true, false, ◌&&◌, ◌||◌, List, [], refl, sym, ap, ◌∙◌, subst, inl, inr, cases_Bool, or_left, or_right}
use Rattle.sap_meaning.proofs.FineLemmas.{inside_among}
use Rattle.sap_lattice.specs.Order.{Laws}
use Rattle.sap_maps.specs.Term.{Term}
use Rattle.sap_meaning.specs.Prelude.{within, World, is_dynamic, Step, go_to, fall_to_child, Command, lone, try, if_else, try_then, case_of, Arms, last_arm, and_arm, Block, end_block, command_then, State, state_node, Group, Slot, own, Store, owner, level, child, raise, After, stay, and_then, Holds, value, tag, Home, child_level, guard, test, among, step_hangs, block_hangs, touches, raised_alone, arms_hang, effect, attempt, select, branch, does, does_block, attempt_then, does_arms, Low, High, FineTerm, transfers, Closes, Final, number_of, ClosingArms, OnceStep, Once, OnceBlock, OnceArms}
use Rattle.sap_meaning.proofs.Slots.{child_raise, held_state}
use Rattle.sap_meaning.proofs.Trees.{Nth, nth_same}
use Rattle.sap_meaning.proofs.Keeps.{OfDynamic, branch_all, holds_raise, alone_dynamic, choose_all, effect_holds}
use Rattle.sap_secure.proofs.Levels.{Like, high_right, low_join, seen_parts}
use Rattle.sap_secure.proofs.Agreeing.{Agree, agree_raised, raise_low, raise_to}
use Rattle.sap_secure.proofs.Apart.{inside_state}
use Rattle.sap_secure.proofs.Concerns.{step_concerns, concerns, block_concerns, group_concerns, hanging, block_hanging, arms_concern}
use Rattle.sap_secure.proofs.Sites.{spot, Proper, ProperBlock, ProperStep, fine_block, apart_from, ProperArms}
use Rattle.sap_secure.proofs.Confined.{Confined, Quiet, Even, confined_self, quiet_raise, even_raise, even_next, landing, keeps, attempt_confined, select_confined, block_confined, touches_dynamic, attempt_then_confined, hush_next, quiet_left, quiet_right}
use Rattle.sap_secure.proofs.Walks.{Stop, path, one, path_here, heads, heads_low, from_raised}
use Rattle.sap_secure.proofs.Still.{Scene, Cover, child_level_nth, child_opens_nth, touched_in, current, here_path, like_path, attempt_still, select_still, block_still, clear_own, clear_path, attempt_then_still, cover_kept, cover_part, step_clear, step_path, own_mine}
use Rattle.sap_secure.proofs.Arrive.{goto_pair}
use Rattle.sap_secure.proofs.Twin.{Twin, refusal, refusal_twin, twin_confined, branch_both, value_low, tag_low, tag_same, does_twin, choose_both, guard_same, guard_low, test_low, effect_low, even_step, apart_step}

-- two results that look alike, the path included
pub record Pair (w : World) (l p : ℕ) (q : Group) (a b : After) : Type 0 where
  pub twin : Twin w l a b
  pub path : path w l p q a.store ≡ path w l p q b.store

-- what two runs of the children do, where the current one is low
abbrev pub Paired : World → ℕ → ℕ → Group → (ℕ → ℕ → Store → After) → Type 0
Paired w l e g enter = (m r : ℕ) (s t : Store) (a : State) → Nth g m a → Holds w s → Holds w t → Low w.order l r → Agree w l s t
    → Even w (group_concerns w g) s → Even w (group_concerns w g) t → path w l e g s ≡ path w l e g t → child e s ≡ m → child e t ≡ m
    → Low w.order l (level w (own (number_of a)) s) → Pair w l e g (enter m r s) (enter m r t)

module _ (w : World) (laws : Laws w.order) (l : ℕ) where
  -- the current children in two stores with the same path
  pub falls : (e n m : ℕ) (g : Group) (s t : Store) (a b : State) → child e s ≡ n → child e t ≡ m → Nth g n a → Nth g m b
      → path w l e g s ≡ path w l e g t → Like w.order l (level w (own (number_of a)) s) (level w (own (number_of b)) t) × (Low w.order l (level w (own (number_of a)) s) → n ≡ m)
  falls e n m g s t (state_node c i h) (state_node d j k) here there na nb p =
      let p' : one w l n c h s ≡ one w l m d k t = sym (path_here w l e n c i h g s na here) ∙ p ∙ path_here w l e m d j k g t nb there in
      ((heads_low w laws l n m c d h k s t p', λ low. (heads w laws l n m c d h k s t p' low).1), λ low. (heads w laws l n m c d h k s t p' low).0)

  module _ (c : Scene w l) (below : Type 0) (paired : below → Paired w l c.site.state c.site.kids c.site.enter) where
    abbrev At : Home
    At = spot c.site

    abbrev Path : Store → List Stop
    Path s = path w l c.site.parent c.site.siblings s

    abbrev IsLow : ℕ → Type 0
    IsLow t = Low w.order l t

    abbrev Far : ℕ → Type 0
    Far t = High w.order l t

    -- the two stores look alike, and the state is current and low in both
    pub record Meets (h : ℕ → Bool) (s t : Store) : Type 0 where
      pub first : Holds w s
      pub second : Holds w t
      pub like : Agree w l s t
      pub path : path w l c.site.parent c.site.siblings s ≡ path w l c.site.parent c.site.siblings t
      pub here : child c.site.parent s ≡ c.site.index
      pub there : child c.site.parent t ≡ c.site.index
      pub low : Low w.order l (level w (own c.site.state) s)
      pub even : Even w h s
      pub even2 : Even w h t

    meets_part : (h i : ℕ → Bool) (s t : Store) → ((x : ℕ) → i x ≡ true → h x ≡ true) → Meets h s t → Meets i s t
    meets_part h i s t f m = record {
      first = m.first;
      second = m.second;
      like = m.like;
      path = m.path;
      here = m.here;
      there =
          m.there;
      low = m.low;
      even = λ z g d j. m.even z g d (f (owner z) j);
      even2 = λ z g d j. m.even2 z g d (f (owner z) j);
    }

    abbrev Both : After → After → Type 0
    Both a b = Pair w l c.site.parent c.site.siblings a b

    own_heads : (h : ℕ → Bool) (s t : Store) → Meets h s t → (c.site.index ≡ c.site.index)
        × (level w (own c.site.state) s ≡ level w (own c.site.state) t) × (path w l c.site.state c.site.kids s ≡ path w l c.site.state c.site.kids t)
    own_heads h s t m = heads w laws l c.site.index c.site.index c.site.state c.site.state c.site.kids c.site.kids s t
        (sym (here_path w laws l c s m.here) ∙ m.path ∙ here_path w laws l c t m.there) m.low

    path_raised : (h : ℕ → Bool) (s t : Store) (hang : ℕ → Bool) (a b : ℕ) → Meets h s t → Like w.order l a b → Path (raise w.order hang a s) ≡ Path (raise w.order hang b t)
    path_raised h s t hang a b m like =
        rw (child_raise w.order c.site.parent hang a s, child_raise w.order c.site.parent hang b t, m.here, m.there)
        (from_raised w laws l c.site.siblings c.site.index c.site.index s t hang a b like (rw (m.here, m.there) at m.path))

    meets_raised : (h : ℕ → Bool) (s t : Store) (hang : ℕ → Bool) (a b : ℕ) → OfDynamic w hang → Meets h s t → Like w.order l a b → IsLow a
        → Meets h (raise w.order hang a s) (raise w.order hang b t)
    meets_raised h s t hang a b dyn m like low = record {
      first = holds_raise w s hang a dyn m.first;
      second = holds_raise w t hang b dyn m.second;
      like = agree_raised w laws l s t hang a b dyn m.like like;
      path = path_raised h s t hang a b m like;
      here = child_raise w.order c.site.parent hang a s ∙ m.here;
      there = child_raise w.order c.site.parent hang b t ∙ m.there;
      low = raise_low w laws l s hang a (own c.site.state) low m.low;
      even = even_raise w laws l h hang s a dyn m.even;
      even2 = even_raise w laws l h hang t b dyn m.even2;
    }

    -- the current children at a fall
    fall_like : (h : ℕ → Bool) (site : ℕ) (hang : List Bool) (fine : ProperStep w c.site (fall_to_child site hang)) (s t : Store)
        (m : Meets h s t) → Like w.order l (child_level w c.site.kids (child c.site.state s) s) (child_level w c.site.kids (child c.site.state t) t)
        × (Low w.order l (child_level w c.site.kids (child c.site.state s) s) → child c.site.state s ≡ child c.site.state t)
    fall_like h site hang fine s t m =
        let f = current w laws l c site hang fine s m.first in
        let g = current w laws l c site hang fine t m.second in
        let r = falls c.site.state (child c.site.state s) (child c.site.state t) c.site.kids s t f.0 g.0 refl refl f.1 g.1 (own_heads h s t m).2 in
        rw (child_level_nth w c.site.kids (child c.site.state s) f.0 s f.1, child_level_nth w c.site.kids (child c.site.state t) g.0 t g.1) r

    guard_like : (h : ℕ → Bool) (k : Step) → transfers k ≡ true → ProperStep w c.site k → (s t : Store) → Meets h s t → Like w.order l (guard w At k s) (guard w At k t)
    guard_like h (go_to site target) moves fine s t m = (refl, λ y. refl)
    guard_like h (fall_to_child site hang) moves fine s t m = (fall_like h site hang fine s t m).0
    guard_like h _ moves fine s t m = cc

    test_same : (h : ℕ → Bool) (k : Step) → transfers k ≡ true → ProperStep w c.site k → (pc : ℕ) (s t : Store) → Meets h s t
        → IsLow (guard w At k s) → test w At k pc s ≡ test w At k pc t
    test_same h (go_to site target) moves fine pc s t m low =
        let e = (own_heads h s t m).1 in
        elim (cases_Bool (is_dynamic w target)) [
          | inl d ↦ rw (d, e) refl
          | inr d ↦ (let f = m.like.tags (own target)
              (held_state w target (inside_state w c.site.siblings 0 c.site.siblings c.site.around.fine target
              (inside_among c.site.siblings target fine.0))) d (rw d at low) in rw (d, e, f) refl)
        ]
    test_same h (fall_to_child site hang) moves fine pc s t m low =
        let a = current w laws l c site hang fine s m.first in
        let b = current w laws l c site hang fine t m.second in
        let f = fall_like h site hang fine s t m in
        let n : child c.site.state s ≡ child c.site.state t = f.1 low in
        let e : a.0 ≡ b.0 = nth_same c.site.kids (child c.site.state s) a.0 b.0 a.1 (subst (λ i. Nth c.site.kids i b.0) (sym n) b.1) in
        let v : level w (own (number_of a.0)) s ≡ level w (own (number_of b.0)) t =
        sym (child_level_nth w c.site.kids (child c.site.state s) a.0 s a.1) ∙ f.0.1 low ∙ child_level_nth w c.site.kids (child c.site.state t) b.0 t b.1 in
        child_opens_nth w c.site.kids (child c.site.state s) a.0 pc s a.1
        ∙ alike (is_dynamic w (number_of a.0)) (is_dynamic w (number_of b.0)) (ap (λ x. is_dynamic w (number_of x)) e)
        (level w (own (number_of a.0)) s) (level w (own (number_of b.0)) t) v
        ∙ sym (child_opens_nth w c.site.kids (child c.site.state t) b.0 pc t b.1)
      where
        alike : (i j : Bool) → i ≡ j → (y z : ℕ) → y ≡ z → (i || w.order.le pc y) ≡ (j || w.order.le pc z)
        alike i j e y z v = rw (e, v) refl
    test_same h _ moves fine pc s t m low = cc

    -- the effects of a transfer under a low guard, from the raised stores
    effect_pair : (h : ℕ → Bool) (k : Step) → ((x : ℕ) → step_concerns w c.site.state c.site.kids k x ≡ true → h x ≡ true)
        → transfers k ≡ true → ProperStep w c.site k → OnceStep below k → (pc : ℕ) (s t r u : Store)
        → child c.site.state r ≡ child c.site.state s → child c.site.state u ≡ child c.site.state t → Meets h s t → Meets h r u → IsLow pc
        → IsLow (guard w At k s) → ((z : Slot) → Low w.order l (level w z s) → Low w.order l (level w z r))
        → Both (effect (within w At c.site.enter) k pc s r) (effect (within w At c.site.enter) k pc t u)
    unfolding effect
    effect_pair h (go_to site target) inn moves fine once pc s t r u cs ct m v lowpc low up =
        let a = goto_pair w laws l c site target fine pc c.site.enter s t r u v.first v.second v.like in
        record { twin = record { same = a.same; refused = refl }; path = a.path }
    effect_pair h (fall_to_child site hang) inn moves fine once pc s t r u cs ct m v lowpc low up =
        let f = fall_like h site hang fine s t m in
        let g = current w laws l c site hang fine s m.first in
        let q = w.order.join pc (child_level w c.site.kids (child c.site.state s) s) in
        let down : Low w.order l (level w (own (number_of g.0)) r) =
        up (own (number_of g.0)) (subst (λ y. Low w.order l y) (child_level_nth w c.site.kids (child c.site.state s) g.0 s g.1) low) in
        let x = paired once (child c.site.state s) q r u g.0 g.1 v.first v.second (low_join w.order laws l _ _ lowpc low) v.like
        (λ z g d j. v.even z g d (inn (owner z) (or_right (among c.site.kids (owner z)) _ j)))
        (λ z g d j. v.even2 z g d (inn (owner z) (or_right (among c.site.kids (owner z)) _ j)))
        (own_heads h r u v).2 cs (ct ∙ sym (f.1 low)) down in
        let i = c.kept (child c.site.state s) q r in
        let j = c.kept (child c.site.state s) q u in
        let res : Both (c.site.enter (child c.site.state s) q r) (c.site.enter (child c.site.state s) q u) = record {
          twin = x.twin;
          path = like_path w laws l c (c.site.enter (child c.site.state s) q r).store (c.site.enter (child c.site.state s) q u).store (i.seat ∙ v.here) (j.seat ∙ v.there)
              (i.level ∙ (own_heads h r u v).1 ∙ sym j.level) x.path;
        } in
        subst (λ n. Both (c.site.enter (child c.site.state s) q r) (c.site.enter n (w.order.join pc (child_level w c.site.kids (child c.site.state t) t)) u)) (f.1 low)
        (subst (λ y. Both (c.site.enter (child c.site.state s) q r) (c.site.enter (child c.site.state s) (w.order.join pc y) u)) (f.0.1 low) res)
    effect_pair h _ inn moves fine once pc s t r u cs ct m v lowpc low up = cc

    -- what a high context does from a raised store
    abbrev Side : (Store → After) → Store → Type 0
    Side f r = Confined w l r (f r) × (Path (f r).store ≡ Path r)

    pair_sides : (r u : Store) (a b : After) → Agree w l r u → Path r ≡ Path u → Confined w l r a × (Path a.store ≡ Path r) → Confined w l u b × (Path b.store ≡ Path u) → Both a b
    pair_sides r u a b e p f g = record { twin = twin_confined w laws l r u a b e f.0 g.0; path = f.1 ∙ p ∙ sym g.1 }

    -- what is raised to a high level is covered
    cover_raised : (h hang : ℕ → Bool) (a : ℕ) (s : Store) → ((x : ℕ) → h x ≡ true → hang x ≡ true) → Far a → Cover w l c.site.state c.site.kids h (raise w.order hang a s)
    cover_raised h hang a s inn far = record {
      own_high = λ i. raise_to w laws l s hang a (own c.site.state) (inn _ i) far;
      kid_high = λ b n low i. raise_to w laws l s hang a (own (number_of b)) (inn _ i) far;
    }

    -- under a low guard
    lower_pair : (h : ℕ → Bool) (k : Step) → ((x : ℕ) → step_concerns w c.site.state c.site.kids k x ≡ true → h x ≡ true)
        → transfers k ≡ true → ProperStep w c.site k → OnceStep below k → (hang : ℕ → Bool) (f : ℕ → Store → After) (pc : ℕ) (s t : Store)
        → OfDynamic w hang → Meets h s t → IsLow pc → ((r : ℕ) (v z : Store) → IsLow r → Meets h v z → Both (f r v) (f r z))
        → IsLow (guard w At k s) → Both (attempt (within w At c.site.enter) k hang f pc s) (attempt (within w At c.site.enter) k hang f pc t)
    unfolding attempt
    lower_pair h k inn moves fine once hang f pc s t dyn m lowpc handler low = elim (cases_Bool (test w At k pc s)) [
      | inl a ↦ rw (a, sym (test_same h k moves fine pc s t m low) ∙ a)
          (effect_pair h k inn moves fine once pc s t r u (child_raise w.order c.site.state hang _ s)
          (child_raise w.order c.site.state hang _ t) m meet lowpc low (λ z up. raise_low w laws l s hang (guard w At k s) z low up))
      | inr a ↦ rw (a, sym (test_same h k moves fine pc s t m low) ∙ a) (again (guard w At k t) ((guard_like h k moves fine s t m).1 low))
    ]
      where
        r : Store
        r = raise w.order hang (guard w At k s) s

        u : Store
        u = raise w.order hang (guard w At k t) t

        meet : Meets h r u
        meet = meets_raised h s t hang _ _ dyn m (guard_like h k moves fine s t m) low

        again : (v : ℕ) → guard w At k s ≡ v
            → Both (refusal k (w.order.join pc (guard w At k s)) (f (w.order.join pc (guard w At k s)) r)) (refusal k (w.order.join pc v) (f (w.order.join pc v) u))
        again v e = rw (← e) (
            let up : Low w.order l (w.order.join pc (guard w At k s)) = low_join w.order laws l _ _ lowpc low in
            let g = handler (w.order.join pc (guard w At k s)) r u up meet in
            record { twin = refusal_twin w laws l k _ _ _ up g.twin; path = g.path })

    lower_select : (h : ℕ → Bool) (e : Term ℕ) → FineTerm w e → (hang : ℕ → Bool) (pick : ℕ → ℕ → Store → After) (pc : ℕ) (s t : Store)
        → OfDynamic w hang → Meets h s t → IsLow pc → ((i r : ℕ) (v z : Store) → IsLow r → Meets h v z → Both (pick i r v) (pick i r z))
        → IsLow (tag w e s) → Both (select w e hang pick pc s) (select w e hang pick pc t)
    unfolding select
    lower_select h e fe hang pick pc s t dyn m lowpc f low =
        let i = value_low w laws l e fe s t m.like low in
        let v = tag_low w laws l e fe s t m.like low in
        let up = low_join w.order laws l pc (tag w e s) lowpc low in
        let r = raise w.order hang (tag w e s) s in
        let u = raise w.order hang (tag w e s) t in
        let g = f (value w e s) (w.order.join pc (tag w e s)) r u up (meets_raised h s t hang (tag w e s) (tag w e s) dyn m (refl, λ _. refl) low) in
        subst (λ n. Both (pick (value w e s) (w.order.join pc (tag w e s)) r) (pick n (w.order.join pc (tag w e t)) (raise w.order hang (tag w e t) t))) i
        (subst (λ n. Both (pick (value w e s) (w.order.join pc (tag w e s)) r) (pick (value w e s) (w.order.join pc n) (raise w.order hang n t))) v g)

    -- a step alone raises all that it touches
    alone_all : (k : Step) → transfers k ≡ true → (x : ℕ) → (is_dynamic w x && step_hangs c.site.state c.site.kids k x) ≡ true → raised_alone w At k x ≡ true
    alone_all (go_to site target) moves x h = h
    alone_all (fall_to_child site hang) moves x h = h
    alone_all _ moves x h = cc

    high_side : (b : Block) → ProperBlock w c.site b → Closes b → (hang : ℕ → Bool) (a : ℕ)
        → ((x : ℕ) → (is_dynamic w x && block_hangs c.site.state c.site.kids b x) ≡ true → hang x ≡ true) → OfDynamic w hang
        → (r : ℕ) (v : Store) → Far r → Far a → Holds w v → Even w (block_concerns w c.site.state c.site.kids b) v
        → child c.site.parent v ≡ c.site.index → Side (does_block (within w At c.site.enter) b r) (raise w.order hang a v)
    high_side b fine closes hang a inn dyn r v far fa hv ev here =
        let q : Quiet w l (block_concerns w c.site.state c.site.kids b) (raise w.order hang a v) =
        quiet_raise w laws l (block_concerns w c.site.state c.site.kids b) hang a v (λ x j. inn x (block_hanging w c.site.state c.site.kids b x j)) dyn fa ev in (
          block_confined w laws l c.site c.entering c.holding b fine r (raise w.order hang a v) (holds_raise w v hang a dyn hv) far q,
          block_still w laws l c b fine closes r (raise w.order hang a v) (holds_raise w v hang a dyn hv) far q
              (child_raise w.order c.site.parent hang a v ∙ here) (cover_raised _ hang a v inn fa),
        )

    attempt_pair : (h : ℕ → Bool) (k : Step) → ((x : ℕ) → step_concerns w c.site.state c.site.kids k x ≡ true → h x ≡ true)
        → transfers k ≡ true → ProperStep w c.site k → OnceStep below k → (hang : ℕ → Bool) (f : ℕ → Store → After) (pc : ℕ) (s t : Store)
        → OfDynamic w hang → ((x : ℕ) → (is_dynamic w x && step_hangs c.site.state c.site.kids k x) ≡ true → hang x ≡ true) → Meets h s t
        → IsLow pc → ((r : ℕ) (v z : Store) → IsLow r → Meets h v z → Both (f r v) (f r z))
        → ((r a : ℕ) (v : Store) → Far r → Far a → Holds w v → Even w h v → child c.site.parent v ≡ c.site.index
        → Side (f r) (raise w.order hang a v)) → Both (attempt (within w At c.site.enter) k hang f pc s) (attempt (within w At c.site.enter) k hang f pc t)
    attempt_pair h k zin moves fine once hang f pc s t dyn inn m lowpc handler side' = elim (cases_Bool (w.order.le (guard w At k s) l)) [
      | inl low ↦ lower_pair h k zin moves fine once hang f pc s t dyn m lowpc handler low
      | inr high ↦ (
          let like = guard_like h k moves fine s t m in
          let high' : Far (guard w At k t) = sym like.0 ∙ high in
          pair_sides (raise w.order hang (guard w At k s) s) (raise w.order hang (guard w At k t) t)
          _ _ (agree_raised w laws l s t hang _ _ dyn m.like like) (path_raised h s t hang _ _ m like)
          (side s high m.first m.even m.here) (side t high' m.second m.even2 m.there))
    ]
      where
        side : (v : Store) → Far (guard w At k v) → Holds w v → Even w h v → child c.site.parent v ≡ c.site.index
            → Side (λ r. attempt (within w At c.site.enter) k hang f pc v) (raise w.order hang (guard w At k v) v)
        side v high holds ev here =
            let q : Quiet w l (step_concerns w c.site.state c.site.kids k) (raise w.order hang (guard w At k v) v) =
            quiet_raise w laws l (step_concerns w c.site.state c.site.kids k) hang _ v
            (λ x j. inn x (hanging w c.site.state c.site.kids (lone k) x j)) dyn high (λ z g d j. ev z g d (zin (owner z) j)) in (
              attempt_confined w laws l c.site c.entering c.holding k fine hang f pc v dyn holds q (inr high) (λ r far. (side' r (guard w At k v) v far high holds ev here).0),
              attempt_still w laws l c k moves fine hang f pc v dyn holds q here (cover_raised _ hang _ v inn high) (inr high)
                  (λ r far. (side' r (guard w At k v) v far high holds ev here).1),
            )

    select_pair : (h : ℕ → Bool) (e : Term ℕ) → FineTerm w e → (hang : ℕ → Bool) (pick : ℕ → ℕ → Store → After) (pc : ℕ) (s t : Store)
        → OfDynamic w hang → Meets h s t → IsLow pc → ((i r : ℕ) (v z : Store) → IsLow r → Meets h v z → Both (pick i r v) (pick i r z))
        → ((i r a : ℕ) (v : Store) → Far r → Far a → Holds w v → Even w h v → child c.site.parent v ≡ c.site.index
        → Side (pick i r) (raise w.order hang a v)) → Both (select w e hang pick pc s) (select w e hang pick pc t)
    select_pair h e fe hang pick pc s t dyn m lowpc f g = elim (cases_Bool (w.order.le (tag w e s) l)) [
      | inl low ↦ lower_select h e fe hang pick pc s t dyn m lowpc f low
      | inr high ↦ (
          let same = tag_same w laws l e fe s t m.like in
          let high' : Far (tag w e t) = sym same ∙ high in
          let like : Like w.order l (tag w e s) (tag w e t) = (same, λ low. cc) in
          pair_sides (raise w.order hang (tag w e s) s) (raise w.order hang (tag w e t) t)
          _ _ (agree_raised w laws l s t hang _ _ dyn m.like like) (path_raised h s t hang _ _ m like)
          (side s high m.first m.even m.here) (side t high' m.second m.even2 m.there))
    ]
      where
        side : (v : Store) → Far (tag w e v) → Holds w v → Even w h v → child c.site.parent v ≡ c.site.index
            → Side (λ r. select w e hang pick pc v) (raise w.order hang (tag w e v) v)
        side v high holds ev here = (
          select_confined w laws l c.site c.entering c.holding e hang pick pc v (high_right w.order laws l pc _ high) (λ i r far. (g i r (tag w e v) v far high holds ev here).0),
          select_still w laws l c e hang pick pc v (high_right w.order laws l pc _ high) (λ i r far. (g i r (tag w e v) v far high holds ev here).1),
        )

    arms_side : (arms : Arms) → ProperArms w c.site arms → ClosingArms arms → (hang : ℕ → Bool) (a : ℕ)
        → ((x : ℕ) → (is_dynamic w x && arms_hang c.site.state c.site.kids arms x) ≡ true → hang x ≡ true) → OfDynamic w hang → (i r : ℕ) (v : Store) → Far r → Far a → Holds w v
        → Even w (arms_concern w c.site.state c.site.kids arms) v → child c.site.parent v ≡ c.site.index → Side (does_arms (within w At c.site.enter) arms i r) (raise w.order hang a v)
    unfolding does_arms
    arms_side (last_arm b) fine closes hang a inn dyn i r v far fa hv ev here = high_side b fine closes hang a inn dyn r v far fa hv ev here
    arms_side (and_arm cs b arms) fine closes hang a inn dyn i r v far fa hv ev here =
        choose_all (λ z. Confined w l (raise w.order hang a v) z × (Path z.store ≡ Path (raise w.order hang a v))) cs
        (does_block (within w At c.site.enter) b) (does_arms (within w At c.site.enter) arms) i r (raise w.order hang a v)
        (high_side b fine.0 closes.0 hang a (λ x j. inn x
        (touched_in (is_dynamic w x) _ _ (λ i. or_left _ (arms_hang c.site.state c.site.kids arms x) i) j)) dyn r v far fa hv
        (λ z g d i. ev z g d (or_left _ (arms_concern w c.site.state c.site.kids arms (owner z)) i)) here)
        (arms_side arms fine.1 closes.1 hang a (λ x j. inn x
        (touched_in (is_dynamic w x) _ _ (λ i. or_right (block_hangs c.site.state c.site.kids b x) _ i) j)) dyn i r v far fa hv
        (λ z g d i. ev z g d (or_right (block_concerns w c.site.state c.site.kids b (owner z)) _ i)) here)

    -- a step with an accepted part, under a low guard: the stores behind the effect meet as well
    lower_then : (h fh : ℕ → Bool) (k : Step) → ((x : ℕ) → fh x ≡ true → h x ≡ true) → transfers k ≡ false → ProperStep w c.site k
        → (hang : ℕ → Bool) (f g : ℕ → Store → After) (pc : ℕ) (s t : Store) → OfDynamic w hang → Meets h s t → IsLow pc
        → ((b r : Store) → Even w fh r → Even w fh (effect (within w At c.site.enter) k pc b r).store)
        → ((r : ℕ) (v z : Store) → IsLow r → Meets fh v z → Both (f r v) (f r z)) → ((r : ℕ) (v z : Store) → IsLow r → Meets h v z → Both (g r v) (g r z)) → IsLow (guard w At k s)
        → Both (attempt_then (within w At c.site.enter) k hang f g pc s) (attempt_then (within w At c.site.enter) k hang f g pc t)
    unfolding attempt_then
    lower_then h fh k inn plain fine hang f g pc s t dyn m lowpc keep accepted handler low = elim (cases_Bool (test w At k pc s)) [
      | inl a ↦ rw (
        a,
        sym (test_low w laws l c.site c.entering c.holding k fine plain pc s t m.like low)
            ∙ a,
      ) (behind a (guard w At k t) (guard_low w laws l c.site c.entering c.holding k fine plain s t m.like low))
      | inr a ↦ rw (
        a,
        sym (test_low w laws l c.site c.entering c.holding k fine plain pc s t m.like low)
            ∙ a,
      ) (again (guard w At k t) (guard_low w laws l c.site c.entering c.holding k fine plain s t m.like low))
    ]
      where
        r : Store
        r = raise w.order hang (guard w At k s) s

        u : Store
        u = raise w.order hang (guard w At k t) t

        up : Low w.order l (w.order.join pc (guard w At k s))
        up = low_join w.order laws l _ _ lowpc low

        meet : Meets h r u
        meet = meets_raised h s t hang _ _ dyn m (
          guard_same w laws l c.site c.entering c.holding k fine plain s t m.like,
          λ lo. guard_low w laws l c.site c.entering c.holding k fine plain s t m.like lo,
        ) low

        behind : test w At k pc s ≡ true → (v : ℕ) → guard w At k s ≡ v
            → Both (and_then (effect (within w At c.site.enter) k pc s r) (f (w.order.join pc (guard w At k s)))) (and_then (effect (within w At c.site.enter) k pc t u) (f (w.order.join pc v)))
        behind a v e = rw (← e) (
            let o = effect_low w laws l c.site c.entering c.holding k fine plain pc s t r u lowpc m.like meet.like low a in
            let b = sym (test_low w laws l c.site c.entering c.holding k fine plain pc s t m.like low) ∙ a in
            let one = (effect (within w At c.site.enter) k pc s r).store in
            let other = (effect (within w At c.site.enter) k pc t u).store in
            let seat1 = step_clear w laws l c k fine plain pc s r c.site.parent c.site.state (own_mine w laws l c) in
            let seat2 = step_clear w laws l c k fine plain pc t u c.site.parent c.site.state (own_mine w laws l c) in
            let next : Meets fh one other = record {
              first = effect_holds w At c.site.siblings (landing w laws l c.site c.entering c.holding) c.site.enter c.holding k fine.0 pc s r a meet.first;
              second = effect_holds w At c.site.siblings (landing w laws l c.site c.entering c.holding) c.site.enter c.holding k fine.0 pc t u b meet.second;
              like = o.same;
              path = step_path w laws l c k fine plain pc s r meet.here ∙ meet.path ∙ sym (step_path w laws l c k fine plain pc t u meet.there);
              here = seat1.seat ∙ meet.here;
              there = seat2.seat ∙ meet.there;
              low = subst (λ v. Low w.order l v) (sym seat1.level) meet.low;
              even = keep s r (λ z g d j. meet.even z g d (inn (owner z) j));
              even2 = keep t u (λ z g d j. meet.even2 z g d (inn (owner z) j));
            } in
            let d = accepted (w.order.join pc (guard w At k s)) one other up next in
            record { twin = record { same = d.twin.same; refused = seen_parts w.order laws l _ _ _ _ o.refused d.twin.refused }; path = d.path })

        again : (v : ℕ) → guard w At k s ≡ v
            → Both (refusal k (w.order.join pc (guard w At k s)) (g (w.order.join pc (guard w At k s)) r)) (refusal k (w.order.join pc v) (g (w.order.join pc v) u))
        again v e = rw (← e) (
            let d = handler (w.order.join pc (guard w At k s)) r u up meet in
            record { twin = refusal_twin w laws l k _ _ _ up d.twin; path = d.path })

    -- the same under a high guard, from the raised store
    then_side : (k : Step) (hang : List Bool) (a b : Block) → Proper w c.site (try_then k hang a b) → Final (try_then k hang a b)
        → (pc : ℕ) (v : Store) → Far (guard w At k v) → Holds w v → Even w (concerns w c.site.state c.site.kids (try_then k hang a b)) v → child c.site.parent v ≡ c.site.index
        → Side (λ r. does (within w At c.site.enter) (try_then k hang a b) pc v) (raise w.order (touches w At (try_then k hang a b)) (guard w At k v) v)
    unfolding does
    then_side k hang a b fine final pc v high hv ev here =
        let hung = touches w At (try_then k hang a b) in
        let dyn : OfDynamic w hung = touches_dynamic w laws l c.site c.entering c.holding (try_then k hang a b) in
        let r = raise w.order hung (guard w At k v) v in
        let mine_now = step_concerns w c.site.state c.site.kids k in
        let one = block_concerns w c.site.state c.site.kids a in
        let other = block_concerns w c.site.state c.site.kids b in
        let q : Quiet w l (concerns w c.site.state c.site.kids (try_then k hang a b)) r =
        quiet_raise w laws l (concerns w c.site.state c.site.kids (try_then k hang a b)) hung _ v (hanging w c.site.state c.site.kids (try_then k hang a b)) dyn high ev in
        let first = quiet_left w laws l c.site c.entering c.holding mine_now (λ x. one x || other x) r q in
        let behind = quiet_right w laws l c.site c.entering c.holding mine_now (λ x. one x || other x) r q in
        let cov = cover_raised hung hung (guard w At k v) v (λ x i. i) high in
        let here' = child_raise w.order c.site.parent hung (guard w At k v) v ∙ here in
        let quiet_a = quiet_left w laws l c.site c.entering c.holding one other r behind in
        let quiet_b = quiet_right w laws l c.site c.entering c.holding one other r behind in
        let hr = holds_raise w v hung (guard w At k v) dyn hv in (
          attempt_then_confined w laws l c.site c.entering c.holding k fine.0 hung (does_block (within w At c.site.enter) a) (does_block (within w At c.site.enter) b) pc v dyn hv first (inr high)
              (λ z u up hold same. block_confined w laws l c.site c.entering c.holding a fine.1 z u hold up (λ y g h. hush_next w laws l r u same y g (quiet_a y g h)))
              (λ z up. block_confined w laws l c.site c.entering c.holding b fine.2 z r hr up quiet_b),
          attempt_then_still w laws l c k final.0 fine.0 hung (does_block (within w At c.site.enter) a) (does_block (within w At c.site.enter) b) pc v dyn hv first here (inr high)
              (λ z u up hold same here'' kept. block_still w laws l c a fine.1 final.1 z u hold up (λ y g h. hush_next w laws l r u same y g (quiet_a y g h)) here''
              (cover_kept w laws l c.site _ r u (λ x m. kept x m)
              (cover_part w laws l _ _ _ _ r (λ x. touched_in (is_dynamic w x)
              _ _ (λ i. or_right (step_hangs c.site.state c.site.kids k x) _ (or_left _ (block_hangs c.site.state c.site.kids b x) i))) cov)))
              (λ z up. block_still w laws l c b fine.2 final.2 z r hr up quiet_b here'
              (cover_part w laws l _ _ _ _ r (λ x. touched_in (is_dynamic w x)
              _ _ (λ i. or_right (step_hangs c.site.state c.site.kids k x) _ (or_right (block_hangs c.site.state c.site.kids a x) _ i))) cov)),
        )

    mutual
      unfolding does does_arms does_block

      pub does_pair : (d : Command) → Proper w c.site d → Once c.site.kids below d → Final d → (pc : ℕ) (s t : Store) → IsLow pc
          → Meets (concerns w c.site.state c.site.kids d) s t → Both (does (within w At c.site.enter) d pc s) (does (within w At c.site.enter) d pc t)
      does_pair (lone k) fine once final pc s t low m =
          let hang = raised_alone w At k in
          let dyn : OfDynamic w hang = alone_dynamic w At c.site.siblings (landing w laws l c.site c.entering c.holding) c.site.enter c.holding k in
          attempt_pair (step_concerns w c.site.state c.site.kids k) k (λ x i. i) final fine once hang (λ r v. stay v) pc s t dyn (alone_all k final) m low
          (λ r v z lr mv. record { twin = record { same = mv.like; refused = refl }; path = mv.path })
          (λ r a v far fa hv ev here. (confined_self w laws l _, refl))
      does_pair (try k hang h) fine once final pc s t low m =
          let hung = touches w At (try k hang h) in
          let dyn : OfDynamic w hung = touches_dynamic w laws l c.site c.entering c.holding (try k hang h) in
          attempt_pair (concerns w c.site.state c.site.kids (try k hang h)) k
          (λ x i. or_left _ (block_concerns w c.site.state c.site.kids h x) i) final.0 fine.0 once.0 hung (does_block (within w At c.site.enter) h) pc s t dyn
          (λ x. touched_in (is_dynamic w x) _ _ (λ i. or_left _ (block_hangs c.site.state c.site.kids h x) i)) m low
          (λ r v z lr mv. block_pair h fine.1 once.1 final.1 r v z lr
          (meets_part (concerns w c.site.state c.site.kids (try k hang h)) (block_concerns w c.site.state c.site.kids h) v z
          (λ x i. or_right (step_concerns w c.site.state c.site.kids k x) _ i) mv))
          (λ r a v far fa hv ev here. high_side h fine.1 final.1 hung a
          (λ x. touched_in (is_dynamic w x) _ _ (λ i. or_right (step_hangs c.site.state c.site.kids k x) _ i)) dyn r v far fa hv
          (λ z g d i. ev z g d (or_right (step_concerns w c.site.state c.site.kids k (owner z)) _ i)) here)
      does_pair (if_else hang e a b) fine once final pc s t low m =
          let hung = touches w At (if_else hang e a b) in
          let dyn : OfDynamic w hung = touches_dynamic w laws l c.site c.entering c.holding (if_else hang e a b) in
          select_pair (concerns w c.site.state c.site.kids (if_else hang e a b)) e fine.0 hung
          (branch (does_block (within w At c.site.enter) a) (does_block (within w At c.site.enter) b)) pc s t dyn m low
          (λ i r v z lr mv. branch_both (λ x y. Both x y) (does_block (within w At c.site.enter) a) (does_block (within w At c.site.enter) b) i r v z
          (block_pair a fine.1 once.0 final.0 r v z lr
          (meets_part (concerns w c.site.state c.site.kids (if_else hang e a b)) (block_concerns w c.site.state c.site.kids a) v z
          (λ x i. or_left _ (block_concerns w c.site.state c.site.kids b x) i) mv))
          (block_pair b fine.2 once.1 final.1 r v z lr
          (meets_part (concerns w c.site.state c.site.kids (if_else hang e a b)) (block_concerns w c.site.state c.site.kids b) v z
          (λ x i. or_right (block_concerns w c.site.state c.site.kids a x) _ i) mv)))
          (λ i r q v far fa hv ev here. branch_all (λ z. Confined w l (raise w.order hung q v) z
          × (Path z.store ≡ Path (raise w.order hung q v))) (does_block (within w At c.site.enter) a) (does_block (within w At c.site.enter) b) i r (raise w.order hung q v)
          (high_side a fine.1 final.0 hung q (λ x. touched_in (is_dynamic w x) _ _ (λ i. or_left _ (block_hangs c.site.state c.site.kids b x) i))
          dyn r v far fa hv (λ z g d i. ev z g d (or_left _ (block_concerns w c.site.state c.site.kids b (owner z)) i)) here)
          (high_side b fine.2 final.1 hung q (λ x. touched_in (is_dynamic w x)
          _ _ (λ i. or_right (block_hangs c.site.state c.site.kids a x) _ i)) dyn r v far fa hv
          (λ z g d i. ev z g d (or_right (block_concerns w c.site.state c.site.kids a (owner z)) _ i)) here))
      does_pair (try_then k hang a b) fine once final pc s t low m =
          let hung = touches w At (try_then k hang a b) in
          let dyn : OfDynamic w hung = touches_dynamic w laws l c.site c.entering c.holding (try_then k hang a b) in
          let all = concerns w c.site.state c.site.kids (try_then k hang a b) in
          let mine_now = step_concerns w c.site.state c.site.kids k in
          let one = block_concerns w c.site.state c.site.kids a in
          let other = block_concerns w c.site.state c.site.kids b in
          elim (cases_Bool (w.order.le (guard w At k s) l)) [
            | inl g ↦ lower_then all one k (λ x i. or_right (mine_now x) _ (or_left _ (other x) i)) final.0 fine.0 hung
                (does_block (within w At c.site.enter) a) (does_block (within w At c.site.enter) b) pc s t dyn m low
                (λ v r e. even_step w laws l c.site c.entering c.holding k final.0 one (apart_step w laws l c.site c.entering c.holding k a fine.1 final.0 once.3) pc v r e)
                (λ r v z lr mv. block_pair a fine.1 once.1 final.1 r v z lr mv)
                (λ r v z lr mv. block_pair b fine.2 once.2 final.2 r v z lr (meets_part all other v z (λ x i. or_right (mine_now x) _ (or_right (one x) _ i)) mv)) g
            | inr g ↦ (
                let same = guard_same w laws l c.site c.entering c.holding k fine.0 final.0 s t m.like in
                let like : Like w.order l (guard w At k s) (guard w At k t) = (same, λ lo. guard_low w laws l c.site c.entering c.holding k fine.0 final.0 s t m.like lo) in
                pair_sides (raise w.order hung (guard w At k s) s) (raise w.order hung (guard w At k t) t)
                _ _ (agree_raised w laws l s t hung _ _ dyn m.like like) (path_raised all s t hung _ _ m like)
                (then_side k hang a b fine final pc s g m.first m.even m.here) (then_side k hang a b fine final pc t (sym same ∙ g) m.second m.even2 m.there))
          ]
      does_pair (case_of hang e arms) fine once final pc s t low m =
          let hung = touches w At (case_of hang e arms) in
          let dyn : OfDynamic w hung = touches_dynamic w laws l c.site c.entering c.holding (case_of hang e arms) in
          select_pair (arms_concern w c.site.state c.site.kids arms) e fine.0 hung (does_arms (within w At c.site.enter) arms) pc s t dyn
          (meets_part (concerns w c.site.state c.site.kids (case_of hang e arms)) (arms_concern w c.site.state c.site.kids arms) s t (λ x i. i) m) low
          (λ i r v z lr mv. arms_pair arms fine.1 once final i r v z lr mv)
          (λ i r q v far fa hv ev here. arms_side arms fine.1 final hung q (λ x j. j) dyn i r v far fa hv ev here)

      arms_pair : (arms : Arms) → ProperArms w c.site arms → OnceArms c.site.kids below arms → ClosingArms arms → (v pc : ℕ) (s t : Store)
          → IsLow pc → Meets (arms_concern w c.site.state c.site.kids arms) s t → Both (does_arms (within w At c.site.enter) arms v pc s) (does_arms (within w At c.site.enter) arms v pc t)
      arms_pair (last_arm b) fine once closes v pc s t low m =
          block_pair b fine once closes pc s t low
          (meets_part (arms_concern w c.site.state c.site.kids (last_arm b)) (block_concerns w c.site.state c.site.kids b) s t (λ x i. i) m)
      arms_pair (and_arm cs b arms) fine once closes v pc s t low m =
          let here = block_concerns w c.site.state c.site.kids b in
          let rest = arms_concern w c.site.state c.site.kids arms in
          choose_both (λ x y. Both x y) cs (does_block (within w At c.site.enter) b) (does_arms (within w At c.site.enter) arms) v pc s t
          (block_pair b fine.0 once.0 closes.0 pc s t low (meets_part (arms_concern w c.site.state c.site.kids (and_arm cs b arms)) here s t (λ x i. or_left _ (rest x) i) m))
          (arms_pair arms fine.1 once.1 closes.1 v pc s t low (meets_part (arms_concern w c.site.state c.site.kids (and_arm cs b arms)) rest s t (λ x i. or_right (here x) _ i) m))

      pub block_pair : (b : Block) → ProperBlock w c.site b → OnceBlock c.site.kids below b → Closes b → (pc : ℕ) (s t : Store) → IsLow pc
          → Meets (block_concerns w c.site.state c.site.kids b) s t → Both (does_block (within w At c.site.enter) b pc s) (does_block (within w At c.site.enter) b pc t)
      block_pair end_block fine once closes pc s t low m = absurd closes
      block_pair (command_then d end_block) fine once closes pc s t low m =
          let f = does_pair d fine.0 once.0 closes pc s t low
          (meets_part (block_concerns w c.site.state c.site.kids (command_then d end_block)) (concerns w c.site.state c.site.kids d) s t (λ x i. or_left _ false i) m) in
          record { twin = record { same = f.twin.same; refused = seen_parts w.order laws l _ [] _ [] f.twin.refused refl }; path = f.path }
      block_pair (command_then d (command_then j js)) fine once closes pc s t low m =
          let apart = apart_from w c.site d (command_then j js) (fine_block w c.site (command_then j js) fine.1) closes.0 once.2 in
          let f = does_twin w laws l c.site c.entering c.holding below d fine.0 once.0 closes.0 pc s t m.first m.second low m.like
          (λ z g e i. m.even z g e (or_left _ (block_concerns w c.site.state c.site.kids (command_then j js) (owner z)) i))
          (λ z g e i. m.even2 z g e (or_left _ (block_concerns w c.site.state c.site.kids (command_then j js) (owner z)) i)) in
          let a = clear_own w laws l c d fine.0 closes.0 pc s in
          let b = clear_own w laws l c d fine.0 closes.0 pc t in
          let next : Meets (block_concerns w c.site.state c.site.kids (command_then j js)) (does (within w At c.site.enter) d pc s).store (does (within w At c.site.enter) d pc t).store = record {
            first = keeps w laws l c.site c.entering c.holding d fine.0 pc s m.first;
            second = keeps w laws l c.site c.entering c.holding d fine.0 pc t m.second;
            like = f.same;
            path = clear_path w laws l c d fine.0 closes.0 pc s m.here ∙ m.path ∙ sym (clear_path w laws l c d fine.0 closes.0 pc t m.there);
            here = a.seat ∙ m.here;
            there = b.seat ∙ m.there;
            low = subst (λ v. Low w.order l v) (sym a.level) m.low;
            even = even_next w laws l c.site c.entering c.holding d (command_then j js) apart pc s
                (λ z g e i. m.even z g e (or_right (concerns w c.site.state c.site.kids d (owner z)) _ i));
            even2 = even_next w laws l c.site c.entering c.holding d (command_then j js) apart pc t
                (λ z g e i. m.even2 z g e (or_right (concerns w c.site.state c.site.kids d (owner z)) _ i));
          } in
          let g = block_pair (command_then j js) fine.1 once.1 closes.1 pc (does (within w At c.site.enter) d pc s).store (does (within w At c.site.enter) d pc t).store low next in
          record { twin = record { same = g.twin.same; refused = seen_parts w.order laws l _ _ _ _ f.refused g.twin.refused }; path = g.path }
