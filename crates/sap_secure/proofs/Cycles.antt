-- One cycle from states that agree.
use Rattle.sap_lemmas.proofs.Common.{◌≡◌, ℕ, zero, suc, ◌<◌, Bool, [], refl, sym, ap, ◌∙◌, subst, arith, inl, inr, cases_Bool, and_from, or_right, and_left, and_right}
use Rattle.sap_lattice.specs.Order.{Laws}
use Rattle.sap_meaning.specs.Prelude.{World, is_dynamic, children, State, state_node, Group, no_node, and_node, own, Store, owner, level, child, raise, After, Holds, among, root_touches, does_state, does_child, root_fall, Low, High, number_of, OnceState, OnceGroup}
use Rattle.sap_meaning.proofs.Slots.{child_raise}
use Rattle.sap_meaning.proofs.Trees.{Nth, nth_of}
use Rattle.sap_meaning.proofs.Keeps.{OfDynamic, holds_raise}
use Rattle.sap_secure.proofs.Agreeing.{Agree, agree_raised, raise_high, raise_low}
use Rattle.sap_secure.proofs.Concerns.{state_concerns, group_concerns, group_hanging}
use Rattle.sap_secure.proofs.Sites.{Around, node, kids_around, proper_body}
use Rattle.sap_secure.proofs.Confined.{Confined, Quiet, Even, quiet_raise, even_raise, child_confined, site_at, body_even}
use Rattle.sap_secure.proofs.Walks.{path, from_raised}
use Rattle.sap_secure.proofs.Over.{nth_does, nth_concerns, covered_by, scene_at}
use Rattle.sap_secure.proofs.Twin.{twin_confined}
use Rattle.sap_secure.proofs.Pairs.{Pair, Paired, falls, block_pair}

nth_once : (g : Group) (m : ℕ) (a : State) → Nth g m a → OnceGroup g → OnceState a
nth_once no_node m a h once = absurd h
nth_once (and_node t g) zero a h once = subst OnceState h once.0
nth_once (and_node t g) (suc m) a h once = nth_once g m a h once.1

module _ (w : World) (laws : Laws w.order) (l : ℕ) where
  -- two runs of a state that is current and low
  abbrev Law : State → Type 0
  Law t = OnceState t → (p n : ℕ) (q : Group) → Around w p q → Nth q n t → (pc : ℕ) (s u : Store) → Holds w s → Holds w u → Low w.order l pc
      → Agree w l s u → Even w (state_concerns w t) s → Even w (state_concerns w t) u → path w l p q s ≡ path w l p q u → child p s ≡ n
      → child p u ≡ n → Low w.order l (level w (own (number_of t)) s) → Pair w l p q (does_state w t p pc s) (does_state w t p pc u)

  lift : (g : Group) (e : ℕ) → Around w e g → ((m : ℕ) (a : State) → Nth g m a → Law a) → OnceGroup g → Paired w l e g (does_child w g e)
  lift g e around laws' once m r s u a nth hs hu low like es eu p here there down =
      rw (nth_does w g e m a nth r s, nth_does w g e m a nth r u)
      (laws' m a nth (nth_once g m a nth once) e m g around nth r s u hs hu low like
      (λ z j d h. es z j d (nth_concerns w g m a nth (owner z) h)) (λ z j d h. eu z j d (nth_concerns w g m a nth (owner z) h)) p here there down)

  mutual
    unfolding does_state scene_at

    state_pair : (t : State) → Law t
    state_pair (state_node e b g) once p n q around self pc s u hs hu low like es eu path here there down =
        let i = site_at w p n e b g q around self in
        block_pair w laws l (scene_at w laws l p n e b g q around self) (OnceGroup g)
        (lift g e (kids_around w i) (λ m a h. group_pair g m a h)) b (proper_body w i) once (node w i).closes pc s u low
        (record { first = hs; second = hu; like = like; path = path; here = here; there = there; low = down; even = body_even w laws l i s es; even2 = body_even w laws l i u eu })

    group_pair : (g : Group) (m : ℕ) (a : State) → Nth g m a → Law a
    group_pair no_node m a h = absurd h
    group_pair (and_node c g) zero a h = subst Law h (state_pair c)
    group_pair (and_node c g) (suc m) a h = group_pair g m a h

  pub paired_by : (g : Group) (e : ℕ) → Around w e g → OnceGroup g → Paired w l e g (does_child w g e)
  paired_by g e around = lift g e around (λ m a h. group_pair g m a h)

-- the root's fall is the body of the current top-level state, after the raises
pub root_nth : (w : World) (hang : ℕ → Bool) (p : ℕ) (g : Group) (n : ℕ) (a : State) (s : Store) → Nth g n a
    → root_fall w hang (λ t. does_state w t p) g n s ≡ does_child w g p n (level w (own (number_of a)) s) (raise w.order hang (level w (own (number_of a)) s) s)
unfolding root_fall does_child
root_nth w hang p no_node n a s h = absurd h
root_nth w hang p (and_node (state_node c b k) g) zero a s h =
    ap (λ x. does_state w (state_node c b k) p (level w (own (number_of x)) s) (raise w.order hang (level w (own (number_of x)) s) s)) h
root_nth w hang p (and_node t g) (suc n) a s h = root_nth w hang p g n a s h

module _ (w : World) (laws : Laws w.order) (l : ℕ) (p : ℕ) (g : Group) (around : Around w p g) (once : OnceGroup g) where
  abbrev Hung : ℕ → Bool
  Hung = root_touches w g

  dyn : OfDynamic w (root_touches w g)
  dyn x h = and_left (is_dynamic w x) _ h

  abbrev Fall : Store → After
  Fall s = root_fall w (root_touches w g) (λ t. does_state w t p) g (child p s) s

  -- a cycle whose first state is high
  side : (m t : ℕ) (a : State) (s : Store) → Nth g m a → child p s ≡ m → Holds w s → High w.order l t
      → High w.order l (level w (own (number_of a)) s) → Even w (group_concerns w g) s
      → Confined w l (raise w.order (root_touches w g) t s) (does_child w g p m t (raise w.order (root_touches w g) t s))
      × (path w l p g (does_child w g p m t (raise w.order (root_touches w g) t s)).store ≡ [])
  side m t a s nth here hs high up ev =
      let r = raise w.order (root_touches w g) t s in
      let hr = holds_raise w s (root_touches w g) t dyn hs in
      let quiet : Quiet w l (group_concerns w g) r =
      quiet_raise w laws l (group_concerns w g) (root_touches w g) t s
      (λ x i. and_from _ _ (and_left (is_dynamic w x) _ i) (or_right (among g x) _ (and_right (is_dynamic w x) _ (group_hanging w p g x i)))) dyn high ev in (
        child_confined w laws l p g around m t r hr high quiet,
        covered_by w laws l g p around m t r a nth hr high quiet (child_raise w.order p (root_touches w g) t s
            ∙ here) (raise_high w laws l s (root_touches w g) t (own (number_of a)) up),
      )

  lower : (m k : ℕ) (a : State) (s u : Store) → Nth g m a → (c d : ℕ) → child p s ≡ m → child p u ≡ k → level w (own (number_of a)) s ≡ c
      → m ≡ k → c ≡ d → Low w.order l c → Holds w s → Holds w u → Agree w l s u → Even w (group_concerns w g) s
      → Even w (group_concerns w g) u → path w l p g s ≡ path w l p g u
      → Pair w l p g (does_child w g p m c (raise w.order (root_touches w g) c s)) (does_child w g p k d (raise w.order (root_touches w g) d u))
  lower m k a s u nth c d here there mine mk cd low hs hu like es eu e =
      let r = raise w.order (root_touches w g) c s in
      let v = raise w.order (root_touches w g) c u in
      let here' : child p r ≡ m = child_raise w.order p (root_touches w g) c s ∙ here in
      let there' : child p v ≡ m = child_raise w.order p (root_touches w g) c u ∙ there ∙ sym mk in
      let res = paired_by w laws l g p around once m c r v a nth (holds_raise w s (root_touches w g) c dyn hs) (holds_raise w u (root_touches w g) c dyn hu) low
      (agree_raised w laws l s u (root_touches w g) c c dyn like (refl, λ _. refl))
      (even_raise w laws l (group_concerns w g) (root_touches w g) s c dyn es) (even_raise w laws l (group_concerns w g) (root_touches w g) u c dyn eu)
      (rw (here', there') (from_raised w laws l g m m s u (root_touches w g) c c (refl, λ _. refl) (rw (here, there, ← mk) at e)))
      here' there' (raise_low w laws l s (root_touches w g) c (own (number_of a)) low (subst (λ v. Low w.order l v) (sym mine) low)) in
      subst (λ n. Pair w l p g (does_child w g p m c r) (does_child w g p n d (raise w.order (root_touches w g) d u))) mk
      (subst (λ n. Pair w l p g (does_child w g p m c r) (does_child w g p m n (raise w.order (root_touches w g) n u))) cd res)

  -- with a current child in both
  fall_with : (s u : Store) (a b : State) → Nth g (child p s) a → Nth g (child p u) b → Holds w s → Holds w u → Agree w l s u
      → Even w (group_concerns w g) s → Even w (group_concerns w g) u → path w l p g s ≡ path w l p g u → Pair w l p g (Fall s) (Fall u)
  fall_with s u a b na nb hs hu like es eu e =
      let both = falls w laws l p (child p s) (child p u) g s u a b refl refl na nb e in
      rw (root_nth w (root_touches w g) p g (child p s) a s na, root_nth w (root_touches w g) p g (child p u) b u nb) (
      elim (cases_Bool (w.order.le (level w (own (number_of a)) s) l)) [
        | inl low ↦ lower (child p s) (child p u) a s u na (level w (own (number_of a)) s) (level w (own (number_of b)) u) refl refl refl
            (both.1 low) (both.0.1 low) low hs hu like es eu e
        | inr high ↦ (
            let high' : High w.order l (level w (own (number_of b)) u) = sym both.0.0 ∙ high in
            let x = side (child p s) (level w (own (number_of a)) s) a s na refl hs high high es in
            let y = side (child p u) (level w (own (number_of b)) u) b u nb refl hu high' high' eu in
            record {
              twin = twin_confined w laws l _ _ _ _ (agree_raised w laws l s u (root_touches w g) _ _ dyn like both.0) x.0 y.0;
              path = x.1 ∙ sym y.1;
            })
      ])

module _ (w : World) (laws : Laws w.order) (l : ℕ) where
  pub fall_pair : (p : ℕ) (g : Group) (around : Around w p g) (once : OnceGroup g) (s u : Store) → Holds w s → Holds w u → Agree w l s u
      → Even w (group_concerns w g) s → Even w (group_concerns w g) u → path w l p g s ≡ path w l p g u
      → Pair w l p g (root_fall w (root_touches w g) (λ t. does_state w t p) g (child p s) s) (root_fall w (root_touches w g) (λ t. does_state w t p) g (child p u) u)
  unfolding root_fall
  fall_pair p no_node around once s u hs hu like es eu e = record { twin = record { same = like; refused = refl }; path = e }
  fall_pair p (and_node t g) around once s u hs hu like es eu e =
      let some : 0 < children w p = rw around.count (omega arith) in
      let a = nth_of (and_node t g) (child p s) (rw around.count at (hs.seated p some)) in
      let b = nth_of (and_node t g) (child p u) (rw around.count at (hu.seated p some)) in
      fall_with w laws l p (and_node t g) around once s u a.0 b.0 a.1 b.1 hs hu like es eu e
