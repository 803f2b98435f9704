-- A state whose level is not at or below l, and all below it, leave the active path ended: by induction over the tree.
use Rattle.sap_lemmas.proofs.Common.{◌≡◌, ℕ, zero, suc, true, [], sym, ap, ◌∙◌, subst, nat_eq, neither_left, neither_right, test_of_same, or_left, or_right}
use Rattle.sap_lattice.specs.Order.{Laws}
use Rattle.sap_meaning.specs.Prelude.{World, below, Block, State, state_node, Group, no_node, and_node, own, Store, owner, level, child, Holds, does_state, does_child, High, inside, number_of, block_retags}
use Rattle.sap_meaning.proofs.Trees.{Nth}
use Rattle.sap_secure.proofs.Concerns.{state_concerns, group_concerns}
use Rattle.sap_secure.proofs.Sites.{Around, node, own_fine, kids_around, proper_body}
use Rattle.sap_secure.proofs.Frames.{Kept, child_under}
use Rattle.sap_secure.proofs.Confined.{Quiet, body_quiet, site_at, child_confined, kids_hold}
use Rattle.sap_secure.proofs.Walks.{path, path_high}
use Rattle.sap_secure.proofs.Still.{Covered, Scene, block_still}

pub nth_inside : (g : Group) (n e : ℕ) (b : Block) (k : Group) → Nth g n (state_node e b k) → inside g e ≡ true
nth_inside no_node n e b k h = absurd h
nth_inside (and_node t g) zero e b k h = subst (λ x. inside (and_node x g) e ≡ true) (sym h) (or_left (nat_eq e e) _ (test_of_same e))
nth_inside (and_node (state_node c a j) g) (suc n) e b k h = or_right (nat_eq e c) _ (or_right (inside j e) _ (nth_inside g n e b k h))

pub nth_below : (g : Group) (n e : ℕ) (b : Block) (k : Group) → Nth g n (state_node e b k) → (x : ℕ) → inside k x ≡ true → inside g x ≡ true
nth_below no_node n e b k h x i = absurd h
nth_below (and_node t g) zero e b k h x i = subst (λ y. inside (and_node y g) x ≡ true) (sym h) (or_right (nat_eq x e) _ (or_left _ _ i))
nth_below (and_node (state_node c a j) g) (suc n) e b k h x i = or_right (nat_eq x c) _ (or_right (inside j x) _ (nth_below g n e b k h x i))

pub nth_does : (w : World) (g : Group) (p m : ℕ) (a : State) → Nth g m a → (pc : ℕ) (s : Store) → does_child w g p m pc s ≡ does_state w a p pc s
unfolding does_child
nth_does w no_node p m a h pc s = absurd h
nth_does w (and_node c g) p zero a h pc s = ap (λ t. does_state w t p pc s) h
nth_does w (and_node c g) p (suc m) a h pc s = nth_does w g p m a h pc s

pub nth_concerns : (w : World) (g : Group) (m : ℕ) (a : State) → Nth g m a → (x : ℕ) → state_concerns w a x ≡ true → group_concerns w g x ≡ true
nth_concerns w no_node m a h x i = absurd h
nth_concerns w (and_node c g) zero a h x i = or_left _ _ (subst (λ t. state_concerns w t x ≡ true) (sym h) i)
nth_concerns w (and_node c g) (suc m) a h x i = or_right (state_concerns w c x) _ (nth_concerns w g m a h x i)

-- the children of a state leave its level and its group's current child alone
pub kids_kept : (w : World) (p n e : ℕ) (b : Block) (g q : Group) (around : Around w p q) (self : Nth q n (state_node e b g))
    → (m r : ℕ) (s : Store) → Kept w (own e) p s (does_child w g e m r s).store
kids_kept w p n e b g q around self m r s =
    let i = site_at w p n e b g q around self in
    let here = around.apart e (nth_inside q n e b g self) in
    child_under w e p (node w i).kind g e g 0 (own_fine w i).1
    (λ x h. ((kids_around w i).apart x h, around.apart x (nth_below q n e b g self x h)))
    (λ x h. h) (neither_left (nat_eq p e) (below w e p) here) (neither_right (block_retags b e) _ (node w i).retags_itself) m r s

module _ (w : World) (laws : Laws w.order) (l : ℕ) where
  -- in a high context, a state whose level is high, and current
  abbrev Law : State → Type 0
  Law t = (p n : ℕ) (q : Group) → Around w p q → Nth q n t → (pc : ℕ) (s : Store) → Holds w s → High w.order l pc
      → Quiet w l (state_concerns w t) s → child p s ≡ n → High w.order l (level w (own (number_of t)) s) → path w l p q (does_state w t p pc s).store ≡ []

  lift : (g : Group) (e : ℕ) → Around w e g → ((m : ℕ) (a : State) → Nth g m a → Law a) → Covered w l e g (does_child w g e)
  lift g e around laws' m r s a nth holds high quiet here up =
      rw (nth_does w g e m a nth r s) (laws' m a nth e m g around nth r s holds high (λ z j h. quiet z j (nth_concerns w g m a nth (owner z) h)) here up)

  scene_with : (p n e : ℕ) (b : Block) (g q : Group) (around : Around w p q) (self : Nth q n (state_node e b g)) → Covered w l e g (does_child w g e) → Scene w l
  scene_with p n e b g q around self covered = record {
    site = site_at w p n e b g q around self;
    entering = child_confined w laws l e g (kids_around w (site_at w p n e b g q around self));
    holding = kids_hold w laws l e g (kids_around w (site_at w p n e b g q around self));
    kept = kids_kept w p n e b g q around self;
    covered = covered;
  }

  mutual
    unfolding does_state scene_with

    state_over : (t : State) → Law t
    state_over (state_node e b g) p n q around self pc s holds high quiet here up =
        let i = site_at w p n e b g q around self in
        let c = scene_with p n e b g q around self (lift g e (kids_around w i) (λ m a h. group_over g m a h)) in
        block_still w laws l c b (proper_body w i) (node w i).closes pc s holds high (body_quiet w laws l i s quiet) here
        (record { own_high = λ h. up; kid_high = λ a k low h. cc })
        ∙ path_high w laws l p n q (state_node e b g) s self here up

    group_over : (g : Group) (m : ℕ) (a : State) → Nth g m a → Law a
    group_over no_node m a h = absurd h
    group_over (and_node c g) zero a h = subst Law h (state_over c)
    group_over (and_node c g) (suc m) a h = group_over g m a h

  pub covered_by : (g : Group) (e : ℕ) → Around w e g → Covered w l e g (does_child w g e)
  covered_by g e around = lift g e around (λ m a h. group_over g m a h)

-- a state in its group, with its children as they are
unfoldable pub scene_at : (w : World) (laws : Laws w.order) (l p n e : ℕ) (b : Block) (g q : Group) (around : Around w p q) (self : Nth q n (state_node e b g)) → Scene w l
scene_at w laws l p n e b g q around self = record {
  site = site_at w p n e b g q around self;
  entering = child_confined w laws l e g (kids_around w (site_at w p n e b g q around self));
  holding = kids_hold w laws l e g (kids_around w (site_at w p n e b g q around self));
  kept = kids_kept w p n e b g q around self;
  covered = covered_by w laws l g e (kids_around w (site_at w p n e b g q around self));
}
