-- The active path from a parent down, as the list of its states, as long as their levels are at or below l.
use Rattle.sap_lemmas.proofs.Common.{◌≡◌, ℕ, zero, suc, ◌<◌, ◌≤◌, Bool, true, false, ◌&&◌, ◌||◌, List, [], ◌∷◌, refl, sym, ap, ◌∙◌, subst, arith, nat_eq, nat_lt, nat_le, inl, inr, ◌⊎◌, if◌then◌else◌, cases_Bool, false_from_ne_true, or_cases, or_from, or_left, or_right, common_steps, and_left, and_right, test_of_same}
use Rattle.sap_meaning.proofs.FineLemmas.{inside_among}
use Rattle.sap_lattice.specs.Order.{Laws}
use Rattle.sap_meaning.specs.Prelude.{World, is_dynamic, is_state, authority, last, Block, State, state_node, Group, no_node, and_node, Slot, own, Store, home, level, child, raised, raise, held, Holds, among, FineGroup, inside, number_of, Low, High}
use Rattle.sap_meaning.proofs.Slots.{level_raise, child_raise}
use Rattle.sap_meaning.proofs.Trees.{Nth}
use Rattle.sap_secure.proofs.Levels.{Like, high_above, high_left, high_right}
use Rattle.sap_secure.proofs.Agreeing.{Agree, raise_high}

-- a current child, by its place, with its level
pub record Stop : Type 0 where
  pub index : ℕ
  pub level : ℕ

abbrev pub stop : ℕ → ℕ → Stop
stop n t = record { index = n; level = t }

-- the n-th of a group, whose place is i, and the current states below it
abbrev pub from : World → ℕ → Group → ℕ → ℕ → Store → List Stop
from w l no_node n i s = []
from w l (and_node (state_node c b k) g) zero i s = if w.order.le (level w (own c) s) l then stop i (level w (own c) s) ∷ from w l k (child c s) (child c s) s else []
from w l (and_node t g) (suc n) i s = from w l g n i s

abbrev pub path : World → ℕ → ℕ → Group → Store → List Stop
path w l p g s = from w l g (child p s) (child p s) s

-- x stands below a state of the group
abbrev pub deeper : Group → ℕ → Bool
deeper no_node x = false
deeper (and_node (state_node c b k) g) x = inside k x || deeper g x

-- the same path where levels and children inside are the same
pub from_same : (w : World) (l : ℕ) (g : Group) (n i : ℕ) (s t : Store)
    → ((x : ℕ) → inside g x ≡ true → (level w (own x) s ≡ level w (own x) t) × (child x s ≡ child x t)) → from w l g n i s ≡ from w l g n i t
from_same w l no_node n i s t f = refl
from_same w l (and_node (state_node c b k) g) zero i s t f =
    let e = f c (or_left (nat_eq c c) _ (test_of_same c)) in
    rw (e.0, e.1) (ap (λ u. if w.order.le (level w (own c) t) l then stop i (level w (own c) t) ∷ u else [])
    (from_same w l k (child c t) (child c t) s t (λ x h. f x (or_right (nat_eq x c) _ (or_left _ _ h)))))
from_same w l (and_node (state_node c b k) g) (suc n) i s t f = from_same w l g n i s t (λ x h. f x (or_right (nat_eq x c) _ (or_right (inside k x) _ h)))

pub nth_among : (g : Group) (n : ℕ) (a : State) → Nth g n a → among g (number_of a) ≡ true
nth_among no_node n a h = absurd h
nth_among (and_node (state_node c b k) g) zero a h = or_left (nat_eq (number_of a) c) (among g (number_of a)) (subst (λ x. nat_eq (number_of x) c ≡ true) h (test_of_same c))
nth_among (and_node (state_node c b k) g) (suc n) a h = or_right (nat_eq (number_of a) c) _ (nth_among g n a h)

pub from_nth : (w : World) (l : ℕ) (q : Group) (n i : ℕ) (a : State) (s : Store) → Nth q n a → from w l q n i s ≡ from w l (and_node a no_node) zero i s
from_nth w l no_node n i a s h = absurd h
from_nth w l (and_node (state_node c b k) g) zero i a s h = ap (λ t. from w l (and_node t no_node) zero i s) h
from_nth w l (and_node (state_node c b k) g) (suc n) i a s h = from_nth w l g n i a s h

-- the path from a state that is the n-th
abbrev pub one : World → ℕ → ℕ → ℕ → Group → Store → List Stop
one w l n e g s = if w.order.le (level w (own e) s) l then stop n (level w (own e) s) ∷ path w l e g s else []

pub path_here : (w : World) (l p n e : ℕ) (b : Block) (g q : Group) (s : Store) → Nth q n (state_node e b g) → child p s ≡ n → path w l p q s ≡ one w l n e g s
path_here w l p n e b g q s h here = rw here (from_nth w l q n n (state_node e b g) s h)

module _ (w : World) (laws : Laws w.order) (l : ℕ) where
  pub path_high : (p n : ℕ) (q : Group) (a : State) (s : Store) → Nth q n a → child p s ≡ n → High w.order l (level w (own (number_of a)) s) → path w l p q s ≡ []
  path_high p n q (state_node e b g) s h here high = path_here w l p n e b g q s h here ∙ rw high refl

  head_of : (a b : Stop) (u v : List Stop) → a ∷ u ≡ b ∷ v → a ≡ b
  head_of a b u v e = cc

  tail_of : (a b : Stop) (u v : List Stop) → a ∷ u ≡ b ∷ v → u ≡ v
  tail_of a b u v e = cc

  -- a path is ended, or begins with its number
  begins : (g : Group) (n i : ℕ) (s : Store) → (from w l g n i s ≡ []) ⊎ ((v : ℕ) × (u : List Stop) × (from w l g n i s ≡ stop i v ∷ u))
  begins no_node n i s = inl refl
  begins (and_node (state_node c b k) g) zero i s = elim (cases_Bool (w.order.le (level w (own c) s) l)) [
    | inl h ↦ inr (level w (own c) s, from w l k (child c s) (child c s) s, rw h refl)
    | inr h ↦ inl (rw h refl)
  ]
  begins (and_node (state_node c b k) g) (suc n) i s = begins g n i s

  -- equal paths have the same current child, or both are ended
  pub path_cases : (g : Group) (p q : ℕ) (s t : Store) → path w l p g s ≡ path w l q g t → (child p s ≡ child q t) ⊎ ((path w l p g s ≡ []) × (path w l q g t ≡ []))
  path_cases g p q s t e = elim (begins g (child p s) (child p s) s) [
    | inl a ↦ inr (a, sym e ∙ a)
    | inr a ↦ elim (begins g (child q t) (child q t) t) [
      | inl b ↦ inr (e ∙ b, b)
      | inr b ↦ inl (ap (λ (x : Stop). x.index) (head_of _ _ _ _ (sym a.2 ∙ e ∙ b.2)))
    ]
  ]

  from_ended : (g : Group) (n i : ℕ) (s : Store) (h : ℕ → Bool) (a : ℕ) → from w l g n i s ≡ [] → from w l g n i (raise w.order h a s) ≡ []
  from_ended no_node n i s h a p = refl
  from_ended (and_node (state_node c b k) g) zero i s h a p = elim (cases_Bool (w.order.le (level w (own c) s) l)) [
    | inl x ↦ (let p' = rw x at p in cc)
    | inr x ↦ (let y = raise_high w laws l s h a (own c) x in rw y refl)
  ]
  from_ended (and_node (state_node c b k) g) (suc n) i s h a p = from_ended g n i s h a p

  -- one level of the next lemma
  path_step : (k : Group) (c : ℕ) (s t r u : Store)
      → ((n i : ℕ) → from w l k n i s ≡ from w l k n i t → from w l k n i r ≡ from w l k n i u)
      → ((n i : ℕ) → from w l k n i s ≡ [] → from w l k n i r ≡ []) → ((n i : ℕ) → from w l k n i t ≡ [] → from w l k n i u ≡ [])
      → child c r ≡ child c s → child c u ≡ child c t → path w l c k s ≡ path w l c k t → path w l c k r ≡ path w l c k u
  path_step k c s t r u f g h x y p = rw (x, y) (elim (path_cases k c c s t p) [
    | inl e ↦ rw (← e) (f (child c s) (child c s) (rw (← e) at p))
    | inr e ↦ g _ _ e.0 ∙ sym (h _ _ e.1)
  ])

  same_from : (v z i : ℕ) → Like w.order l v z → (m n : List Stop) → m ≡ n → (if w.order.le v l then stop i v ∷ m else []) ≡ (if w.order.le z l then stop i z ∷ n else [])
  same_from v z i f m n e = elim (cases_Bool (w.order.le v l)) [
    | inl h ↦ (let d = f.1 h in rw (h, sym f.0 ∙ h) cc)
    | inr h ↦ rw (h, sym f.0 ∙ h) refl
  ]

  pub like_raised : (s t : Store) (h : ℕ → Bool) (a b : ℕ) (z : Slot) → Like w.order l a b → Like w.order l (level w z s) (level w z t)
      → Like w.order l (level w z (raise w.order h a s)) (level w z (raise w.order h b t))
  like_raised s t h a b z f e = rw (level_raise w z h a s, level_raise w z h b t) (elim (cases_Bool (raised h (home w z))) [ inl i ↦ rw i joined | inr i ↦ rw i e ])
    where
      joined : Like w.order l (w.order.join (level w z s) a) (w.order.join (level w z t) b)
      joined = elim (cases_Bool (w.order.le a l)) [
        | inl x ↦ elim (cases_Bool (w.order.le (level w z s) l)) [
          | inl y ↦ (let p = e.1 y in let q = f.1 x in rw (p, q) (refl, λ _. refl))
          | inr y ↦ (let p = high_left w.order laws l _ a y in let q = high_left w.order laws l _ b (sym e.0 ∙ y) in (p ∙ sym q, λ no. cc))
        ]
        | inr x ↦ (let p = high_right w.order laws l (level w z s) a x in let q = high_right w.order laws l (level w z t) b (sym f.0 ∙ x) in (p ∙ sym q, λ no. cc))
      ]

  -- the same path from what is settled: the same children, and the same levels of dynamic states
  pub from_settled : (g : Group) (n i : ℕ) (s t : Store) → Agree w l s t → Holds w s → Holds w t
      → ((x : ℕ) → inside g x ≡ true → held w (own x) ≡ true) → ((x : ℕ) → inside g x ≡ true → child x s ≡ child x t)
      → ((x : ℕ) → inside g x ≡ true → is_dynamic w x ≡ true → level w (own x) s ≡ level w (own x) t) → from w l g n i s ≡ from w l g n i t
  from_settled no_node n i s t like hs ht held' f d = refl
  from_settled (and_node (state_node c b k) g) zero i s t like hs ht held' f d =
      same_from (level w (own c) s) (level w (own c) t) i (alike (cases_Bool (is_dynamic w c))) _ _
      (rw (f c here) (from_settled k (child c t) (child c t) s t like hs ht (λ x h. held' x (or_right (nat_eq x c) _ (or_left _ _ h)))
      (λ x h. f x (or_right (nat_eq x c) _ (or_left _ _ h))) (λ x h. d x (or_right (nat_eq x c) _ (or_left _ _ h)))))
    where
      here : inside (and_node (state_node c b k) g) c ≡ true
      here = or_left (nat_eq c c) _ (test_of_same c)

      alike : ((is_dynamic w c ≡ true) ⊎ (is_dynamic w c ≡ false)) → Like w.order l (level w (own c) s) (level w (own c) t)
      alike (inl y) = let e = d c here y in (ap (λ v. w.order.le v l) e, λ _. e)
      alike (inr y) = elim (cases_Bool (w.order.le (authority w c) l)) [
        | inl a ↦ (let e = like.tags (own c) (held' c here) y a in (ap (λ v. w.order.le v l) e, λ _. e))
        | inr a ↦ (let u = high_above w.order laws l _ _ (hs.above (own c) (held' c here) y) a in
            let v = high_above w.order laws l _ _ (ht.above (own c) (held' c here) y) a in (u ∙ sym v, λ z. cc))
      ]
  from_settled (and_node (state_node c b k) g) (suc n) i s t like hs ht held' f d =
      from_settled g n i s t like hs ht (λ x h. held' x (or_right (nat_eq x c) _ (or_right (inside k x) _ h)))
      (λ x h. f x (or_right (nat_eq x c) _ (or_right (inside k x) _ h))) (λ x h. d x (or_right (nat_eq x c) _ (or_right (inside k x) _ h)))

  -- the same path where only states that are not deeper, and the current one only if it is high, change
  pub from_quiet : (g : Group) (n i : ℕ) (s t : Store) → ((x : ℕ) → child x s ≡ child x t)
      → ((a : State) → Nth g n a → Like w.order l (level w (own (number_of a)) s) (level w (own (number_of a)) t))
      → ((x : ℕ) → deeper g x ≡ true → level w (own x) s ≡ level w (own x) t) → from w l g n i s ≡ from w l g n i t
  from_quiet no_node n i s t f e d = refl
  from_quiet (and_node (state_node c b k) g) zero i s t f e d =
      same_from (level w (own c) s) (level w (own c) t) i (e (state_node c b k) refl) _ _
      (rw (f c) (from_same w l k (child c t) (child c t) s t (λ x h. (d x (or_left _ _ h), f x))))
  from_quiet (and_node (state_node c b k) g) (suc n) i s t f e d = from_quiet g n i s t f e (λ x h. d x (or_right (inside k x) _ h))

  -- two paths that are the same and begin
  pub heads : (n m e c : ℕ) (g k : Group) (s t : Store) → one w l n e g s ≡ one w l m c k t → Low w.order l (level w (own e) s) → (n ≡ m)
      × (level w (own e) s ≡ level w (own c) t) × (path w l e g s ≡ path w l c k t)
  heads n m e c g k s t p h = elim (cases_Bool (w.order.le (level w (own c) t) l)) [
    | inl y ↦ (let p' = rw (h, y) at p in let z = head_of _ _ _ _ p' in (ap (λ (x : Stop). x.index) z, ap (λ (x : Stop). x.level) z, tail_of _ _ _ _ p'))
    | inr y ↦ (let p' = rw (h, y) at p in cc)
  ]

  pub heads_low : (n m e c : ℕ) (g k : Group) (s t : Store) → one w l n e g s ≡ one w l m c k t → w.order.le (level w (own e) s) l ≡ w.order.le (level w (own c) t) l
  heads_low n m e c g k s t p = elim (cases_Bool (w.order.le (level w (own e) s) l)) [
    | inl h ↦ (let z = (heads n m e c g k s t p h).1 in ap (λ v. w.order.le v l) z)
    | inr h ↦ elim (cases_Bool (w.order.le (level w (own c) t) l)) [
      | inl y ↦ (let p' = rw (h, y) at p in cc)
      | inr y ↦ h ∙ sym y
    ]
  ]

  -- paths stay equal under raises by levels that are equal or both high
  pub from_raised : (g : Group) (n i : ℕ) (s t : Store) (h : ℕ → Bool) (a b : ℕ) → Like w.order l a b → from w l g n i s ≡ from w l g n i t
      → from w l g n i (raise w.order h a s) ≡ from w l g n i (raise w.order h b t)
  from_raised no_node n i s t h a b f p = refl
  from_raised (and_node (state_node c q k) g) zero i s t h a b f p = elim (cases_Bool (w.order.le (level w (own c) s) l)) [
    | inl x ↦ elim (cases_Bool (w.order.le (level w (own c) t) l)) [
      | inl y ↦ (
          let p' = rw (x, y) at p in
          let lev = ap (λ (z : Stop). z.level) (head_of _ _ _ _ p') in
          let up = like_raised s t h a b (own c) f (x ∙ sym y, λ _. lev) in
          let rest = path_step k c s t (raise w.order h a s) (raise w.order h b t) (λ n i. from_raised k n i s t h a b f)
          (λ n i. from_ended k n i s h a) (λ n i. from_ended k n i t h b) (child_raise w.order c h a s) (child_raise w.order c h b t) (tail_of _ _ _ _ p') in
          same_from (level w (own c) (raise w.order h a s)) (level w (own c) (raise w.order h b t)) i up _ _ rest)
      | inr y ↦ (let p' = rw (x, y) at p in cc)
    ]
    | inr x ↦ elim (cases_Bool (w.order.le (level w (own c) t) l)) [
      | inl y ↦ (let p' = rw (x, y) at p in cc)
      | inr y ↦ (let x' = raise_high w laws l s h a (own c) x in let y' = raise_high w laws l t h b (own c) y in rw (x', y') refl)
    ]
  ]
  from_raised (and_node (state_node c q k) g) (suc n) i s t h a b f p = from_raised g n i s t h a b f p

-- a state below one of a group is none of the group
module _ (w : World) where
  pub deeper_inside : (g : Group) (x : ℕ) → deeper g x ≡ true → inside g x ≡ true
  deeper_inside no_node x h = h
  deeper_inside (and_node (state_node c b k) g) x h =
      or_right (nat_eq x c) _ (elim (or_cases (inside k x) _ h) [ inl i ↦ or_left _ _ i | inr i ↦ or_right (inside k x) _ (deeper_inside g x i) ])

  pub deeper_not_among : (q : Group) (n : ℕ) (g : Group) → FineGroup w q n g → (x : ℕ) → deeper g x ≡ true → among g x ≡ false
  deeper_not_among q n no_node fine x h = refl
  deeper_not_among q n (and_node (state_node c b k) g) fine x h = elim (or_cases (inside k x) _ h) [
    | inl i ↦ (
        let y = and_right (is_state w x) _ (sym (fine.0.0.numbers x) ∙ i) in
        or_from _ _ (after c x _ y) (false_from_ne_true _ (λ j. later c x (last w c) y (fine.2 x (inside_among g x j)))))
    | inr i ↦ or_from _ _ (beyond x c (last w c) fine.0.0.itself (fine.2 x (deeper_inside g x i))) (deeper_not_among q (suc n) g fine.1 x i)
  ]
    where
      after : (c x : ℕ) (a : Bool) → (nat_lt c x && a) ≡ true → nat_eq x c ≡ false
      after c x a h = let k = and_left (nat_lt c x) a h in grind (arith, common_steps)

      later : (c x m : ℕ) → (nat_lt c x && nat_le x m) ≡ true → m < x → ⊥
      later c x m h k = let j = and_right (nat_lt c x) _ h in grind (arith, common_steps)

      beyond : (x c m : ℕ) → c ≤ m → m < x → nat_eq x c ≡ false
      beyond x c m h k = grind (arith, common_steps)
