-- The states of a tree by their places.
use Rattle.sap_lemmas.proofs.Common.{◌≡◌, ℕ, zero, suc, ◌+◌, ◌<◌, true, refl, sym, ap, ◌∙◌, subst, arith, nat_eq, inl, inr, cases_Bool, eqb-true}
use Rattle.sap_meaning.specs.Program.{World, children, place, State, state_node, Group, no_node, and_node}
use Rattle.sap_meaning.specs.Touches.{among}
pub use Rattle.sap_meaning.specs.Fine.{Nth}
use Rattle.sap_meaning.specs.Fine.{FineState, FineGroup, size, number_of}

pub nth_size : (g : Group) (n : ℕ) (a : State) → Nth g n a → n < size g
nth_size no_node n a h = absurd h
nth_size (and_node b g) zero a h = omega arith
nth_size (and_node b g) (suc n) a h = let k = nth_size g n a h in omega arith

pub nth_of : (g : Group) (n : ℕ) → n < size g → (a : State) × Nth g n a
nth_of no_node n h = absurd (omega arith)
nth_of (and_node b g) zero h = (b, refl)
nth_of (and_node b g) (suc n) h = let k : n < size g = omega arith in nth_of g n k

pub nth_same : (g : Group) (n : ℕ) (a b : State) → Nth g n a → Nth g n b → a ≡ b
nth_same no_node n a b h k = absurd h
nth_same (and_node c g) zero a b h k = sym h ∙ k
nth_same (and_node c g) (suc n) a b h k = nth_same g n a b h k

pub among_nth : (g : Group) (x : ℕ) → among g x ≡ true → (n : ℕ) × (a : State) × Nth g n a × (number_of a ≡ x)
among_nth no_node x h = cc
among_nth (and_node (state_node s b k) g) x h = elim (cases_Bool (nat_eq x s)) [
  | inl e ↦ (zero, state_node s b k, refl, sym (eqb-true x s e))
  | inr e ↦ (let r = among_nth g x (rw e at h) in (suc r.0, r.1, r.2, r.3))
]

module _ (w : World) where
  pub nth_fine : (q : Group) (n : ℕ) (g : Group) (m : ℕ) (a : State) → Nth g m a → FineGroup w q n g → FineState w q (n + m) a
  nth_fine q n no_node m a h fine = absurd h
  nth_fine q n (and_node b g) zero a h fine = let e : n + 0 ≡ n = omega arith in rw e (subst (λ t. FineState w q n t) h fine.0)
  nth_fine q n (and_node b g) (suc m) a h fine = let e : n + suc m ≡ suc n + m = omega arith in rw e (nth_fine q (suc n) g m a h fine.1)

  pub state_place : (q : Group) (n : ℕ) (a : State) → FineState w q n a → place w (number_of a) ≡ n
  state_place q n (state_node s b g) fine = fine.0.placed

  -- the place of a state of a group
  pub placed : (q : Group) (x : ℕ) → FineGroup w q 0 q → among q x ≡ true → (a : State) × Nth q (place w x) a × (number_of a ≡ x)
  placed q x fine h =
      let r = among_nth q x h in
      let e : 0 + r.0 ≡ r.0 = omega arith in
      let f = state_place q (0 + r.0) r.1 (nth_fine q 0 q r.0 r.1 r.2 fine) in
      let g : place w x ≡ r.0 = sym (ap (λ y. place w y) r.3) ∙ f ∙ e in
      (r.1, subst (λ n. Nth q n r.1) (sym g) r.2, r.3)

  pub lands : (p : ℕ) (q : Group) → FineGroup w q 0 q → children w p ≡ size q → (target : ℕ) → among q target ≡ true → place w target < children w p
  lands p q fine count target h = let r = placed q target fine h in rw count (nth_size q (place w target) r.0 r.1)
