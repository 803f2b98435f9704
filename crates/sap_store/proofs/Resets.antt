-- Resetting one state after another, and giving one input after another.
use Rattle.std.proofs.lemmas.Bool.{cond-false, cond_both}
use Rattle.sap_lemmas.proofs.Common.{◌≡◌, ℕ, zero, suc, ◌+◌, ◌<◌, ◌≤◌, Bool, true, false, ◌&&◌, ◌||◌, List, [], ◌∷◌, length, get_or, refl, sym, ap, ◌∙◌, arith, nat_eq, nat_lt, if◌then◌else◌, inl, inr, nat_le, cases_Bool, lt-ltb, le-ltb, ltb-true, leb-true, le-leb, eqb-true, common_steps, and_false, and_true, get_or_past}
use Rattle.sap_meaning.specs.Prelude.{World, Entity, entity, nothing, kind_is_input, root, is_input, is_state, is_dynamic, last, below, Slot, own, start, next, start_whole, next_whole, Store, owner, same_slot, put_number, put_level, put_child, lowered, reset, Tagged, inputs_before, given, at_inputs, set_inputs}
use Rattle.sap_store.specs.Passes.{reset_one, given_one}
use Rattle.sap_store.proofs.Stored.{store_same}

module _ (w : World) (target : ℕ) where
  -- the states before number k are reset
  unfoldable pub reset_to : (k : ℕ) → Store → Store
  reset_to k s = record s {
    level = λ z. if lowered w target z && nat_lt (owner z) k then w.order.bottom else s.level z;
    child = λ p. if nat_eq p target then 0 else if below w target p && nat_lt p k then 0 else s.child p;
  }

  late : (p k : ℕ) → k ≤ target + 1 → (below w target p && nat_lt p k) ≡ false
  late p k l = by (is_state w p) (nat_lt target p) (nat_le p (last w target)) (nat_lt p k) apart
    where
      apart : (nat_lt target p && nat_lt p k) ≡ false
      apart = elim (cases_Bool (nat_lt target p)) [
        | inl t ↦ (let i = ltb-true target p t in rw (t, le-ltb p k (omega (arith, i, l))) refl)
        | inr t ↦ rw t refl
      ]

      by : (a b c e : Bool) → (b && e) ≡ false → ((a && (b && c)) && e) ≡ false
      by true true true e h = h
      by _ _ _ e h = refl

  lowered_late : (z : Slot) (k : ℕ) → k ≤ target + 1 → (lowered w target z && nat_lt (owner z) k) ≡ false
  lowered_late (own x) k l = by (below w target x) (is_dynamic w x) (nat_lt x k) (late x k l)
    where
      by : (a b e : Bool) → (a && e) ≡ false → ((a && b) && e) ≡ false
      by true true e h = h
      by _ _ e h = refl
  lowered_late _ k l = refl

  pub reset_none : (s : Store) → put_child target 0 s ≡ reset_to (target + 1) s
  unfolding reset_to put_child
  reset_none s =
      store_same _ _ (λ z. refl)
      (λ z. sym (cond-false _ _ _ (lowered_late z (target + 1) (omega arith))))
      (λ p. ap (λ (n : ℕ). if nat_eq p target then 0 else n) (sym (cond-false _ _ _ (late p (target + 1) (omega arith)))))

  early : (p : ℕ) → (below w target p && nat_lt p (last w target + 1)) ≡ below w target p
  early p = by (is_state w p) (nat_lt target p) (nat_le p (last w target)) (nat_lt p (last w target + 1)) (λ h. let l =
      leb-true p (last w target) h in lt-ltb p (last w target + 1) (omega (arith, l)))
    where
      by : (a b c e : Bool) → (c ≡ true → e ≡ true) → ((a && (b && c)) && e) ≡ (a && (b && c))
      by true true true e h = h refl
      by _ _ _ e h = refl

  lowered_early : (z : Slot) → (lowered w target z && nat_lt (owner z) (last w target + 1)) ≡ lowered w target z
  lowered_early (own x) = by (below w target x) (is_dynamic w x) (nat_lt x (last w target + 1)) (early x)
    where
      by : (a b e : Bool) → (a && e) ≡ a → ((a && b) && e) ≡ (a && b)
      by true true e h = h
      by _ _ e h = refl
  lowered_early _ = refl

  pub reset_all : (s : Store) → reset_to (last w target + 1) s ≡ reset w target s
  unfolding reset_to reset
  reset_all s =
      store_same _ _ (λ z. refl)
      (λ z. ap (λ (q : Bool). if q then w.order.bottom else s.level z) (lowered_early z))
      (λ p. ap (λ (q : Bool). if nat_eq p target then 0 else if q then 0 else s.child p) (early p))

  -- one more
  more : (p k : ℕ) → target < k → k ≤ last w target → (below w target p && nat_lt p (k + 1)) ≡ ((nat_eq p k && is_state w p) || (below w target p && nat_lt p k))
  more p k l h =
      by (is_state w p) (nat_lt target p) (nat_le p (last w target)) (nat_lt p (k + 1)) (nat_eq p k) (nat_lt p k)
      (λ t. let e = eqb-true p k t in (
        lt-ltb target p (omega (arith, e, l)),
        le-leb p (last w target) (omega (arith, e, h)),
        lt-ltb p (k + 1) (omega (arith, e)),
        le-ltb p k (omega (arith, e)),
      ))
      (λ t. grind (arith, common_steps))
    where
      by : (a b c d e f : Bool) → (e ≡ true → (b ≡ true) × (c ≡ true) × (d ≡ true) × (f ≡ false)) → (e ≡ false → d ≡ f)
          → ((a && (b && c)) && d) ≡ ((e && a) || ((a && (b && c)) && f))
      by true b c d true f g h = let r = g refl in rw (r.0, r.1, r.2) refl
      by false b c d true f g h = refl
      by a b c d false f g h = rw (h refl) refl

  more_lowered : (z : Slot) (k : ℕ) → target < k → k ≤ last w target
      → (lowered w target z && nat_lt (owner z) (k + 1)) ≡ ((same_slot z (own k) && (is_state w k && is_dynamic w k)) || (lowered w target z && nat_lt (owner z) k))
  more_lowered (own x) k l h = elim (cases_Bool (nat_eq x k)) [
    | inl t ↦ at_true (eqb-true x k t) t
    | inr t ↦ rw t (ap (λ (q : Bool). (below w target x && is_dynamic w x) && q) (apart t))
  ]
    where
      apart : nat_eq x k ≡ false → nat_lt x (k + 1) ≡ nat_lt x k
      apart t = grind (arith, common_steps)

      by : (a b c d f p : Bool) → (b ≡ true) × (c ≡ true) × (d ≡ true) × (f ≡ false) → (((a && (b && c)) && p) && d) ≡ ((true && (a && p)) || (((a && (b && c)) && p) && f))
      by true b c d f true r = rw (r.0, r.1, r.2) refl
      by true b c d f false r = rw (r.0, r.1) refl
      by false b c d f p r = refl

      at_true : x ≡ k → nat_eq x k ≡ true → ((below w target x && is_dynamic w x) && nat_lt x (k + 1))
          ≡ ((nat_eq x k && (is_state w k && is_dynamic w k)) || ((below w target x && is_dynamic w x) && nat_lt x k))
      at_true e t =
          by (is_state w x) (nat_lt target x) (nat_le x (last w target)) (nat_lt x (k + 1)) (nat_lt x k) (is_dynamic w x)
          (lt-ltb target x (omega (arith, e, l)), le-leb x (last w target) (omega (arith, e, h)), lt-ltb x (k + 1) (omega (arith, e)), le-ltb x k (omega (arith, e)))
          ∙ ap (λ (q : Bool). (q && (is_state w x && is_dynamic w x)) || ((below w target x && is_dynamic w x) && nat_lt x k)) (sym t)
          ∙ ap (λ (y : ℕ). (nat_eq x k && (is_state w y && is_dynamic w y)) || ((below w target x && is_dynamic w x) && nat_lt x k)) e
  more_lowered _ k l h = refl

  either : {A : Type 0} (p q r : Bool) (a b : A) → p ≡ (q || r) → (if q then a else if r then a else b) ≡ (if p then a else b)
  either p true r a b e = rw e refl
  either p false r a b e = rw e refl

  pub reset_next : (s : Store) (k : ℕ) → target < k → k ≤ last w target → reset_one w k (reset_to k s) ≡ reset_to (k + 1) s
  unfolding reset_to reset_one
  reset_next s k l h =
      store_same _ _ (λ z. refl)
      (λ z. either _ _ _ w.order.bottom (s.level z) (more_lowered z k l h))
      (λ p. by p (nat_eq p target) refl (nat_eq p k && is_state w k) (swapped p))
    where
      swapped : (p : ℕ) → (nat_eq p k && is_state w p) ≡ (nat_eq p k && is_state w k)
      swapped p = elim (cases_Bool (nat_eq p k)) [
        | inl t ↦ ap (λ (y : ℕ). nat_eq p k && is_state w y) (eqb-true p k t)
        | inr t ↦ rw t refl
      ]

      by : (p : ℕ) (a : Bool) → nat_eq p target ≡ a → (q : Bool) → (nat_eq p k && is_state w p) ≡ q
          → (if q then 0 else if a then 0 else if below w target p && nat_lt p k then 0 else s.child p)
          ≡ (if a then 0 else if below w target p && nat_lt p (k + 1) then 0 else s.child p)
      by p true e true f = refl
      by p true e false f = refl
      by p false e q f = either _ q _ 0 (s.child p) (more p k l h ∙ ap (λ (b : Bool). b || (below w target p && nat_lt p k)) f)

-- one state

module _ (w : World) (x : ℕ) (s : Store) where
  pub reset_other : is_state w x ≡ false → reset_one w x s ≡ s
  unfolding reset_one
  reset_other e =
      store_same _ _ (λ z. refl)
      (λ z. ap (λ (q : Bool). if q then w.order.bottom else s.level z) (ap (λ (b : Bool). same_slot z (own x) && (b && is_dynamic w x)) e ∙ and_false (same_slot z (own x))))
      (λ p. ap (λ (q : Bool). if q then 0 else s.child p) (ap (λ (b : Bool). nat_eq p x && b) e ∙ and_false (nat_eq p x)))

  pub reset_dynamic : is_state w x ≡ true → is_dynamic w x ≡ true → put_child x 0 (put_level w (own x) w.order.bottom s) ≡ reset_one w x s
  unfolding reset_one put_child put_level
  reset_dynamic e f =
      store_same _ _ (λ z. refl)
      (λ z. ap (λ (q : Bool). if q then w.order.bottom else s.level z)
      (sym (ap (λ (b : Bool). same_slot z (own x) && (b && is_dynamic w x)) e ∙ ap (λ (b : Bool). same_slot z (own x) && b) f ∙ and_true (same_slot z (own x)))))
      (λ p. ap (λ (q : Bool). if q then 0 else s.child p) (sym (ap (λ (b : Bool). nat_eq p x && b) e ∙ and_true (nat_eq p x))))

  pub reset_enforced : is_state w x ≡ true → is_dynamic w x ≡ false → put_child x 0 s ≡ reset_one w x s
  unfolding reset_one put_child
  reset_enforced e f =
      store_same _ _ (λ z. refl)
      (λ z. ap (λ (q : Bool). if q then w.order.bottom else s.level z)
      (sym (ap (λ (b : Bool). same_slot z (own x) && (b && is_dynamic w x)) e ∙ ap (λ (b : Bool). same_slot z (own x) && b) f ∙ and_false (same_slot z (own x)))))
      (λ p. ap (λ (q : Bool). if q then 0 else s.child p) (sym (ap (λ (b : Bool). nat_eq p x && b) e ∙ and_true (nat_eq p x))))

-- inputs

module _ (w : World) (inputs : List Tagged) where
  abbrev early_input : (k x : ℕ) → Bool
  early_input k x = is_input w x && nat_lt x k

  abbrev pub at_first : (k : ℕ) → (new : ℕ → ℕ) → (Slot → ℕ) → Slot → ℕ
  at_first k new old (own x) = if early_input k x then new x else old (own x)
  at_first k new old (start m i) = old (start m i)
  at_first k new old (next m i) = old (next m i)
  at_first k new old (start_whole m) = old (start_whole m)
  at_first k new old (next_whole m) = old (next_whole m)

  -- the inputs before number k are set
  unfoldable pub set_to : (k : ℕ) → Store → Store
  set_to k s = record s {
    number = at_first k (λ x. (given w inputs x).number) s.number;
    level = at_first k (λ x. (given w inputs x).level) s.level;
  }

  pub set_none : (s : Store) → set_to 0 s ≡ s
  unfolding set_to
  set_none s = store_same _ _ (λ z. at (λ x. (given w inputs x).number) s.number z) (λ z. at (λ x. (given w inputs x).level) s.level z) (λ p. refl)
    where
      at : (new : ℕ → ℕ) (old : Slot → ℕ) (z : Slot) → at_first 0 new old z ≡ old z
      at new old (own x) = let f : early_input 0 x ≡ false = by (is_input w x) (nat_lt x 0) (le-ltb x 0 (omega arith)) in ap (λ (q : Bool). if q then new x else old (own x)) f
        where
          by : (a b : Bool) → b ≡ false → (a && b) ≡ false
          by true b e = e
          by false b e = refl
      at new old _ = refl

  input_within : (x : ℕ) → is_input w x ≡ true → x < root w
  input_within x h = elim (cases_Bool (nat_lt x (root w))) [
    | inl t ↦ ltb-true x (root w) t
    | inr t ↦ absurd (let e : kind_is_input (entity w x).kind ≡ false = ap (λ (d : Entity). kind_is_input d.kind) (get_or_past w.entities x nothing (above x (root w) t)) in cc)
  ]
    where
      above : (m n : ℕ) → nat_lt m n ≡ false → n ≤ m
      above m n l = grind (arith, common_steps)

  pub set_all : (s : Store) → set_to (root w) s ≡ set_inputs w inputs s
  unfolding set_to set_inputs
  set_all s = store_same _ _ (λ z. at (λ x. (given w inputs x).number) s.number z) (λ z. at (λ x. (given w inputs x).level) s.level z) (λ p. refl)
    where
      at : (new : ℕ → ℕ) (old : Slot → ℕ) (z : Slot) → at_first (root w) new old z ≡ at_inputs w new old z
      at new old (own x) = ap (λ (q : Bool). if q then new x else old (own x)) (by (is_input w x) refl)
        where
          by : (a : Bool) → is_input w x ≡ a → (a && nat_lt x (root w)) ≡ a
          by true e = rw (lt-ltb x (root w) (input_within x e)) refl
          by false e = refl
      at new old _ = refl

  -- what is no input is passed over
  pub set_skip : (s : Store) (k : ℕ) → is_input w k ≡ false → set_to (k + 1) s ≡ set_to k s
  unfolding set_to
  set_skip s k h = store_same _ _ (λ z. at (λ x. (given w inputs x).number) s.number z) (λ z. at (λ x. (given w inputs x).level) s.level z) (λ p. refl)
    where
      at : (new : ℕ → ℕ) (old : Slot → ℕ) (z : Slot) → at_first (k + 1) new old z ≡ at_first k new old z
      at new old (own x) = ap (λ (q : Bool). if q then new x else old (own x)) (by (nat_eq x k) refl)
        where
          by : (q : Bool) → nat_eq x k ≡ q → (is_input w x && nat_lt x (k + 1)) ≡ (is_input w x && nat_lt x k)
          by true e = let i = eqb-true x k e in rw (ap (is_input w) i ∙ h) refl
          by false e = ap (λ (q : Bool). is_input w x && q) (grind (arith, common_steps))
      at new old _ = refl

  pub set_next : (s : Store) (k : ℕ) → is_input w k ≡ true
      → put_level w (own k) (given w inputs k).level (put_number (own k) (given w inputs k).number (set_to k s)) ≡ set_to (k + 1) s
  unfolding set_to put_level put_number
  set_next s k h = store_same _ _ (λ z. at (λ x. (given w inputs x).number) s.number z) (λ z. at (λ x. (given w inputs x).level) s.level z) (λ p. refl)
    where
      at : (new : ℕ → ℕ) (old : Slot → ℕ) (z : Slot) → (if same_slot z (own k) then new k else at_first k new old z) ≡ at_first (k + 1) new old z
      at new old (own x) = by (nat_eq x k) refl
        where
          by : (q : Bool) → nat_eq x k ≡ q → (if q then new k else if is_input w x && nat_lt x k then new x else old (own x))
              ≡ (if is_input w x && nat_lt x (k + 1) then new x else old (own x))
          by true e = let i = eqb-true x k e in rw (ap (is_input w) i ∙ h, lt-ltb x (k + 1) (omega (arith, i))) (ap new (sym i))
          by false e = ap (λ (q : Bool). if is_input w x && q then new x else old (own x)) (grind (arith, common_steps))
      at new old _ = refl

  pub given_step : (s : Store) (k : ℕ) → given_one w inputs k (set_to k s) ≡ set_to (k + 1) s
  unfolding given_one
  given_step s k =
      cond_both (is_input w k) (put_level w (own k) (given w inputs k).level (put_number (own k) (given w inputs k).number (set_to k s))) (set_to k s)
      (λ (u : Store). u ≡ set_to (k + 1) s) (λ e. set_next s k e) (λ e. sym (set_skip s k e))

  pub given_input : (s : Store) (k : ℕ) → is_input w k ≡ true
      → put_level w (own k) (given w inputs k).level (put_number (own k) (given w inputs k).number s) ≡ given_one w inputs k s
  unfolding given_one
  given_input s k e = rw e refl

  pub given_none : (s : Store) (k : ℕ) → is_input w k ≡ false → given_one w inputs k s ≡ s
  unfolding given_one
  given_none s k e = rw e refl

  pub none : (es : List Entity) → inputs_before es 0 ≡ 0
  none [] = refl
  none (e ∷ es) = refl

  -- how many inputs stand before
  pub before_next : (es : List Entity) (k : ℕ) → k < length es
      → inputs_before es (suc k) ≡ (if kind_is_input (get_or es k nothing).kind then suc (inputs_before es k) else inputs_before es k)
  before_next [] k h = absurd (omega (arith, h))
  before_next (e ∷ es) zero h = by (kind_is_input e.kind)
    where
      by : (q : Bool) → (if q then suc (inputs_before es 0) else inputs_before es 0) ≡ (if q then suc 0 else 0)
      by true = ap (λ (n : ℕ). suc n) (none es)
      by false = none es
  before_next (e ∷ es) (suc k) h = by (kind_is_input e.kind) (kind_is_input (get_or es k nothing).kind) (before_next es k (omega (arith, h)))
    where
      by : (p q : Bool) → inputs_before es (suc k) ≡ (if q then suc (inputs_before es k) else inputs_before es k)
          → (if p then suc (inputs_before es (suc k)) else inputs_before es (suc k))
          ≡ (if q then suc (if p then suc (inputs_before es k) else inputs_before es k) else (if p then suc (inputs_before es k) else inputs_before es k))
      by true true r = ap (λ (n : ℕ). suc n) r
      by true false r = ap (λ (n : ℕ). suc n) r
      by false true r = r
      by false false r = r

  pub before_input : (k : ℕ) → k < root w → is_input w k ≡ true → inputs_before w.entities (suc k) ≡ suc (inputs_before w.entities k)
  before_input k h e = before_next w.entities k h ∙ ap (λ (q : Bool). if q then suc (inputs_before w.entities k) else inputs_before w.entities k) e

  pub before_other : (k : ℕ) → k < root w → is_input w k ≡ false → inputs_before w.entities (suc k) ≡ inputs_before w.entities k
  before_other k h e = before_next w.entities k h ∙ ap (λ (q : Bool). if q then suc (inputs_before w.entities k) else inputs_before w.entities k) e
