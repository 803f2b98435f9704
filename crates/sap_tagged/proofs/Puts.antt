-- What assignments do to numbers that stand for a store.
use Rattle.sap_lemmas.proofs.Common.{◌≡◌, ℕ, zero, suc, ◌+◌, ◌<◌, ◌⊎◌, Bool, true, false, ◌&&◌, refl, sym, ap, ◌∙◌, arith, nat_lt, nat_eq, inl, inr, if◌then◌else◌, cases_Bool, eqb-true, common_steps, true_is_not_false}
use Rattle.std.proofs.lemmas.Bool.{and_right}
use Rattle.sap_maps.specs.Prelude.{Name, set_value, Term}
use Rattle.sap_meaning.specs.Prelude.{is_memory, children, own, start, next, start_whole, next_whole, Store, number, child, same_slot, put_number, put_level, raised, raise}
use Rattle.sap_ir.specs.Prelude.{Going, value_in, Body, stop, act, cases, goto, fall, body_does, follow}
use Rattle.sap_tagged.specs.Prelude.{Key, value_key, tag_key, seat_key, first_key, same, Setting, gives, sweep, Lawful, at, is_value, has_tag, tag_slot, Stands}

-- one assignment

unfoldable pub put_to : Setting → Going → Key → ℕ → Going
put_to d g a x = record { now = set_value g.now (d.name a) x; next = g.next }

pub at_put : (d : Setting) (widths : Name → ℕ) → Lawful d widths → (g : Going) (a b : Key) (x : ℕ) → at d (put_to d g a x) b ≡ (if same b a then x else at d g b)
unfolding put_to
at_put d widths laws g a b x = rw (laws.apart b a) refl

-- memories stay
pub record Kept (d : Setting) (g g' : Going) : Type 0 where
  pub cell : g'.now.cell ≡ g.now.cell
  pub next : g'.next ≡ g.next
  pub first : (m : ℕ) → at d g' (first_key m) ≡ at d g (first_key m)

pub kept_next : (d : Setting) (g g1 g2 : Going) → Kept d g g1 → Kept d g1 g2 → Kept d g g2
kept_next d g g1 g2 a b = record { cell = b.cell ∙ a.cell; next = b.next ∙ a.next; first = λ m. b.first m ∙ a.first m }

pub memory_put : (d : Setting) (g : Going) (a : Key) (x : ℕ) → ((put_to d g a x).now.cell ≡ g.now.cell) × ((put_to d g a x).next ≡ g.next)
unfolding put_to
memory_put d g a x = (refl, refl)

pub kept_put : (d : Setting) (widths : Name → ℕ) → Lawful d widths → (g : Going) (a : Key) (x : ℕ) → ((m : ℕ) → same (first_key m) a ≡ false) → Kept d g (put_to d g a x)
kept_put d widths laws g a x n = record {
  cell = (memory_put d g a x).0;
  next = (memory_put d g a x).1;
  first = λ m. at_put d widths laws g a (first_key m) x ∙ ap (λ (b : Bool). if b then x else at d g (first_key m)) (n m);
}

module _ (d : Setting) (widths : Name → ℕ) (f : Going → Going) (go : Name → Going → Going) where
  abbrev pub does : Body → Going → Going
  does b g = body_does widths f go b g

  pub does_gives : (g : Going) (a : Key) (t : Term Name) (rest : Body)
      → body_does widths f go (gives d a t rest) g ≡ body_does widths f go rest (put_to d g a (value_in widths g t))
  unfolding put_to
  does_gives g a t rest = refl

  pub does_follow : (a b : Body) (g : Going) → body_does widths f go (follow a b) g ≡ body_does widths f go b (body_does widths f go a g)
  does_follow stop b g = refl
  does_follow (act x rest) b g = does_follow rest b _
  does_follow (cases t x y rest) b g = does_follow rest b _
  does_follow (goto x rest) b g = does_follow rest b _
  does_follow (fall rest) b g = does_follow rest b _

-- assignments by number

abbrev pub swept : Setting → (widths : Name → ℕ) → (key : ℕ → Key) → (picks : ℕ → Bool) → (term : ℕ → Term Name) → (x m : ℕ) → Going → Going
swept d widths v h t x zero g = g
swept d widths v h t x (suc m) g = swept d widths v h t (x + 1) m (if h x then put_to d g (v x) (value_in widths g (t x)) else g)

pub does_sweep : (d : Setting) (widths : Name → ℕ) (f : Going → Going) (go : Name → Going → Going) (v : ℕ → Key) (h : ℕ → Bool) (t : ℕ
    → Term Name) (x m : ℕ) (rest : Body) (g : Going)
    → body_does widths f go (sweep d v h t x m rest) g ≡ body_does widths f go rest (swept d widths v h t x m g)
does_sweep d widths f go v h t x zero rest g = refl
does_sweep d widths f go v h t x (suc m) rest g = elim (cases_Bool (h x)) [
  | inl e ↦ rw e (does_gives d widths f go g (v x) (t x) (sweep d v h t (x + 1) m rest) ∙ does_sweep d widths f go v h t (x + 1) m rest _)
  | inr e ↦ rw e (does_sweep d widths f go v h t (x + 1) m rest g)
]

abbrev pub between : ℕ → ℕ → ℕ → Bool
between x m y = nat_lt y (x + m) && nat_lt x (y + 1)

-- the numbers after a sweep
pub record Swept (d : Setting) (v : ℕ → Key) (h : ℕ → Bool) (F : ℕ → ℕ → ℕ) (x m : ℕ) (g g' : Going) : Type 0 where
  pub here : (y : ℕ) → at d g' (v y) ≡ (if h y && between x m y then F y (at d g (v y)) else at d g (v y))
  pub there : (a : Key) → ((y : ℕ) → same a (v y) ≡ false) → at d g' a ≡ at d g a
  pub memory : (g'.now.cell ≡ g.now.cell) × (g'.next ≡ g.next)

outside : (x m y : ℕ) → y ≡ x → between (x + 1) m y ≡ false
outside x m y e = grind (arith, common_steps)

inside_here : (x m y : ℕ) → y ≡ x → between x (suc m) y ≡ true
inside_here x m y e = grind (arith, common_steps)

inside_later : (x m y : ℕ) → nat_eq y x ≡ false → between (x + 1) m y ≡ between x (suc m) y
inside_later x m y e = grind (arith, common_steps)

outside_all : (x y : ℕ) → between x zero y ≡ false
outside_all x y = grind (arith, common_steps)

pub within_all : (y n : ℕ) → nat_lt y n ≡ true → between 0 n y ≡ true
within_all y n h = grind (arith, common_steps)

module _ (d : Setting) (widths : Name → ℕ) (laws : Lawful d widths) (v : ℕ → Key) (one : (y x : ℕ) → same (v y) (v x) ≡ nat_eq y x) (h : ℕ
    → Bool) (t : ℕ → Term Name) (F : ℕ → ℕ → ℕ)
    (Keeps : Going → Type 0) (keep : (y z : ℕ) (g : Going) → Keeps g → Keeps (put_to d g (v y) z))
    (gives_it : (y : ℕ) (g : Going) → Keeps g → h y ≡ true → value_in widths g (t y) ≡ F y (at d g (v y))) where
  swept_step : (x m : ℕ) (g g1 g' : Going) (b : Bool) → h x ≡ b → g1 ≡ (if b then put_to d g (v x) (value_in widths g (t x)) else g)
      → (b ≡ true → value_in widths g (t x) ≡ F x (at d g (v x))) → Swept d v h F (x + 1) m g1 g' → Swept d v h F x (suc m) g g'
  swept_step x m g g1 g' true e p fx r = record {
    here = λ y. r.here y ∙ ap (λ (z : ℕ). if h y && between (x + 1) m y then F y z else z) (now y) ∙ both y (cases_Bool (nat_eq y x));
    there = λ a n. r.there a n ∙ ap (λ (z : Going). at d z a) p ∙ at_put d widths laws g (v x) a _ ∙ ap (λ (b : Bool). if b then value_in widths g (t x) else at d g a) (n x);
    memory = (
      r.memory.0 ∙ ap (λ (z : Going). z.now.cell) p ∙ (memory_put d g (v x) (value_in widths g (t x))).0,
      r.memory.1 ∙ ap (λ (z : Going). z.next) p ∙ (memory_put d g (v x) (value_in widths g (t x))).1,
    );
  }
    where
      now : (y : ℕ) → at d g1 (v y) ≡ (if nat_eq y x then value_in widths g (t x) else at d g (v y))
      now y = ap (λ (z : Going). at d z (v y)) p ∙ at_put d widths laws g (v x) (v y) _ ∙ ap (λ (b : Bool). if b then value_in widths g (t x) else at d g (v y)) (one y x)

      both : (y : ℕ) → (nat_eq y x ≡ true) ⊎ (nat_eq y x ≡ false)
          → (let z = if nat_eq y x then value_in widths g (t x) else at d g (v y) in if h y && between (x + 1) m y then F y z else z)
          ≡ (if h y && between x (suc m) y then F y (at d g (v y)) else at d g (v y))
      both y (inl q) =
          let same_number : y ≡ x = eqb-true y x q in
          let past : (h y && between (x + 1) m y) ≡ false = and_right (h y) (between (x + 1) m y) (outside x m y same_number) in
          let hy : h y ≡ true = ap h same_number ∙ e in
          rw (q, past, hy, inside_here x m y same_number) (fx refl ∙ ap (λ (z : ℕ). F z (at d g (v z))) (sym same_number))
      both y (inr q) = rw (q, inside_later x m y q) refl
  swept_step x m g g1 g' false e p fx r = record {
    here = λ y. r.here y ∙ ap (λ (z : Going). if h y && between (x + 1) m y then F y (at d z (v y)) else at d z (v y)) p ∙ both y (cases_Bool (nat_eq y x));
    there = λ a n. r.there a n ∙ ap (λ (z : Going). at d z a) p;
    memory = (r.memory.0 ∙ ap (λ (z : Going). z.now.cell) p, r.memory.1 ∙ ap (λ (z : Going). z.next) p);
  }
    where
      both : (y : ℕ) → (nat_eq y x ≡ true) ⊎ (nat_eq y x ≡ false)
          → (if h y && between (x + 1) m y then F y (at d g (v y)) else at d g (v y)) ≡ (if h y && between x (suc m) y then F y (at d g (v y)) else at d g (v y))
      both y (inl q) =
          let hy : h y ≡ false = ap h (eqb-true y x q) ∙ e in
          rw hy refl
      both y (inr q) = rw (inside_later x m y q) refl

  pub swept_is : (x m : ℕ) (g : Going) → Keeps g → Swept d v h F x m g (swept d widths v h t x m g)
  swept_is x zero g i = record { here = λ y. none y; there = λ a n. refl; memory = (refl, refl) }
    where
      none : (y : ℕ) → at d g (v y) ≡ (if h y && between x zero y then F y (at d g (v y)) else at d g (v y))
      none y = let e : (h y && between x zero y) ≡ false = and_right (h y) (between x zero y) (outside_all x y) in rw e refl
  swept_is x (suc m) g i =
      let g1 : Going = if h x then put_to d g (v x) (value_in widths g (t x)) else g in
      swept_step x m g g1 _ (h x) refl refl (λ e. gives_it x g i e) (swept_is (x + 1) m g1 (kept (h x)))
    where
      kept : (b : Bool) → Keeps (if b then put_to d g (v x) (value_in widths g (t x)) else g)
      kept true = keep x (value_in widths g (t x)) g i
      kept false = i

-- stores that differ in nothing that memories have
pub record SameMemories (s s' : Store) : Type 0 where
  pub starts : (m i : ℕ) → s'.number (start m i) ≡ s.number (start m i)
  pub start_tags : (m i : ℕ) → s'.level (start m i) ≡ s.level (start m i)
  pub start_tag : (m : ℕ) → s'.level (start_whole m) ≡ s.level (start_whole m)
  pub nexts : (m i : ℕ) → s'.number (next m i) ≡ s.number (next m i)
  pub next_tags : (m i : ℕ) → s'.level (next m i) ≡ s.level (next m i)

pub record Aside (d : Setting) (g g' : Going) : Type 0 where
  pub value : (x : ℕ) → at d g' (value_key x) ≡ at d g (value_key x)
  pub tag : (x : ℕ) → at d g' (tag_key x) ≡ at d g (tag_key x)
  pub seat : (x : ℕ) → at d g' (seat_key x) ≡ at d g (seat_key x)
  pub memory : Kept d g g'

module _ (d : Setting) (g g' : Going) (s : Store) where
  pub stands_changed : (s' : Store) → Stands d g s → Kept d g g' → SameMemories s s'
      → ((x : ℕ) → is_value d.world x ≡ true → at d g' (value_key x) ≡ number (own x) s')
      → ((x : ℕ) → has_tag d.world x ≡ true → at d g' (tag_key x) ≡ d.code (s'.level (tag_slot d.world x)))
      → ((p : ℕ) → 0 < children d.world p → at d g' (seat_key p) ≡ child p s')
      → ((p : ℕ) → 0 < children d.world p → child p s' < children d.world p) → Stands d g' s'
  stands_changed s' r k e vs ts ss cs = record {
    value = vs;
    tag = ts;
    seat = ss;
    seated = cs;
    starts = λ m i q. ap (λ (c : Name → ℕ → ℕ). c (d.name (value_key m)) i) k.cell ∙ r.starts m i q ∙ sym (e.starts m i);
    start_tags = λ m i q t. ap (λ (c : Name → ℕ → ℕ). c (d.name (tag_key m)) i) k.cell ∙ r.start_tags m i q t ∙ ap d.code (sym (e.start_tags m i));
    start_tag = λ m q. k.first m ∙ r.start_tag m q ∙ ap d.code (sym (e.start_tag m));
    nexts = λ m i q. ap (λ (c : Name → ℕ → ℕ). c (d.name (value_key m)) i) k.next ∙ r.nexts m i q ∙ sym (e.nexts m i);
    next_tags = λ m i q t. ap (λ (c : Name → ℕ → ℕ). c (d.name (tag_key m)) i) k.next ∙ r.next_tags m i q t ∙ ap d.code (sym (e.next_tags m i));
  }

  pub stands_aside : Stands d g s → Aside d g g' → Stands d g' s
  stands_aside r a =
      stands_changed s r a.memory
      (record { starts = λ m i. refl; start_tags = λ m i. refl; start_tag = λ m. refl; nexts = λ m i. refl; next_tags = λ m i. refl })
      (λ x h. a.value x ∙ r.value x h) (λ x h. a.tag x ∙ r.tag x h) (λ p h. a.seat p ∙ r.seat p h) r.seated

  -- a number and a level of what is no memory
  slot_is : (x k : ℕ) → is_memory d.world x ≡ false → same_slot (tag_slot d.world k) (own x) ≡ nat_eq k x
  slot_is x k m = by (is_memory d.world k) refl
    where
      by : (b : Bool) → is_memory d.world k ≡ b → same_slot (if b then next_whole k else own k) (own x) ≡ nat_eq k x
      by true e = sym (elim (cases_Bool (nat_eq k x)) [
        | inl t ↦ absurd (true_is_not_false (sym e ∙ ap (is_memory d.world) (eqb-true k x t) ∙ m))
        | inr t ↦ t
      ])
      by false e = refl

  pub stands_set : (x n t : ℕ) → Stands d g s → is_memory d.world x ≡ false
      → ((k : ℕ) → is_value d.world k ≡ true → at d g' (value_key k) ≡ (if nat_eq k x then n else at d g (value_key k)))
      → ((k : ℕ) → has_tag d.world k ≡ true → at d g' (tag_key k) ≡ (if nat_eq k x then d.code t else at d g (tag_key k)))
      → ((k : ℕ) → at d g' (seat_key k) ≡ at d g (seat_key k)) → Kept d g g' → Stands d g' (put_level d.world (own x) t (put_number (own x) n s))
  unfolding put_level put_number
  stands_set x n t r m vs ts ss ks =
      stands_changed (put_level d.world (own x) t (put_number (own x) n s)) r ks
      (record { starts = λ m i. refl; start_tags = λ m i. refl; start_tag = λ m. refl; nexts = λ m i. refl; next_tags = λ m i. refl })
      (λ k h. vs k h ∙ ap (λ (v : ℕ). if nat_eq k x then n else v) (r.value k h))
      (λ k h.
      ts k h ∙ ap (λ (v : ℕ). if nat_eq k x then d.code t else v) (r.tag k h) ∙ coded (nat_eq k x) (s.level (tag_slot d.world k))
      ∙ ap (λ (b : Bool). d.code (if b then t else s.level (tag_slot d.world k))) (sym (slot_is x k m)))
      (λ p h. ss p ∙ r.seat p h) r.seated
    where
      coded : (b : Bool) (l : ℕ) → (if b then d.code t else d.code l) ≡ d.code (if b then t else l)
      coded true l = refl
      coded false l = refl

  raised_slot : (h : ℕ → Bool) (k : ℕ) → raised h (tag_slot d.world k) ≡ h k
  raised_slot h k = by (is_memory d.world k)
    where
      by : (b : Bool) → raised h (if b then next_whole k else own k) ≡ h k
      by true = refl
      by false = refl

  pub stands_raise : (h : ℕ → Bool) (t : ℕ) → Stands d g s → ((k : ℕ) → at d g' (value_key k) ≡ at d g (value_key k))
      → ((k : ℕ) → has_tag d.world k ≡ true → at d g' (tag_key k) ≡ (if h k then d.code (d.world.order.join (s.level (tag_slot d.world k)) t) else at d g (tag_key k)))
      → ((k : ℕ) → at d g' (seat_key k) ≡ at d g (seat_key k)) → Kept d g g' → Stands d g' (raise d.world.order h t s)
  unfolding raise
  stands_raise h t r vs ts ss ks =
      stands_changed (raise d.world.order h t s) r ks
      (record { starts = λ m i. refl; start_tags = λ m i. refl; start_tag = λ m. refl; nexts = λ m i. refl; next_tags = λ m i. refl })
      (λ k q. vs k ∙ r.value k q)
      (λ k q.
      ts k q ∙ ap (λ (v : ℕ). if h k then d.code (d.world.order.join (s.level (tag_slot d.world k)) t) else v) (r.tag k q)
      ∙ coded (h k) (d.world.order.join (s.level (tag_slot d.world k)) t) (s.level (tag_slot d.world k))
      ∙ ap (λ (b : Bool). d.code (if b then d.world.order.join (s.level (tag_slot d.world k)) t else s.level (tag_slot d.world k))) (sym (raised_slot h k)))
      (λ p q. ss p ∙ r.seat p q) r.seated
    where
      coded : (b : Bool) (l k : ℕ) → (if b then d.code l else d.code k) ≡ d.code (if b then l else k)
      coded true l k = refl
      coded false l k = refl
