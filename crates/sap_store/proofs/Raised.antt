-- Raising one entity after another.
use Rattle.sap_lemmas.proofs.Common.{◌≡◌, ℕ, ◌+◌, ◌<◌, ◌≤◌, Bool, true, false, ◌&&◌, ◌||◌, List, [], ◌∷◌, length, get_or, drop, refl, sym, ap, ◌∙◌, arith, nat_eq, nat_lt, if◌then◌else◌, inl, inr, cases_Bool, lt-ltb, ltb-true, eq-eqb, eqb-true, ne_eqb, and_parts, and_false, and_true, get_or_past, at_drop_all, at_drop_more}
use Rattle.sap_resolved.proofs.FillLemmas.{table_at, table_length}
use Rattle.sap_lattice.specs.Order.{Order}
use Rattle.sap_meaning.specs.Prelude.{World, root, listed, Slot, own, next_whole, Store, raised, raise}
use Rattle.sap_resolved.specs.Fill.{table}
use Rattle.sap_program.specs.Hangs.{rises_from, rises, hangs, flags}
use Rattle.sap_store.specs.Passes.{only, raised_one}
use Rattle.sap_store.proofs.Stored.{store_same}

-- tables

-- what the flags of a list say
pub flagged : (n : ℕ) (hang : List ℕ) (x : ℕ) → listed (flags n hang) x ≡ (hangs hang x && nat_lt x n)
flagged n hang x = elim (cases_Bool (nat_lt x n)) [
  | inl t ↦ rw t (table_at n (hangs hang) x (ltb-true x n t) ∙ sym (and_true (hangs hang x)))
  | inr t ↦
      rw t
      (get_or_past (table n (hangs hang)) x false (let l = table_length n (hangs hang) in let k : n ≤ x = grind (arith) in omega (arith, l, k))
      ∙ sym (and_false (hangs hang x)))
]

-- raises

raised_either : (h k : ℕ → Bool) (z : Slot) → raised (λ x. h x || k x) z ≡ (raised h z || raised k z)
raised_either h k (own x) = refl
raised_either h k _ = refl

raised_apart : (h k : ℕ → Bool) → ((x : ℕ) → (h x && k x) ≡ false) → (z : Slot) → (raised h z && raised k z) ≡ false
raised_apart h k f (own x) = f x
raised_apart h k f (next_whole m) = f m
raised_apart h k f _ = refl

module _ (o : Order) (t : ℕ) where
  -- what hangs apart is raised together
  twice : (h k : ℕ → Bool) → ((x : ℕ) → (h x && k x) ≡ false) → (s : Store) → raise o k t (raise o h t s) ≡ raise o (λ x. h x || k x) t s
  unfolding raise
  twice h k apart s = store_same _ _ (λ z. refl)
      (λ z. by (raised h z) (raised k z) (raised (λ x. h x || k x) z) (s.level z) (raised_apart h k apart z) (raised_either h k z)) (λ p. refl)
    where
      by : (a b c : Bool) (l : ℕ) → (a && b) ≡ false → c ≡ (a || b)
          → (if b then o.join (if a then o.join l t else l) t else (if a then o.join l t else l)) ≡ (if c then o.join l t else l)
      by true true c l f e = cc
      by true false c l f e = rw e refl
      by false true c l f e = rw e refl
      by false false c l f e = rw e refl

  pub quiet : (h : ℕ → Bool) → ((x : ℕ) → h x ≡ false) → (s : Store) → raise o h t s ≡ s
  unfolding raise
  quiet h none s = store_same _ _ (λ z. refl) (λ z. by (raised h z) (s.level z) (at z)) (λ p. refl)
    where
      at : (z : Slot) → raised h z ≡ false
      at (own x) = none x
      at (next_whole m) = none m
      at _ = refl

      by : (a : Bool) (l : ℕ) → a ≡ false → (if a then o.join l t else l) ≡ l
      by true l e = cc
      by false l e = refl

  pub alike : (h k : ℕ → Bool) → ((x : ℕ) → h x ≡ k x) → (s : Store) → raise o h t s ≡ raise o k t s
  alike h k e s = let f : h ≡ k = λ i x. e x i in ap (λ (q : ℕ → Bool). raise o q t s) f

rises_after : (x : ℕ) (xs : List ℕ) → rises_from x xs ≡ true → rises xs ≡ true
rises_after x [] h = refl
rises_after x (y ∷ ys) h = (and_parts (nat_lt x y) (rises_from y ys) h).1

-- what is above every number before does not hang on these
unhung : (x m : ℕ) (ys : List ℕ) → x ≤ m → rises_from m ys ≡ true → hangs ys x ≡ false
unhung x m [] l h = refl
unhung x m (y ∷ ys) l h =
    let b = and_parts (nat_lt m y) (rises_from y ys) h in
    let k = ltb-true m y b.0 in
    rw (ne_eqb y x (λ e. omega (arith, e, k, l)), unhung x y ys (omega (arith, k, l)) b.1) refl

module _ (w : World) (t : ℕ) where
  abbrev pub each : List ℕ → Store → Store
  each [] s = s
  each (x ∷ xs) s = each xs (raised_one w x t s)

  pub each-drop : (xs : List ℕ) (i : ℕ) (s : Store) → i < length xs → each (drop i xs) s ≡ each (drop (i + 1) xs) (raised_one w (get_or xs i 0) t s)
  each-drop xs i s h = at_drop_more (λ (l : List ℕ). each l s) xs i 0 h

  pub each-past : (xs : List ℕ) (i : ℕ) (s : Store) → length xs ≤ i → each (drop i xs) s ≡ s
  each-past xs i s h = at_drop_all (λ (l : List ℕ). each l s) xs i h

  each-all : (xs : List ℕ) (s : Store) → rises xs ≡ true → each xs s ≡ raise w.order (λ y. hangs xs y && nat_lt y (root w)) t s
  each-all [] s h = sym (quiet w.order t (λ y. false) (λ y. refl) s)
  each-all (x ∷ xs) s h =
      each-all xs (raised_one w x t s) (rises_after x xs h)
      ∙ twice w.order t (only w x) (λ y. hangs xs y && nat_lt y (root w)) apart s
      ∙ alike w.order t (λ y. only w x y || (hangs xs y && nat_lt y (root w))) (λ y. (nat_eq x y || hangs xs y) && nat_lt y (root w))
      (λ y. by (nat_eq x y) (hangs xs y) (nat_lt y (root w))) s
    where
      apart : (y : ℕ) → (only w x y && (hangs xs y && nat_lt y (root w))) ≡ false
      apart y = at (nat_eq x y) (nat_lt y (root w)) (hangs xs y) (λ e. unhung y x xs (let i = eqb-true x y e in omega (arith, i)) h)
        where
          at : (a b c : Bool) → (a ≡ true → c ≡ false) → ((a && b) && (c && b)) ≡ false
          at true true c f = rw (f refl) refl
          at _ _ c f = refl

      by : (a b c : Bool) → ((a && c) || (b && c)) ≡ ((a || b) && c)
      by true true true = refl
      by true true false = refl
      by true false true = refl
      by true false false = refl
      by false b c = refl

  pub each-flags : (n : ℕ) (xs : List ℕ) (s : Store) → n ≡ root w → rises xs ≡ true → each xs s ≡ raise w.order (listed (flags n xs)) t s
  each-flags n xs s e h = each-all xs s h ∙ alike w.order t _ _ (λ y. sym (flagged n xs y ∙ ap (λ (k : ℕ). hangs xs y && nat_lt y k) e)) s

  -- the one entity m
  pub one : (m : ℕ) (s : Store) → m < root w → raised_one w m t s ≡ raise w.order (λ x. nat_eq x m) t s
  one m s l = alike w.order t (only w m) (λ x. nat_eq x m) (λ x. by x (nat_eq x m) refl) s
    where
      by : (x : ℕ) (q : Bool) → nat_eq x m ≡ q → only w m x ≡ q
      by x true e = let i = eqb-true x m e in rw (eq-eqb m x (sym i), lt-ltb x (root w) (omega (arith, i, l))) refl
      by x false e = rw (ne_eqb m x (λ i. let f = eq-eqb x m (sym i) in cc)) refl
