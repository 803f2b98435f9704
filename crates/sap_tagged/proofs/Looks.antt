-- The parts of a command: what is looked at, raises, and one thing after another.
use Rattle.sap_lemmas.proofs.Common.{◌≡◌, ℕ, ◌+◌, ◌<◌, ◌≤◌, Bool, true, false, ◌&&◌, List, [], ◌∷◌, ◌++◌, refl, sym, ap, ◌∙◌, arith, if◌then◌else◌, bit_or, eq-eqb, ne_eqb}
use Rattle.sap_maps.specs.Prelude.{Name, Term}
use Rattle.sap_meaning.specs.Prelude.{root, Step, Group, Store, raise, Refusal, After, and_then, stay, Home, guard, test, FineStep}
use Rattle.sap_ir.specs.Prelude.{Going, value_in, Body, body_does}
use Rattle.sap_tagged.specs.Prelude.{Key, value_key, tag_key, seat_key, refused_key, level_key, wire_key, first_key, inner_key, Setting, var, lub, guard_of, test_of, written, stays, raises, looks, Lawful, at, has_tag, tag_slot, Stands, refused_after, level_after, Turns}
use Rattle.sap_tagged.proofs.Bools.{tagged_within}
use Rattle.sap_tagged.proofs.Terms.{bit, lub_value}
use Rattle.sap_tagged.proofs.StepTerms.{Placed, level_written, number_stays, guard_value, test_value, written_value, stays_value}
use Rattle.sap_tagged.proofs.Puts.{put_to, at_put, Kept, kept_put, swept, does_sweep, between, swept_is, within_all, Aside, stands_aside, stands_raise}

-- what is not in a store stays, but for the wires from k on
pub record Quiet (d : Setting) (k : ℕ) (g g' : Going) : Type 0 where
  pub kept : (j : ℕ) → j < k → at d g' (wire_key j) ≡ at d g (wire_key j)
  pub refused : (n : ℕ) → at d g' (refused_key n) ≡ at d g (refused_key n)
  pub levels : (n : ℕ) → at d g' (level_key n) ≡ at d g (level_key n)

pub quiet_none : (d : Setting) (k : ℕ) (g : Going) → Quiet d k g g
quiet_none d k g = record { kept = λ j l. refl; refused = λ n. refl; levels = λ n. refl }

pub quiet_next : (d : Setting) (k : ℕ) (g g1 g2 : Going) → Quiet d k g g1 → Quiet d k g1 g2 → Quiet d k g g2
quiet_next d k g g1 g2 a b = record {
  kept = λ j l. b.kept j l ∙ a.kept j l;
  refused = λ n. b.refused n ∙ a.refused n;
  levels = λ n. b.levels n ∙ a.levels n;
}

pub quiet_less : (d : Setting) (k j : ℕ) (g g' : Going) → k ≤ j → Quiet d j g g' → Quiet d k g g'
quiet_less d k j g g' l q = record { kept = λ i m. q.kept i (omega arith); refused = q.refused; levels = q.levels }

refused_more : (n : ℕ) (a b : List Refusal) (v : ℕ) → refused_after n (a ++ b) v ≡ refused_after n b (refused_after n a v)
refused_more n [] b v = refl
refused_more n (r ∷ a) b v = refused_more n a b _

levels_more : (code : ℕ → ℕ) (n : ℕ) (a b : List Refusal) (v : ℕ) → level_after code n (a ++ b) v ≡ level_after code n b (level_after code n a v)
levels_more code n [] b v = refl
levels_more code n (r ∷ a) b v = levels_more code n a b _

pub turns_then : (d : Setting) (k j : ℕ) (g g1 g2 : Going) (a : After) (f : Store → After) → k ≤ j → Turns d k g g1 a → Turns d j g1 g2 (f a.store) → Turns d k g g2 (and_then a f)
turns_then d k j g g1 g2 a f l p q = record {
  stands = q.stands;
  kept = λ i m. q.kept i (omega arith) ∙ p.kept i m;
  refused = λ n. q.refused n ∙ ap (refused_after n (f a.store).refused) (p.refused n) ∙ sym (refused_more n a.refused (f a.store).refused (at d g (refused_key n)));
  levels = λ n. q.levels n ∙ ap (level_after d.code n (f a.store).refused) (p.levels n) ∙ sym (levels_more d.code n a.refused (f a.store).refused (at d g (level_key n)));
}

-- after what is quiet
pub turns_after : (d : Setting) (k j : ℕ) (g g1 g2 : Going) (a : After) → k ≤ j → Quiet d k g g1 → Turns d j g1 g2 a → Turns d k g g2 a
turns_after d k j g g1 g2 a l p q = record {
  stands = q.stands;
  kept = λ i m. q.kept i (omega arith) ∙ p.kept i m;
  refused = λ n. q.refused n ∙ ap (refused_after n a.refused) (p.refused n);
  levels = λ n. q.levels n ∙ ap (level_after d.code n a.refused) (p.levels n);
}

-- with less said of wires
pub turns_less : (d : Setting) (k j : ℕ) (g g' : Going) (a : After) → k ≤ j → Turns d j g g' a → Turns d k g g' a
turns_less d k j g g' a l r = turns_after d k j g g g' a l (quiet_none d k g) r

pub turns_stay : (d : Setting) (k : ℕ) (g g' : Going) (s : Store) → Quiet d k g g' → Stands d g' s → Turns d k g g' (stay s)
turns_stay d k g g' s q r = record { stands = r; kept = q.kept; refused = q.refused; levels = q.levels }

module _ (d : Setting) (widths : Name → ℕ) (laws : Lawful d widths) where
  quiet_wire : (k j : ℕ) (g : Going) (x : ℕ) → k ≤ j → Quiet d k g (put_to d g (wire_key j) x)
  quiet_wire k j g x l = record {
    kept = λ i m. at_put d widths laws g (wire_key j) (wire_key i) x ∙ ap (λ (b : Bool). if b then x else at d g (wire_key i)) (ne_eqb i j (λ e. omega arith));
    refused = λ n. at_put d widths laws g (wire_key j) (refused_key n) x;
    levels = λ n. at_put d widths laws g (wire_key j) (level_key n) x;
  }

  aside_wire : (j : ℕ) (g : Going) (x : ℕ) → Aside d g (put_to d g (wire_key j) x)
  aside_wire j g x = record {
    value = λ n. at_put d widths laws g (wire_key j) (value_key n) x;
    tag = λ n. at_put d widths laws g (wire_key j) (tag_key n) x;
    seat = λ n. at_put d widths laws g (wire_key j) (seat_key n) x;
    memory = kept_put d widths laws g (wire_key j) x (λ m. refl);
  }

  here_wire : (j : ℕ) (g : Going) (x : ℕ) → at d (put_to d g (wire_key j) x) (wire_key j) ≡ x
  here_wire j g x = at_put d widths laws g (wire_key j) (wire_key j) x ∙ ap (λ (b : Bool). if b then x else at d g (wire_key j)) (eq-eqb j j refl)

  -- a context for children

  pub quiet_inner : (k s : ℕ) (g : Going) (x : ℕ) → Quiet d k g (put_to d g (inner_key s) x)
  quiet_inner k s g x = record {
    kept = λ j l. at_put d widths laws g (inner_key s) (wire_key j) x;
    refused = λ n. at_put d widths laws g (inner_key s) (refused_key n) x;
    levels = λ n. at_put d widths laws g (inner_key s) (level_key n) x;
  }

  pub aside_inner : (s : ℕ) (g : Going) (x : ℕ) → Aside d g (put_to d g (inner_key s) x)
  aside_inner s g x = record {
    value = λ n. at_put d widths laws g (inner_key s) (value_key n) x;
    tag = λ n. at_put d widths laws g (inner_key s) (tag_key n) x;
    seat = λ n. at_put d widths laws g (inner_key s) (seat_key n) x;
    memory = kept_put d widths laws g (inner_key s) x (λ m. refl);
  }

  pub here_inner : (s : ℕ) (g : Going) (x : ℕ) → at d (put_to d g (inner_key s) x) (inner_key s) ≡ x
  here_inner s g x = at_put d widths laws g (inner_key s) (inner_key s) x ∙ ap (λ (b : Bool). if b then x else at d g (inner_key s)) (eq-eqb s s refl)

  -- one wire more
  pub record Wired (s : Store) (j : ℕ) (g g' : Going) (x : ℕ) : Type 0 where
    pub stands : Stands d g' s
    pub here : at d g' (wire_key j) ≡ x
    pub quiet : (i : ℕ) → i ≤ j → Quiet d i g g'

  pub wired : (s : Store) (j : ℕ) (g : Going) (x y : ℕ) → Stands d g s → x ≡ y → Wired s j g (put_to d g (wire_key j) x) y
  wired s j g x y st e = record {
    stands = stands_aside d g _ s st (aside_wire j g x);
    here = here_wire j g x ∙ e;
    quiet = λ i l. quiet_wire i j g x l;
  }

  -- what is looked at

  pub record Looked (sp : Home) (k : ℕ) (t : Step) (l : ℕ) (s : Store) (g g' : Going) : Type 0 where
    pub stands : Stands d g' s
    pub tested : at d g' (wire_key k) ≡ bit (test d.world sp t l s)
    pub guarded : at d g' (wire_key (k + 1)) ≡ d.code (guard d.world sp t s)
    pub inside : at d g' (wire_key (k + 2)) ≡ d.code (d.world.order.join l (guard d.world sp t s))
    pub new : at d g' (wire_key (k + 3)) ≡ d.code (level_written d.world t l s)
    pub keeps : at d g' (wire_key (k + 4)) ≡ bit (number_stays d.world t s)
    pub quiet : Quiet d k g g'

  module _ (f : Going → Going) (go : Name → Going → Going) where
    abbrev given : Key → Term Name → Going → Going
    given a t g = put_to d g a (value_in widths g t)

    does_looks : (sp : Home) (p k : ℕ) (t : Step) (g : Going) (rest : Body) → body_does widths f go (looks d sp p k t rest) g
        ≡ body_does widths f go rest
        (given (wire_key (k + 4)) (stays d t)
        (given (wire_key (k + 3)) (written d (var d (wire_key p)) t)
        (given (wire_key (k + 2)) (lub (var d (wire_key p)) (var d (wire_key (k + 1))))
        (given (wire_key (k + 1)) (guard_of d sp t) (given (wire_key k) (test_of d sp (var d (wire_key p)) t) g)))))
    unfolding put_to
    does_looks sp p k t g rest = refl

    pub looked : (q : Group) (sp : Home) (p k : ℕ) (t : Step) (l : ℕ) (s : Store) (g : Going) (rest : Body) → p < k → Placed d.world q sp → FineStep d.world q sp.children t
        → Stands d g s → at d g (wire_key p) ≡ d.code l
        → (g' : Going) × (body_does widths f go (looks d sp p k t rest) g ≡ body_does widths f go rest g') × Looked sp k t l s g g'
    looked q sp p k t l s g rest pk placed fine st pc =
        let o = d.world.order in
        let P = var d (wire_key p) in
        let x0 = value_in widths g (test_of d sp P t) in
        let g1 = put_to d g (wire_key k) x0 in
        let r0 = wired s k g x0 (bit (test d.world sp t l s)) st (test_value d widths laws g s st q sp t P l placed fine pc) in
        let x1 = value_in widths g1 (guard_of d sp t) in
        let g2 = put_to d g1 (wire_key (k + 1)) x1 in
        let r1 = wired s (k + 1) g1 x1 (d.code (guard d.world sp t s)) r0.stands (guard_value d widths laws g1 s r0.stands q sp t placed fine) in
        let q1 = r0.quiet k (omega arith) in
        let q2 = quiet_next d k g g1 g2 q1 (r1.quiet k (omega arith)) in
        let x2 = value_in widths g2 (lub P (var d (wire_key (k + 1)))) in
        let g3 = put_to d g2 (wire_key (k + 2)) x2 in
        let r2 = wired s (k + 2) g2 x2 (d.code (o.join l (guard d.world sp t s))) r1.stands
        (lub_value d widths laws g2 P (var d (wire_key (k + 1))) l (guard d.world sp t s) (q2.kept p pk ∙ pc) r1.here) in
        let q3 = quiet_next d k g g2 g3 q2 (r2.quiet k (omega arith)) in
        let x3 = value_in widths g3 (written d P t) in
        let g4 = put_to d g3 (wire_key (k + 3)) x3 in
        let r3 = wired s (k + 3) g3 x3 (d.code (level_written d.world t l s)) r2.stands (written_value d widths laws g3 s r2.stands q sp t P l fine (q3.kept p pk ∙ pc)) in
        let q4 = quiet_next d k g g3 g4 q3 (r3.quiet k (omega arith)) in
        let x4 = value_in widths g4 (stays d t) in
        let g5 = put_to d g4 (wire_key (k + 4)) x4 in
        let r4 = wired s (k + 4) g4 x4 (bit (number_stays d.world t s)) r3.stands (stays_value d widths laws g4 s r3.stands q sp t fine) in (
          g5,
          does_looks sp p k t g rest,
          record {
            stands = r4.stands;
            tested =
                (r4.quiet (k + 4) (omega arith)).kept k (omega arith) ∙ (r3.quiet (k + 3) (omega arith)).kept k (omega arith)
                ∙ (r2.quiet (k + 2) (omega arith)).kept k (omega arith) ∙ (r1.quiet (k + 1) (omega arith)).kept k (omega arith) ∙ r0.here;
            guarded =
                (r4.quiet (k + 4) (omega arith)).kept (k + 1) (omega arith) ∙ (r3.quiet (k + 3) (omega arith)).kept (k + 1) (omega arith)
                ∙ (r2.quiet (k + 2) (omega arith)).kept (k + 1) (omega arith) ∙ r1.here;
            inside = (r4.quiet (k + 4) (omega arith)).kept (k + 2) (omega arith) ∙ (r3.quiet (k + 3) (omega arith)).kept (k + 2) (omega arith) ∙ r2.here;
            new = (r4.quiet (k + 4) (omega arith)).kept (k + 3) (omega arith) ∙ r3.here;
            keeps = r4.here;
            quiet = quiet_next d k g g4 g5 q4 (r4.quiet k (omega arith));
          },
        )

  -- raises

  pub record Raised (g g' : Going) : Type 0 where
    pub value : (x : ℕ) → at d g' (value_key x) ≡ at d g (value_key x)
    pub wire : (x : ℕ) → at d g' (wire_key x) ≡ at d g (wire_key x)
    pub refused : (x : ℕ) → at d g' (refused_key x) ≡ at d g (refused_key x)
    pub levels : (x : ℕ) → at d g' (level_key x) ≡ at d g (level_key x)
    pub memory : Kept d g g'

  pub raised_quiet : (k : ℕ) (g g' : Going) → Raised g g' → Quiet d k g g'
  raised_quiet k g g' r = record { kept = λ j l. r.wire j; refused = r.refused; levels = r.levels }

  module _ (f : Going → Going) (go : Name → Going → Going) where
    pub raises_turn : (h : ℕ → Bool) (j t : ℕ) (s : Store) (g : Going) (rest : Body) → Stands d g s → at d g (wire_key j) ≡ d.code t
        → (g' : Going) × (body_does widths f go (raises d h j rest) g ≡ body_does widths f go rest g') × Stands d g' (raise d.world.order h t s) × Raised g g'
    raises_turn h j t s g rest st e =
        let n = root d.world in
        let term : ℕ → Term Name = λ x. lub (var d (tag_key x)) (var d (wire_key j)) in
        let r = swept_is d widths laws tag_key (λ y x. refl) h term (λ y z. bit_or z (d.code t)) (λ z. at d z (wire_key j) ≡ d.code t)
        (λ y z h i. at_put d widths laws h (tag_key y) (wire_key j) z ∙ i) (λ y g1 i e. ap (bit_or (at d g1 (tag_key y))) i) 0 n g e in
        let g' = swept d widths tag_key h term 0 n g in
        let kept : Kept d g g' = record { cell = r.memory.0; next = r.memory.1; first = λ m. r.there (first_key m) (λ y. refl) } in (
          g',
          does_sweep d widths f go tag_key h term 0 n rest g,
          stands_raise d g g' s h t st (λ y. r.there (value_key y) (λ x. refl)) (λ y w. r.here y ∙ new y w (h y)) (λ y. r.there (seat_key y) (λ x. refl)) kept,
          record {
            value = λ x. r.there (value_key x) (λ y. refl);
            wire = λ x. r.there (wire_key x) (λ y. refl);
            refused = λ x. r.there (refused_key x) (λ y. refl);
            levels = λ x. r.there (level_key x) (λ y. refl);
            memory = kept;
          },
        )
      where
        new : (y : ℕ) → has_tag d.world y ≡ true → (b : Bool) → (if b && between 0 (root d.world) y then bit_or (at d g (tag_key y)) (d.code t) else at d g (tag_key y))
            ≡ (if b then d.code (d.world.order.join (s.level (tag_slot d.world y)) t) else at d g (tag_key y))
        new y w true =
            ap (λ (b : Bool). if b then bit_or (at d g (tag_key y)) (d.code t) else at d g (tag_key y)) (within_all y (root d.world) (tagged_within d.world y w))
            ∙ ap (λ (z : ℕ). bit_or z (d.code t)) (st.tag y w) ∙ sym (laws.joined (s.level (tag_slot d.world y)) t)
        new y w false = refl
