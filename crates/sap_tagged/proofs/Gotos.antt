-- A goto: the resets below the target, its tag, and the seats.
use Rattle.sap_lemmas.proofs.Common.{◌≡◌, ℕ, ◌+◌, Bool, true, false, ◌&&◌, refl, sym, ap, ◌∙◌, subst, arith, nat_lt, nat_le, nat_eq, if◌then◌else◌, eqb-true}
use Rattle.sap_meaning.proofs.ProgramLemmas.{memory_no_state, state_no_value}
use Rattle.sap_maps.specs.Prelude.{Name, Term}
use Rattle.sap_meaning.specs.Prelude.{within, World, root, entity, is_dynamic, is_state, is_memory, place, last, below, go_to, Group, own, next_whole, Store, put_number, put_level, put_child, lowered, reset, After, stay, Home, among, effect}
use Rattle.sap_ir.specs.Prelude.{Going, Body, stop, goto, body_does}
use Rattle.sap_tagged.specs.Prelude.{value_key, tag_key, seat_key, refused_key, level_key, wire_key, first_key, Setting, var, bits, gives, for_each, resets, effect_of, Lawful, at, is_value, has_tag, tag_slot, Stands, Turns}
use Rattle.sap_tagged.proofs.Bools.{tagged_within}
use Rattle.sap_tagged.proofs.Puts.{put_to, does_gives, swept, does_sweep, between, swept_is, within_all, stands_changed}
use Rattle.sap_tagged.proofs.Looks.{Quiet, quiet_next, turns_stay}
use Rattle.sap_tagged.proofs.Effects.{tag_put, quiet_tag}

-- the levels alone, and the seats alone, of what a goto changes

unfoldable pub emptied : World → (target : ℕ) → Store → Store
emptied w target s = record s { level = λ z. if lowered w target z then w.order.bottom else s.level z }

unfoldable pub moved : World → (parent target : ℕ) → Store → Store
moved w parent target s = record s {
  child = λ p. if nat_eq p target then 0 else if below w target p then 0 else if nat_eq p parent then place w target else s.child p;
}

-- what a goto to a state of a group does
abbrev pub GoesRun : Setting → (Name → Going → Going) → (parent : ℕ) → (siblings : Group) → Type 0
GoesRun d go parent q =
    (target : ℕ) → among q target ≡ true → (g : Going) (s : Store) → Stands d g s
    → Stands d (go (d.state_name target) g) (moved d.world parent target s) × ((k : ℕ) → Quiet d k g (go (d.state_name target) g))

goes_apart : (w : World) (parent target : ℕ) (s : Store) → moved w parent target (emptied w target s) ≡ reset w target (put_child parent (place w target) s)
unfolding moved emptied reset put_child
goes_apart w parent target s = refl

levelled : (w : World) (parent target l : ℕ) (s : Store)
    → moved w parent target (put_level w (own target) l (emptied w target s)) ≡ put_level w (own target) l (reset w target (put_child parent (place w target) s))
unfolding moved emptied reset put_child put_level
levelled w parent target l s = refl

module _ (d : Setting) (widths : Name → ℕ) (laws : Lawful d widths) where
  -- a level alone, of a state
  state_put : (g : Going) (s : Store) (x l z : ℕ) → Stands d g s → is_memory d.world x ≡ false → is_value d.world x ≡ false → z ≡ d.code l
      → Stands d (put_to d g (tag_key x) z) (put_level d.world (own x) l s)
  unfolding put_level put_number
  state_put g s x l z st m v e =
      let r = tag_put d widths laws g s x (s.number (own x)) l z st m v e in
      stands_changed d (put_to d g (tag_key x) z) (put_to d g (tag_key x) z)
      (put_level d.world (own x) l (put_number (own x) (s.number (own x)) s)) (put_level d.world (own x) l s) r
      (record { cell = refl; next = refl; first = λ i. refl })
      (record { starts = λ m i. refl; start_tags = λ m i. refl; start_tag = λ m. refl; nexts = λ m i. refl; next_tags = λ m i. refl })
      (λ k h. r.value k h ∙ same k (nat_eq k x) refl) (λ k h. r.tag k h) (λ p h. r.seat p h) r.seated
    where
      same : (k : ℕ) (b : Bool) → nat_eq k x ≡ b → (if b then s.number (own x) else s.number (own k)) ≡ s.number (own k)
      same k true q = ap (λ (i : ℕ). s.number (own i)) (sym (eqb-true k x q))
      same k false q = refl

  lowered_is : (target k : ℕ) → lowered d.world target (tag_slot d.world k) ≡ resets d.world target k
  lowered_is target k = by (is_memory d.world k) refl
    where
      by : (b : Bool) → is_memory d.world k ≡ b → lowered d.world target (if b then next_whole k else own k) ≡ resets d.world target k
      by true e =
          let f : is_state d.world k ≡ false = memory_no_state (entity d.world k).kind e in
          sym (ap (λ (b : Bool). (b && (nat_lt target k && nat_le k (last d.world target))) && is_dynamic d.world k) f)
      by false e = refl

  module _ (f : Going → Going) (go : Name → Going → Going) where
    -- the tags of the dynamic states below the target
    empties : (target : ℕ) (g : Going) (s : Store) (rest : Body) → Stands d g s
        → (g' : Going) × (body_does widths f go (for_each d tag_key (resets d.world target) (λ x. bits d d.world.order.bottom) rest) g ≡ body_does widths f go rest g')
        × Stands d g' (emptied d.world target s) × ((n : ℕ) → Quiet d n g g')
    unfolding emptied
    empties target g s rest st =
        let n = root d.world in
        let low = d.code d.world.order.bottom in
        let term : ℕ → Term Name = λ x. bits d d.world.order.bottom in
        let h = resets d.world target in
        let r = swept_is d widths laws tag_key (λ y x. refl) h term (λ y z. low) (λ g. Unit {0}) (λ y z g i. tt) (λ y g i e. refl) 0 n g tt in
        let g' = swept d widths tag_key h term 0 n g in (
          g',
          does_sweep d widths f go tag_key h term 0 n rest g,
          stands_changed d g g' s (emptied d.world target s) st (record { cell = r.memory.0; next = r.memory.1; first = λ m. r.there (first_key m) (λ y. refl) })
              (record { starts = λ m i. refl; start_tags = λ m i. refl; start_tag = λ m. refl; nexts = λ m i. refl; next_tags = λ m i. refl })
              (λ k q. r.there (value_key k) (λ y. refl) ∙ st.value k q)
              (λ k q. r.here k ∙ new k q (h k) ∙ ap (λ (b : Bool). d.code (if b then d.world.order.bottom else s.level (tag_slot d.world k))) (sym (lowered_is target k)))
              (λ p q. r.there (seat_key p) (λ y. refl) ∙ st.seat p q) st.seated,
          λ i. record { kept = λ j l. r.there (wire_key j) (λ y. refl); refused = λ n. r.there (refused_key n) (λ y. refl); levels = λ n. r.there (level_key n) (λ y. refl) },
        )
      where
        new : (k : ℕ) → has_tag d.world k ≡ true → (b : Bool)
            → (if b && between 0 (root d.world) k then d.code d.world.order.bottom else at d g (tag_key k))
            ≡ d.code (if b then d.world.order.bottom else s.level (tag_slot d.world k))
        new k q true = ap (λ (b : Bool). if b then d.code d.world.order.bottom else at d g (tag_key k)) (within_all k (root d.world) (tagged_within d.world k q))
        new k q false = st.tag k q

    -- the target's tag, if it is dynamic, and the seats
    arrives : (q : Group) (parent k free target l : ℕ) (g g1 : Going) (s : Store) → GoesRun d go parent q → among q target ≡ true
        → is_memory d.world target ≡ false → is_value d.world target ≡ false → Stands d g1 (emptied d.world target s)
        → ((n : ℕ) → Quiet d n g g1) → at d g (wire_key (k + 3)) ≡ d.code l → (b : Bool)
        → Turns d free g
        (body_does widths f go (if b then gives d (tag_key target) (var d (wire_key (k + 3))) (goto (d.state_name target) stop) else goto (d.state_name target) stop) g1)
        (stay (if b then put_level d.world (own target) l (reset d.world target (put_child parent (place d.world target) s)) else reset
        d.world target (put_child parent (place d.world target) s)))
    arrives q parent k free target l g g1 s goes i m v st quiet new true =
        let z = at d g1 (wire_key (k + 3)) in
        let g2 = put_to d g1 (tag_key target) z in
        let s2 = put_level d.world (own target) l (emptied d.world target s) in
        let st2 : Stands d g2 s2 = state_put g1 (emptied d.world target s) target l z st m v ((quiet (k + 4)).kept (k + 3) (omega arith) ∙ new) in
        let r = goes target i g2 s2 st2 in
        let g3 = go (d.state_name target) g2 in
        rw (does_gives d widths f go g1 (tag_key target) (var d (wire_key (k + 3))) (goto (d.state_name target) stop))
        (turns_stay d free g g3 _
        (quiet_next d free g g1 g3 (quiet free) (quiet_next d free g1 g2 g3 (quiet_tag d widths laws free target g1 z) (r.1 free)))
        (subst (λ (t : Store). Stands d g3 t) (levelled d.world parent target l s) r.0))
    arrives q parent k free target l g g1 s goes i m v st quiet new false =
        let r = goes target i g1 (emptied d.world target s) st in
        let g3 = go (d.state_name target) g1 in
        turns_stay d free g g3 _ (quiet_next d free g g1 g3 (quiet free) (r.1 free))
        (subst (λ (t : Store). Stands d g3 t) (goes_apart d.world parent target s) r.0)

    pub goto_effect : (enter : ℕ → ℕ → Store → After) (q : Group) (k free : ℕ) (sp : Home) (site target l : ℕ) (b r : Store) (g : Going) → GoesRun d go sp.parent q
        → among q target ≡ true → is_state d.world target ≡ true → is_memory d.world target ≡ false → Stands d g r → at d g (wire_key (k + 3)) ≡ d.code l
        → Turns d free g (body_does widths f go (effect_of d sp k (go_to site target)) g) (effect (within d.world sp enter) (go_to site target) l b r)
    unfolding effect
    goto_effect enter q k free sp site target l b r g goes i state m st new =
        let end : Body =
        if is_dynamic d.world target then gives d (tag_key target) (var d (wire_key (k + 3))) (goto (d.state_name target) stop) else goto (d.state_name target) stop in
        let e = empties target g r end st in
        rw e.1
        (arrives q sp.parent k free target l g e.0 r goes i m (state_no_value (entity d.world target).kind state) e.2 e.3 new (is_dynamic d.world target))
