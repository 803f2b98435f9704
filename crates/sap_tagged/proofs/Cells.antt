-- Effects on memories.
use Rattle.sap_lemmas.proofs.Common.{◌≡◌, ℕ, ◌+◌, Bool, true, false, ◌&&◌, refl, sym, ap, ap₂, ◌∙◌, subst, nat_eq, inl, inr, if◌then◌else◌, ◌==◌, cases_Bool, eqb-true}
use Rattle.sap_maps.specs.Prelude.{Name, Term}
use Rattle.sap_meaning.specs.Prelude.{within, is_dynamic, is_memory, LevelTerm, write, retag_cell, Group, Slot, own, start, next, start_whole, next_whole, Store, number, level, home, same_slot, put_number, put_level, raise, After, value, tag, new_level, Home, effect, FineStep}
use Rattle.sap_ir.specs.Prelude.{Going, value_in, set_cell, body_does}
use Rattle.sap_tagged.specs.Prelude.{Key, value_key, tag_key, seat_key, wire_key, first_key, same, Setting, var, lub, expr, effect_of, Lawful, at, tag_slot, Stands, Turns}
use Rattle.sap_tagged.proofs.Bools.{tagged_memory}
use Rattle.sap_tagged.proofs.Terms.{expr_value, lub_value}
use Rattle.sap_tagged.proofs.Puts.{put_to, at_put, kept_put, stands_raise}
use Rattle.sap_tagged.proofs.Looks.{turns_stay}
use Rattle.sap_tagged.proofs.Effects.{Begins, chosen, quiet_tag}

-- another number in one cell of the next parts
abbrev pub put_next : Setting → Going → Key → (i x : ℕ) → Going
put_next d g a i x = record { now = g.now; next = set_cell g.next (d.name a) i x }

abbrev cell_is : (k m j i : ℕ) → Bool
cell_is k m j i = nat_eq k m && nat_eq j i

module _ (d : Setting) (widths : Name → ℕ) (laws : Lawful d widths) where
  at_next : (g : Going) (a b : Key) (i x j : ℕ) → (put_next d g a i x).next (d.name b) j ≡ (if same b a && nat_eq j i then x else g.next (d.name b) j)
  at_next g a b i x j = rw (laws.apart b a) refl

  -- a number in one cell
  stands_number : (g g' : Going) (s : Store) (m n v : ℕ) → Stands d g s → g'.now ≡ g.now
      → ((k j : ℕ) → g'.next (d.name (value_key k)) j ≡ (if cell_is k m j n then v else g.next (d.name (value_key k)) j))
      → ((k j : ℕ) → g'.next (d.name (tag_key k)) j ≡ g.next (d.name (tag_key k)) j) → Stands d g' (put_number (next m n) v s)
  unfolding put_number
  stands_number g g' s m n v st e vs ts = record {
    value = λ x h. ap (λ w. w.value (d.name (value_key x))) e ∙ st.value x h;
    tag = λ x h. ap (λ w. w.value (d.name (tag_key x))) e ∙ st.tag x h;
    seat = λ x h. ap (λ w. w.value (d.name (seat_key x))) e ∙ st.seat x h;
    seated = st.seated;
    starts = λ k j h. ap (λ w. w.cell (d.name (value_key k)) j) e ∙ st.starts k j h;
    start_tags = λ k j h t. ap (λ w. w.cell (d.name (tag_key k)) j) e ∙ st.start_tags k j h t;
    start_tag = λ k h. ap (λ w. w.value (d.name (first_key k))) e ∙ st.start_tag k h;
    nexts = λ k j h. vs k j ∙ ap (λ (z : ℕ). if cell_is k m j n then v else z) (st.nexts k j h);
    next_tags = λ k j h t. ts k j ∙ st.next_tags k j h t;
  }

  -- a level in one cell of an enforced memory
  stands_mark : (g g' : Going) (s : Store) (m n t : ℕ) → Stands d g s → is_dynamic d.world m ≡ false → g'.now ≡ g.now
      → ((k j : ℕ) → g'.next (d.name (value_key k)) j ≡ g.next (d.name (value_key k)) j)
      → ((k j : ℕ) → g'.next (d.name (tag_key k)) j ≡ (if cell_is k m j n then d.code t else g.next (d.name (tag_key k)) j)) → Stands d g' (put_level d.world (next m n) t s)
  unfolding put_level
  stands_mark g g' s m n t st f e vs ts = record {
    value = λ x h. ap (λ w. w.value (d.name (value_key x))) e ∙ st.value x h;
    tag = λ x h. ap (λ w. w.value (d.name (tag_key x))) e ∙ st.tag x h ∙ ap d.code (sym (other (tag_slot d.world x) (no_cell x)));
    seat = λ x h. ap (λ w. w.value (d.name (seat_key x))) e ∙ st.seat x h;
    seated = st.seated;
    starts = λ k j h. ap (λ w. w.cell (d.name (value_key k)) j) e ∙ st.starts k j h;
    start_tags = λ k j h q. ap (λ w. w.cell (d.name (tag_key k)) j) e ∙ st.start_tags k j h q ∙ ap d.code (sym (other (start k j) refl));
    start_tag = λ k h. ap (λ w. w.value (d.name (first_key k))) e ∙ st.start_tag k h ∙ ap d.code (sym (other (start_whole k) refl));
    nexts = λ k j h. vs k j ∙ st.nexts k j h;
    next_tags = λ k j h q.
        ts k j ∙ ap (λ (z : ℕ). if cell_is k m j n then d.code t else z) (st.next_tags k j h q) ∙ coded (cell_is k m j n) (s.level (next k j))
        ∙ ap d.code (sym (home_is (next k j)));
  }
    where
      home_is : (y : Slot) → (if same_slot y (home d.world (next m n)) then t else s.level y) ≡ (if same_slot y (next m n) then t else s.level y)
      home_is y = ap (λ (b : Bool). if same_slot y (if b then next_whole m else next m n) then t else s.level y) f

      other : (y : Slot) → same_slot y (next m n) ≡ false → (if same_slot y (home d.world (next m n)) then t else s.level y) ≡ s.level y
      other y q = home_is y ∙ ap (λ (b : Bool). if b then t else s.level y) q

      no_cell : (x : ℕ) → same_slot (tag_slot d.world x) (next m n) ≡ false
      no_cell x = by (is_memory d.world x)
        where
          by : (b : Bool) → same_slot (if b then next_whole x else own x) (next m n) ≡ false
          by true = refl
          by false = refl

      coded : (b : Bool) (l : ℕ) → (if b then d.code t else d.code l) ≡ d.code (if b then t else l)
      coded true l = refl
      coded false l = refl

  number_next : (g : Going) (s : Store) (m n i x v : ℕ) → Stands d g s → i ≡ n → x ≡ v → Stands d (put_next d g (value_key m) i x) (put_number (next m n) v s)
  number_next g s m n i x v st ei ex =
      stands_number g _ s m n v st refl
      (λ k j. at_next g (value_key m) (value_key k) i x j ∙ ap₂ (λ (p q : ℕ). if cell_is k m j p then q else g.next (d.name (value_key k)) j) ei ex)
      (λ k j. at_next g (value_key m) (tag_key k) i x j)

  mark_next : (g : Going) (s : Store) (m n i x t : ℕ) → Stands d g s → is_dynamic d.world m ≡ false → i ≡ n → x ≡ d.code t
      → Stands d (put_next d g (tag_key m) i x) (put_level d.world (next m n) t s)
  mark_next g s m n i x t st f ei ex =
      stands_mark g _ s m n t st f refl
      (λ k j. at_next g (tag_key m) (value_key k) i x j)
      (λ k j. at_next g (tag_key m) (tag_key k) i x j ∙ ap₂ (λ (p q : ℕ). if cell_is k m j p then q else g.next (d.name (tag_key k)) j) ei ex)

  raised_first : (m n v t : ℕ) (s : Store)
      → raise d.world.order (λ x. nat_eq x m) t (put_number (next m n) v s) ≡ put_number (next m n) v (raise d.world.order (λ x. nat_eq x m) t s)
  unfolding raise put_number
  raised_first m n v t s = refl

  swapped : (m n v t : ℕ) (s : Store) → is_dynamic d.world m ≡ false
      → put_number (next m n) v (put_level d.world (next m n) t s) ≡ put_level d.world (next m n) t (put_number (next m n) v s)
  unfolding put_level put_number
  swapped m n v t s f = refl

  pub write_effect : (f : Going → Going) (go : Name → Going → Going) (enter : ℕ → ℕ → Store → After) (q : Group) (k free : ℕ) (sp : Home)
      (site m : ℕ) (i e : Term ℕ) (l : ℕ) (b r : Store) (g : Going)
      → FineStep d.world q sp.children (write site m i e) → Begins d k sp (write site m i e) l b r g
      → Turns d free g (body_does widths f go (effect_of d sp k (write site m i e)) g) (effect (within d.world sp enter) (write site m i e) l b r)
  unfolding effect put_to put_number
  write_effect f go enter q k free sp site m i e l b r g fine h =
      let n = value d.world i b in
      let v = value d.world e b in
      let g1 = put_next d g (value_key m) (value_in widths g (expr d i)) (value_in widths g (expr d e)) in
      let s1 = put_number (next m n) v r in
      let st1 : Stands d g1 s1 = number_next g r m n _ _ v h.stands (expr_value d widths laws g b h.reads h.starts i fine.1)
      (expr_value d widths laws g b h.reads h.starts e fine.2) in
      elim (cases_Bool (is_dynamic d.world m)) [
        | inl t ↦
            rw t
            (let c = d.world.order.join l (d.world.order.join (tag d.world i b) (tag d.world e b)) in
            let z = value_in widths g1 (lub (var d (tag_key m)) (var d (wire_key (k + 3)))) in
            let old = r.level (tag_slot d.world m) in
            let ez : z ≡ d.code (d.world.order.join old c) =
            lub_value d widths laws g1 (var d (tag_key m)) (var d (wire_key (k + 3))) old c (h.stands.tag m (tagged_memory d.world m fine.0 t)) h.new in
            let g2 = put_to d g1 (tag_key m) z in
            let quiet = quiet_tag d widths laws free m g1 z in
            turns_stay d free g g2 _ (record { kept = quiet.kept; refused = quiet.refused; levels = quiet.levels })
            (subst (λ (s : Store). Stands d g2 s) (raised_first m n v c r)
            (stands_raise d g1 g2 s1 (λ x. nat_eq x m) c st1 (λ y. at_put d widths laws g1 (tag_key m) (value_key y) z)
            (λ y w. at_put d widths laws g1 (tag_key m) (tag_key y) z ∙ level_at y (nat_eq y m) refl z ez)
            (λ y. at_put d widths laws g1 (tag_key m) (seat_key y) z) (kept_put d widths laws g1 (tag_key m) z (λ y. refl)))))
        | inr t ↦ rw t (turns_stay d free g g1 s1 (record { kept = λ j i. refl; refused = λ n. refl; levels = λ n. refl }) st1)
      ]
    where
      level_at : (y : ℕ) (c : Bool) → nat_eq y m ≡ c → (z : ℕ)
          → z ≡ d.code (d.world.order.join (r.level (tag_slot d.world m)) (d.world.order.join l (d.world.order.join (tag d.world i b) (tag d.world e b))))
          → (if c then z else at d g (tag_key y))
          ≡ (if c then d.code (d.world.order.join (r.level (tag_slot d.world y))
          (d.world.order.join l (d.world.order.join (tag d.world i b) (tag d.world e b)))) else at d g (tag_key y))
      level_at y true p z ez =
          ez
          ∙ ap (λ (x : ℕ). d.code (d.world.order.join (r.level (tag_slot d.world x))
          (d.world.order.join l (d.world.order.join (tag d.world i b) (tag d.world e b))))) (sym (eqb-true y m p))
      level_at y false p z ez = refl

  pub retag_cell_effect : (f : Going → Going) (go : Name → Going → Going) (enter : ℕ → ℕ → Store
      → After) (q : Group) (k free : ℕ) (sp : Home) (site m : ℕ) (j : Term ℕ) (n : LevelTerm) (l : ℕ) (b r : Store) (g : Going)
      → FineStep d.world q sp.children (retag_cell site m j n) → Begins d k sp (retag_cell site m j n) l b r g
      → Turns d free g (body_does widths f go (effect_of d sp k (retag_cell site m j n)) g) (effect (within d.world sp enter) (retag_cell site m j n) l b r)
  unfolding effect
  retag_cell_effect f go enter q k free sp site m j n l b r g fine h =
      let i = value d.world j b in
      let c = new_level d.world n b in
      let keep = d.world.order.le (level d.world (start m i) b) c in
      let v : ℕ = if keep then number (start m i) b else 0 in
      let x = value_in widths g (expr d j) in
      let ex : x ≡ i = expr_value d widths laws g b h.reads h.starts j fine.2 in
      let w = at d g (wire_key (k + 3)) in
      let g1 = put_next d g (tag_key m) x w in
      let y : ℕ = if at d g (wire_key (k + 4)) == 0 then 0 else g.now.cell (d.name (value_key m)) x in
      let ey : y ≡ v =
      ap (λ (z : ℕ). if z == 0 then 0 else g.now.cell (d.name (value_key m)) x) h.keeps ∙ chosen keep (g.now.cell (d.name (value_key m)) x) 0
      ∙ ap (λ (z : ℕ). if keep then z else 0) (ap (g.now.cell (d.name (value_key m))) ex ∙ h.starts m i fine.0) in
      let g2 = put_next d g1 (value_key m) x y in
      turns_stay d free g g2 _ (record { kept = λ j i. refl; refused = λ n. refl; levels = λ n. refl })
      (subst (λ (s : Store). Stands d g2 s) (swapped m i v c r fine.1)
      (number_next g1 (put_level d.world (next m i) c r) m i x y v (mark_next g r m i x w c h.stands fine.1 ex h.new) ex ey))
