-- Effects of assignments, of new levels and of falls.
use Rattle.sap_lemmas.proofs.Common.{◌≡◌, ℕ, ◌+◌, ◌≤◌, Bool, true, false, ◌||◌, List, refl, sym, ap, ◌∙◌, subst, nat_eq, inl, inr, if◌then◌else◌, ◌==◌, cases_Bool, eqb-true, or_right, true_is_not_false}
use Rattle.sap_maps.specs.Prelude.{Name, Term}
use Rattle.sap_meaning.specs.Prelude.{within, Kind, entity, is_dynamic, is_register, is_memory, kind_is_input, kind_is_register, kind_is_state, LevelTerm, Step, assign, retag, fall_to_child, Group, own, start, Store, number, level, child, put_number, put_level, After, value, tag, new_level, Home, guard, child_level, effect, FineStep}
use Rattle.sap_meaning.specs.Program as program
use Rattle.sap_ir.specs.Prelude.{Going, value_in, body_does}
use Rattle.sap_tagged.specs.Prelude.{value_key, tag_key, seat_key, refused_key, level_key, wire_key, inner_key, Setting, expr, effect_of, Lawful, at, is_value, has_tag, Stands, Turns}
use Rattle.sap_tagged.proofs.Bools.{register_within, tagged, value_no_memory, kept_no_memory}
use Rattle.sap_tagged.proofs.Terms.{bit, expr_value, own_tag}
use Rattle.sap_tagged.proofs.StepTerms.{level_written, number_stays}
use Rattle.sap_tagged.proofs.Puts.{put_to, at_put, kept_next, kept_put, memory_put, stands_set, stands_aside}
use Rattle.sap_tagged.proofs.Looks.{Quiet, quiet_next, turns_after, turns_stay, quiet_inner, aside_inner, here_inner}

-- A step's effect begins: b is the store before, and r the raised one.
pub record Begins (d : Setting) (k : ℕ) (sp : Home) (t : Step) (l : ℕ) (b r : Store) (g : Going) : Type 0 where
  pub stands : Stands d g r
  pub reads : (x : ℕ) → is_value d.world x ≡ true → at d g (value_key x) ≡ number (own x) b
  pub starts : (m i : ℕ) → is_memory d.world m ≡ true → g.now.cell (d.name (value_key m)) i ≡ number (start m i) b
  pub seats : r.child ≡ b.child
  pub inside : at d g (wire_key (k + 2)) ≡ d.code (d.world.order.join l (guard d.world sp t b))
  pub new : at d g (wire_key (k + 3)) ≡ d.code (level_written d.world t l b)
  pub keeps : at d g (wire_key (k + 4)) ≡ bit (number_stays d.world t b)

-- what a fall does, which leaves the wires before `base` alone
abbrev pub FallsRun : Setting → (Going → Going) → (base state : ℕ) → (ℕ → ℕ → Store → After) → Type 0
FallsRun d f base st enter =
    (g : Going) (s : Store) (l : ℕ) → Stands d g s → at d g (inner_key st) ≡ d.code l → Turns d base g (f g) (enter (child st s) l s)

pub chosen : (b : Bool) (x y : ℕ) → (if bit b == 0 then y else x) ≡ (if b then x else y)
chosen true x y = refl
chosen false x y = refl

module _ (d : Setting) (widths : Name → ℕ) (laws : Lawful d widths) where
  pub quiet_value : (k x : ℕ) (g : Going) (v : ℕ) → Quiet d k g (put_to d g (value_key x) v)
  quiet_value k x g v = record {
    kept = λ j l. at_put d widths laws g (value_key x) (wire_key j) v;
    refused = λ n. at_put d widths laws g (value_key x) (refused_key n) v;
    levels = λ n. at_put d widths laws g (value_key x) (level_key n) v;
  }

  pub quiet_tag : (k x : ℕ) (g : Going) (v : ℕ) → Quiet d k g (put_to d g (tag_key x) v)
  quiet_tag k x g v = record {
    kept = λ j l. at_put d widths laws g (tag_key x) (wire_key j) v;
    refused = λ n. at_put d widths laws g (tag_key x) (refused_key n) v;
    levels = λ n. at_put d widths laws g (tag_key x) (level_key n) v;
  }

  -- a tag and then a number
  both_put : (g : Going) (r : Store) (x v c y z : ℕ) → Stands d g r → is_memory d.world x ≡ false → y ≡ v → z ≡ d.code c
      → Stands d (put_to d (put_to d g (tag_key x) z) (value_key x) y) (put_level d.world (own x) c (put_number (own x) v r))
  both_put g r x v c y z st m ey ez =
      let g1 = put_to d g (tag_key x) z in
      stands_set d g (put_to d g1 (value_key x) y) r x v c st m
      (λ n h.
      at_put d widths laws g1 (value_key x) (value_key n) y ∙ ap (λ (q : ℕ). if nat_eq n x then q else at d g1 (value_key n)) ey
      ∙ ap (λ (q : ℕ). if nat_eq n x then v else q) (at_put d widths laws g (tag_key x) (value_key n) z))
      (λ n h.
      at_put d widths laws g1 (value_key x) (tag_key n) y ∙ at_put d widths laws g (tag_key x) (tag_key n) z
      ∙ ap (λ (q : ℕ). if nat_eq n x then q else at d g (tag_key n)) ez)
      (λ n. at_put d widths laws g1 (value_key x) (seat_key n) y ∙ at_put d widths laws g (tag_key x) (seat_key n) z)
      (kept_next d g g1 _ (kept_put d widths laws g (tag_key x) z (λ m. refl)) (kept_put d widths laws g1 (value_key x) y (λ m. refl)))

  -- a number, where the level stays
  value_put : (g : Going) (r : Store) (x v y : ℕ) → Stands d g r → has_tag d.world x ≡ true → is_memory d.world x ≡ false → y ≡ v
      → Stands d (put_to d g (value_key x) y) (put_level d.world (own x) (level d.world (own x) r) (put_number (own x) v r))
  value_put g r x v y st w m e =
      stands_set d g (put_to d g (value_key x) y) r x v (level d.world (own x) r) st m
      (λ n h. at_put d widths laws g (value_key x) (value_key n) y ∙ ap (λ (q : ℕ). if nat_eq n x then q else at d g (value_key n)) e)
      (λ n h. at_put d widths laws g (value_key x) (tag_key n) y ∙ same_tag n (nat_eq n x) refl)
      (λ n. at_put d widths laws g (value_key x) (seat_key n) y)
      (kept_put d widths laws g (value_key x) y (λ m. refl))
    where
      same_tag : (n : ℕ) (b : Bool) → nat_eq n x ≡ b → at d g (tag_key n) ≡ (if b then d.code (level d.world (own x) r) else at d g (tag_key n))
      same_tag n true q = ap (λ (k : ℕ). at d g (tag_key k)) (eqb-true n x q) ∙ own_tag d widths laws g r st x w m
      same_tag n false q = refl

  -- a tag alone, of what has no number
  pub tag_put : (g : Going) (r : Store) (x v c z : ℕ) → Stands d g r → is_memory d.world x ≡ false → is_value d.world x ≡ false → z ≡ d.code c
      → Stands d (put_to d g (tag_key x) z) (put_level d.world (own x) c (put_number (own x) v r))
  tag_put g r x v c z st m none e =
      stands_set d g (put_to d g (tag_key x) z) r x v c st m
      (λ n h. at_put d widths laws g (tag_key x) (value_key n) z ∙ other n (nat_eq n x) refl h)
      (λ n h. at_put d widths laws g (tag_key x) (tag_key n) z ∙ ap (λ (q : ℕ). if nat_eq n x then q else at d g (tag_key n)) e)
      (λ n. at_put d widths laws g (tag_key x) (seat_key n) z)
      (kept_put d widths laws g (tag_key x) z (λ m. refl))
    where
      other : (n : ℕ) (b : Bool) → nat_eq n x ≡ b → is_value d.world n ≡ true → at d g (value_key n) ≡ (if b then v else at d g (value_key n))
      other n true q h = absurd (true_is_not_false (sym h ∙ ap (is_value d.world) (eqb-true n x q) ∙ none))
      other n false q h = refl

  state_kind : (k : Kind) → (kind_is_register k || kind_is_state k) ≡ true → kind_is_register k ≡ false → (kind_is_input k || kind_is_register k) ≡ false
  state_kind program.input h f = absurd (true_is_not_false (sym h))
  state_kind program.register h f = f
  state_kind _ h f = refl

  module _ (f : Going → Going) (go : Name → Going → Going) (enter : ℕ → ℕ → Store → After) where
    -- An effect leaves all wires alone, but for a fall those from `base` on: so those before `free` stay.
    pub set_effect : (q : Group) (k free : ℕ) (sp : Home) (site x : ℕ) (e : Term ℕ) (l : ℕ) (b r : Store) (g : Going) → FineStep d.world q sp.children (assign site x e)
        → Begins d k sp (assign site x e) l b r g
        → Turns d free g (body_does widths f go (effect_of d sp k (assign site x e)) g) (effect (within d.world sp enter) (assign site x e) l b r)
    unfolding effect put_to
    set_effect q k free sp site x e l b r g fine h = elim (cases_Bool (is_dynamic d.world x)) [
      | inl t ↦
          rw t
          (turns_stay d free g _ _ (quiet_next d free g g1 _ (quiet_tag free x g _) (quiet_value free x g1 _))
          (both_put g r x (value d.world e b) (d.world.order.join l (tag d.world e b)) (value_in widths g1 (expr d e)) (at d g (wire_key (k + 3))) h.stands m
          (expr_value d widths laws g1 b (λ n i. at_put d widths laws g (tag_key x) (value_key n) _ ∙ h.reads n i)
          (λ n i j. ap (λ (c : Name → ℕ → ℕ). c (d.name (value_key n)) i) ((memory_put d g (tag_key x) (at d g (wire_key (k + 3)))).0) ∙ h.starts n i j) e fine.1) h.new))
      | inr t ↦
          rw t
          (turns_stay d free g _ _ (quiet_value free x g _)
          (value_put g r x (value d.world e b) (value_in widths g (expr d e)) h.stands w m (expr_value d widths laws g b h.reads h.starts e fine.1)))
    ]
      where
        m : is_memory d.world x ≡ false
        m = value_no_memory d.world x (or_right _ (is_register d.world x) fine.0)

        w : has_tag d.world x ≡ true
        w = tagged d.world x (register_within d.world x fine.0) m

        g1 : Going
        g1 = put_to d g (tag_key x) (at d g (wire_key (k + 3)))

    pub retag_effect : (q : Group) (k free : ℕ) (sp : Home) (site x : ℕ) (n : LevelTerm) (l : ℕ) (b r : Store) (g : Going) → FineStep d.world q sp.children (retag site x n)
        → Begins d k sp (retag site x n) l b r g
        → Turns d free g (body_does widths f go (effect_of d sp k (retag site x n)) g) (effect (within d.world sp enter) (retag site x n) l b r)
    unfolding effect put_to
    retag_effect q k free sp site x n l b r g fine h = elim (cases_Bool (is_register d.world x)) [
      | inl t ↦
          rw t
          (turns_stay d free g _ _ (quiet_next d free g g1 _ (quiet_tag free x g _) (quiet_value free x g1 _))
          (both_put g r x (if stay_test then number (own x) b else 0) (new_level d.world n b) _ (at d g (wire_key (k + 3))) h.stands m
          (ap (λ (z : ℕ). if z == 0 then 0 else at d g1 (value_key x)) (at_put d widths laws g (tag_key x) (wire_key (k + 4)) _ ∙ h.keeps)
          ∙ chosen stay_test (at d g1 (value_key x)) 0
          ∙ ap (λ (z : ℕ). if stay_test then z else 0) (at_put d widths laws g (tag_key x) (value_key x) _ ∙ h.reads x (or_right _ (is_register d.world x) t))) h.new))
      | inr t ↦
          rw t
          (turns_stay d free g _ _ (quiet_tag free x g _)
          (tag_put g r x (if stay_test then number (own x) b else 0) (new_level d.world n b) _ h.stands m (state_kind (entity d.world x).kind fine.0 t) h.new))
    ]
      where
        m : is_memory d.world x ≡ false
        m = kept_no_memory d.world x fine.0

        stay_test : Bool
        stay_test = d.world.order.le (level d.world (own x) b) (new_level d.world n b)

        g1 : Going
        g1 = put_to d g (tag_key x) (at d g (wire_key (k + 3)))

    pub fall_effect : (base k free : ℕ) (sp : Home) (site : ℕ) (hang : List Bool) (l : ℕ) (b r : Store) (g : Going) → free ≤ base → FallsRun d f base sp.state enter
        → Begins d k sp (fall_to_child site hang) l b r g
        → Turns d free g (body_does widths f go (effect_of d sp k (fall_to_child site hang)) g) (effect (within d.world sp enter) (fall_to_child site hang) l b r)
    unfolding effect put_to
    fall_effect base k free sp site hang l b r g fb falls h =
        let g1 = put_to d g (inner_key sp.state) (at d g (wire_key (k + 2))) in
        let c = d.world.order.join l (child_level d.world sp.children (child sp.state b) b) in
        let t = falls g1 r c (stands_aside d g g1 r h.stands (aside_inner d widths laws sp.state g _)) (here_inner d widths laws sp.state g _ ∙ h.inside) in
        turns_after d free base g g1 (f g1) _ fb (quiet_inner d widths laws free sp.state g _)
        (subst (λ (cs : ℕ → ℕ). Turns d base g1 (f g1) (enter (cs sp.state) c r)) h.seats t)
