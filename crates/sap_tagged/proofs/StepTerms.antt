-- Guards, tests, and what a step writes.
use Rattle.sap_lemmas.proofs.Common.{◌≡◌, ℕ, zero, suc, ◌<◌, Bool, true, false, ◌||◌, refl, sym, ap₂, ◌∙◌, subst, inl, inr, if◌then◌else◌, bit_and, cases_Bool, and_parts, or_right, true_is_not_false}
use Rattle.sap_maps.specs.Prelude.{Name, Term, cell}
use Rattle.sap_meaning.specs.Prelude.{World, is_dynamic, is_register, is_state, authority, children, Step, assign, write, retag, retag_cell, go_to, fall_to_child, state_node, Group, no_node, and_node, Store, own, start, level, child, value, tag, new_level, Home, entry, child_opens, guard, test, among, FineStep, size}
use Rattle.sap_ir.specs.Guarded.{Going, value_in}
use Rattle.sap_tagged.specs.Prelude.{tag_key, Setting, var, bits, lub, below_or_at, yes, expr, tag_of, new_tag, told_tag, seat_bits, seat_of, guard_of, test_of, written, stays, all_dynamic, always, Lawful, at, Stands}
use Rattle.sap_tagged.proofs.Bools.{tagged, enforced_within, kept_no_memory}
use Rattle.sap_tagged.proofs.Terms.{bit, both_bits, AllTagged, lub_value, below_value, mark, own_tag, value_tag, tag_value, new_value, told_value, enters_value, child_tag_value, child_enters_value, seat_value}

-- Where a body stands: its state and those of its group have tags, as have its children; if these are, they have a seat.
pub record Placed (w : World) (q : Group) (sp : Home) : Type 0 where
  pub here : among q sp.state ≡ true
  pub states : (t : ℕ) → among q t ≡ true → is_state w t ≡ true
  pub siblings : AllTagged w q
  pub kids : AllTagged w sp.children
  pub seated : children w sp.state ≡ size sp.children

-- the level that a step writes, and whether the number stays
abbrev pub level_written : World → Step → ℕ → Store → ℕ
level_written w (assign site x e) l s = w.order.join l (tag w e s)
level_written w (write site m i e) l s = w.order.join l (w.order.join (tag w i s) (tag w e s))
level_written w (retag site x n) l s = new_level w n s
level_written w (retag_cell site m j n) l s = new_level w n s
level_written w (go_to site target) l s = l
level_written w (fall_to_child site hang) l s = l

abbrev pub number_stays : World → Step → Store → Bool
number_stays w (assign site x e) s = true
number_stays w (write site m i e) s = true
number_stays w (retag site x n) s = w.order.le (level w (own x) s) (new_level w n s)
number_stays w (retag_cell site m j n) s = w.order.le (level w (start m (value w j s)) s) (new_level w n s)
number_stays w (go_to site target) s = true
number_stays w (fall_to_child site hang) s = true

module _ (d : Setting) (widths : Name → ℕ) (laws : Lawful d widths) (g : Going) (s : Store) (stands : Stands d g s) where
  register_tag : (x : ℕ) → is_register d.world x ≡ true → at d g (tag_key x) ≡ d.code (level d.world (own x) s)
  register_tag x h = value_tag d widths laws g s stands x (or_right _ (is_register d.world x) h)

  lubs : (a b : Term Name) (x y : ℕ) → value_in widths g a ≡ d.code x → value_in widths g b ≡ d.code y → value_in widths g (lub a b) ≡ d.code (d.world.order.join x y)
  lubs a b x y i j = lub_value d widths laws g a b x y i j

  -- what gets a level is enforced, and no memory
  retagged : (x : ℕ) → (is_register d.world x || is_state d.world x) ≡ true → is_dynamic d.world x ≡ false → at d g (tag_key x) ≡ d.code (level d.world (own x) s)
  retagged x k t = let m = kept_no_memory d.world x k in own_tag d widths laws g s stands x (tagged d.world x (enforced_within d.world x t) m) m

  -- the current child is one of the children
  has_child : (q : Group) (sp : Home) → Placed d.world q sp → 0 < children d.world sp.state → child sp.state s < size sp.children
  has_child q sp placed some = subst (λ (k : ℕ). child sp.state s < k) placed.seated (stands.seated sp.state some)

  pub guard_value : (q : Group) (sp : Home) (k : Step) → Placed d.world q sp → FineStep d.world q sp.children k
      → value_in widths g (guard_of d sp k) ≡ d.code (guard d.world sp k s)
  guard_value q sp (assign site x e) placed f = elim (cases_Bool (is_dynamic d.world x)) [
    | inl t ↦ rw t refl
    | inr t ↦ rw t (register_tag x f.0)
  ]
  guard_value q sp (write site m i e) placed f = elim (cases_Bool (is_dynamic d.world m)) [
    | inl t ↦ rw t refl
    | inr t ↦
        rw t
        (lubs (tag_of d i) (cell (d.name (tag_key m)) (expr d i)) _ _ (tag_value d widths laws g s stands i f.1)
        (mark d widths laws g s stands m i f.0 f.1 t))
  ]
  guard_value q sp (fall_to_child site hang) placed f =
      let some : 0 < children d.world sp.state = rw placed.seated f in
      child_tag_value d widths laws g s stands (seat_bits d sp.state) (seat_of d sp.state) sp.children (child sp.state s) 0 (has_child q sp placed some)
      (seat_value d widths laws g s stands sp.state some) placed.kids
  guard_value q sp _ placed f = refl

  pub test_value : (q : Group) (sp : Home) (k : Step) (pc : Term Name) (l : ℕ) → Placed d.world q sp → FineStep d.world q sp.children k → value_in widths g pc ≡ d.code l
      → value_in widths g (test_of d sp pc k) ≡ bit (test d.world sp k l s)
  test_value q sp (assign site x e) pc l placed f h = elim (cases_Bool (is_dynamic d.world x)) [
    | inl t ↦ rw t refl
    | inr t ↦
        rw t
        (below_value d widths laws g (lub pc (tag_of d e)) (var d (tag_key x)) _ _ (lubs pc (tag_of d e) l _ h (tag_value d widths laws g s stands e f.1)) (register_tag x f.0))
  ]
  test_value q sp (write site m i e) pc l placed f h = elim (cases_Bool (is_dynamic d.world m)) [
    | inl t ↦ rw t refl
    | inr t ↦
        rw t
        (below_value d widths laws g (lub pc (lub (tag_of d i) (tag_of d e))) (cell (d.name (tag_key m)) (expr d i)) _ _
        (lubs pc (lub (tag_of d i) (tag_of d e)) l _ h
        (lubs (tag_of d i) (tag_of d e) _ _ (tag_value d widths laws g s stands i f.1) (tag_value d widths laws g s stands e f.2)))
        (mark d widths laws g s stands m i f.0 f.1 t))
  ]
  test_value q sp (retag site x n) pc l placed f h =
      let a = below_value d widths laws g (lub pc (told_tag d n)) (bits d (authority d.world x)) _ (authority d.world x)
      (lubs pc (told_tag d n) l _ h (told_value d widths laws g s stands n f.2)) refl in
      let b = below_value d widths laws g (bits d (authority d.world x)) (new_tag d n) (authority d.world x) _ refl (new_value d widths laws g s stands n f.2) in
      ap₂ (λ (i j : ℕ). bit_and i j) a b ∙ both_bits _ _
  test_value q sp (retag_cell site m j n) pc l placed f h =
      let a = below_value d widths laws g (lub pc (lub (told_tag d n) (tag_of d j))) (bits d (authority d.world m)) _ (authority d.world m)
      (lubs pc (lub (told_tag d n) (tag_of d j)) l _ h
      (lubs (told_tag d n) (tag_of d j) _ _ (told_value d widths laws g s stands n f.3) (tag_value d widths laws g s stands j f.2))) refl in
      let b = below_value d widths laws g (bits d (authority d.world m)) (new_tag d n) (authority d.world m) _ refl (new_value d widths laws g s stands n f.3) in
      ap₂ (λ (i j : ℕ). bit_and i j) a b ∙ both_bits _ _
  test_value q sp (go_to site target) pc l placed f h =
      let t = placed.siblings target f in
      let z = placed.siblings sp.state placed.here in
      ap₂ (λ (i j : ℕ). bit_and i j) (enters_value d widths laws g s stands pc l target h t.0 t.1)
      (unless (is_dynamic d.world sp.state) (d.world.order.le (d.world.order.join l (entry d.world target)) (level d.world (own sp.state) s))
      (below_or_at (lub pc (bits d (entry d.world target))) (var d (tag_key sp.state)))
      (below_value d widths laws g (lub pc (bits d (entry d.world target))) (var d (tag_key sp.state)) _ _
      (lubs pc (bits d (entry d.world target)) l (entry d.world target) h refl) (own_tag d widths laws g s stands sp.state z.0 z.1)))
      ∙ both_bits _ _
    where
      unless : (b c : Bool) (t : Term Name) → value_in widths g t ≡ bit c → value_in widths g (if b then yes else t) ≡ bit (b || c)
      unless true c t e = refl
      unless false c t e = e
  test_value q sp (fall_to_child site hang) pc l placed f h =
      let some : 0 < children d.world sp.state = rw placed.seated f in
      child_enters_value d widths laws g s stands pc (seat_bits d sp.state) (seat_of d sp.state) l sp.children (child sp.state s) 0 (has_child q sp placed some) h
      (seat_value d widths laws g s stands sp.state some) placed.kids

  pub written_value : (q : Group) (sp : Home) (k : Step) (pc : Term Name) (l : ℕ) → FineStep d.world q sp.children k → value_in widths g pc ≡ d.code l
      → value_in widths g (written d pc k) ≡ d.code (level_written d.world k l s)
  written_value q sp (assign site x e) pc l f h = lubs pc (tag_of d e) l _ h (tag_value d widths laws g s stands e f.1)
  written_value q sp (write site m i e) pc l f h =
      lubs pc (lub (tag_of d i) (tag_of d e)) l _ h
      (lubs (tag_of d i) (tag_of d e) _ _ (tag_value d widths laws g s stands i f.1) (tag_value d widths laws g s stands e f.2))
  written_value q sp (retag site x n) pc l f h = new_value d widths laws g s stands n f.2
  written_value q sp (retag_cell site m j n) pc l f h = new_value d widths laws g s stands n f.3
  written_value q sp _ pc l f h = h

  pub stays_value : (q : Group) (sp : Home) (k : Step) → FineStep d.world q sp.children k → value_in widths g (stays d k) ≡ bit (number_stays d.world k s)
  stays_value q sp (retag site x n) f =
      below_value d widths laws g (var d (tag_key x)) (new_tag d n) _ _ (retagged x f.0 f.1) (new_value d widths laws g s stands n f.2)
  stays_value q sp (retag_cell site m j n) f =
      below_value d widths laws g (cell (d.name (tag_key m)) (expr d j)) (new_tag d n) _ _ (mark d widths laws g s stands m j f.0 f.2 f.1)
      (new_value d widths laws g s stands n f.3)
  stays_value q sp _ f = refl

-- where a step is no check site its test holds

all_open : (w : World) (k : Group) (n l : ℕ) (s : Store) → all_dynamic w k ≡ true → child_opens w k n l s ≡ true
all_open w no_node n l s h = refl
all_open w (and_node (state_node c b k) g) zero l s h = rw ((and_parts (is_dynamic w c) (all_dynamic w g) h).0) refl
all_open w (and_node (state_node c b k) g) (suc n) l s h = all_open w g n l s ((and_parts (is_dynamic w c) (all_dynamic w g) h).1)

pub always_holds : (w : World) (sp : Home) (k : Step) (l : ℕ) (s : Store) → always w sp k ≡ true → test w sp k l s ≡ true
always_holds w sp (assign site x e) l s h = rw h refl
always_holds w sp (write site m i e) l s h = rw h refl
always_holds w sp (go_to site target) l s h =
    let a = and_parts (is_dynamic w target) (is_dynamic w sp.state) h in rw (a.0, a.1) refl
always_holds w sp (fall_to_child site hang) l s h = all_open w sp.children (child sp.state s) l s h
always_holds w sp _ l s h = absurd (true_is_not_false (sym h))
