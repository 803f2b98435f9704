-- Terms keep the rules of names and of widths.
use Rattle.sap_lemmas.proofs.Common.{◌≡◌, ℕ, zero, suc, ◌+◌, ◌-◌, ◌^◌, ◌<◌, ◌≤◌, Bool, true, false, ◌||◌, Some, refl, sym, ap, ◌∙◌, subst, if◌then◌else◌, arith, nat_lt, inl, inr, cases_Bool, eq-eqb, or_left, or_right, common_steps, pow_pos, pow-le-pow_right}
use Rattle.sap_resolved.proofs.SizedLemmas.{ranged_width}
use Rattle.sap_bits.specs.declared.Op2.TheVariants.{And, Eq}
use Rattle.sap_maps.specs.Prelude.{Name, find, Term, constant, read, cell, one, two, choose, join, part}
use Rattle.sap_meaning.specs.Prelude.{World, root, is_dynamic, is_memory, is_register, is_state, authority, width, children, LevelTerm, fixed, of, at_place, both, Step, assign, write, retag, retag_cell, go_to, fall_to_child, state_node, Group, no_node, and_node, width_of, Home, entry, FineTerm, FineLevel, FineStep, size, depth, Indexes, SizedTerm, SizedLevel, SizedStep}
use Rattle.sap_resolved.specs.Sized.Ranges.{IsWidth, RangedTerm, RangedLevel, RangedStep}
use Rattle.sap_ir.specs.Prelude.{Source, readable, shapes, TermFine, seat_width}
use Rattle.sap_ir.proofs.plain.SeatWidths.{seat_positive, seat_within}
use Rattle.sap_tagged.specs.Prelude.{value_key, tag_key, seat_key, first_key, inner_key, Setting, var, bits, lub, below_or_at, yes, expr, cell_tag, tag_of, place_width, widened, placed, new_tag, told_tag, child_tag, enters, child_enters, seat_bits, seat_of, guard_of, test_of, written, stays, saved, is_value, has_tag}
use Rattle.sap_tagged.proofs.Bools.{value_within, value_no_memory, kept_no_memory, enforced_within, tagged}
use Rattle.sap_tagged.proofs.Terms.{AllTagged}
use Rattle.sap_tagged.proofs.StepTerms.{Placed}
use Rattle.sap_tagged.proofs.Conditions.{Conditions, LevelConditions, StepConditions}

-- what a program declares for a design, with what levels are like
pub record Declares (d : Setting) (s : Source) : Type 0 where
  pub values : (x : ℕ) → is_value d.world x ≡ true → find (readable s) (d.name (value_key x)) ≡ Some (width d.world x)
  pub tags : (x : ℕ) → has_tag d.world x ≡ true → find (readable s) (d.name (tag_key x)) ≡ Some d.tag
  pub seats : (p : ℕ) → 0 < children d.world p → find (readable s) (d.name (seat_key p)) ≡ Some (seat_width (children d.world p))
  pub firsts : (m : ℕ) → saved d.world m ≡ true → find (readable s) (d.name (first_key m)) ≡ Some d.tag
  pub inners : (x : ℕ) → nat_lt x (root d.world) ≡ true → 0 < children d.world x → find (readable s) (d.name (inner_key x)) ≡ Some d.tag
  pub stores : (m : ℕ) → is_memory d.world m ≡ true → find (shapes s) (d.name (value_key m)) ≡ Some (width d.world m, depth d.world m)
  pub marks : (m : ℕ) → is_memory d.world m ≡ true → is_dynamic d.world m ≡ false → find (shapes s) (d.name (tag_key m)) ≡ Some (d.tag, depth d.world m)
  pub wide : IsWidth d.tag
  pub small : (x : ℕ) → d.code x < 2 ^ d.tag
  pub few_levels : d.world.order.count ≤ 64
  pub few_children : (p : ℕ) → children d.world p ≤ 2 ^ seat_width (children d.world p)

-- widths

pub one_bit : IsWidth 1
one_bit = (omega arith, omega arith)

-- a term of a program that fits
pub record Fit (w : World) (e : Term ℕ) : Type 0 where
  pub fine : FineTerm w e
  pub sized : SizedTerm w e
  pub ranged : RangedTerm w e
  pub conditions : Conditions w e

pub record FitLevel (w : World) (n : LevelTerm) : Type 0 where
  pub fine : FineLevel w n
  pub sized : SizedLevel w n
  pub ranged : RangedLevel w n
  pub conditions : LevelConditions w n

pub record FitStep (w : World) (q g : Group) (k : Step) : Type 0 where
  pub fine : FineStep w q g k
  pub sized : SizedStep w k
  pub ranged : RangedStep w k
  pub conditions : StepConditions w k

module _ (d : Setting) (s : Source) (h : Declares d s) where
  abbrev pub Fine : ℕ → Term Name → Type 0
  Fine k t = TermFine (shapes s) (readable s) k t

  pub number_fine : (e : Term ℕ) → FineTerm d.world e → SizedTerm d.world e → RangedTerm d.world e → Conditions d.world e → Fine (width_of d.world e) (expr d e)
  number_fine (constant v n) f t r c = (refl, t.0)
  number_fine (read x) f t r c = h.values x f
  number_fine (cell m i) f t r c = (
    width_of d.world i,
    ranged_width d.world i r.1,
    h.stores m f.0 ∙ ap (λ (n : ℕ). Some (width d.world m, n)) (sym t.1.0),
    number_fine i f.1 (t.0, t.1.1) r.1 c,
  )
  number_fine (one op a) f t r c = (width_of d.world a, ranged_width d.world a r, number_fine a f t r c, refl)
  number_fine (two op a e) f t r c = (
    width_of d.world a,
    width_of d.world e,
    ranged_width d.world a r.0,
    ranged_width d.world e r.1,
    number_fine a f.0 (t.0.0, t.1.0) r.0 c.0,
    number_fine e f.1 (t.0.1, t.1.1) r.1 c.1,
    t.0.2,
    refl,
  )
  number_fine (choose q a e) f t r c = (
    subst (λ (k : ℕ). Fine k (expr d q)) c.0 (number_fine q f.0 (t.0.0, t.1.0) r.0 c.1),
    number_fine a f.1 (t.0.1, t.1.1) r.1 c.2,
    subst (λ (k : ℕ). Fine k (expr d e)) t.0.3 (number_fine e f.2 (t.0.2, t.1.2) r.2 c.3),
  )
  number_fine (join a e) f t r c = (
    width_of d.world a,
    width_of d.world e,
    ranged_width d.world a r.1,
    ranged_width d.world e r.2,
    number_fine a f.0 (t.0.0, t.1.0) r.1 c.0,
    number_fine e f.1 (t.0.1, t.1.1) r.2 c.1,
    refl,
  )
  number_fine (part a hi lo) f t r c = (width_of d.world a, ranged_width d.world a r.2, number_fine a f (t.0.0, t.1) r.2 c, r.0, r.1, refl)

  pub expr_fine : (e : Term ℕ) → Fit d.world e → Fine (width_of d.world e) (expr d e)
  expr_fine e f = number_fine e f.fine f.sized f.ranged f.conditions

  pub bits_fine : (l : ℕ) → Fine d.tag (bits d l)
  bits_fine l = (refl, h.small l)

  pub lub_fine : (x y : Term Name) → Fine d.tag x → Fine d.tag y → Fine d.tag (lub x y)
  lub_fine x y f g = (d.tag, d.tag, h.wide, h.wide, f, g, refl, refl)

  pub below_fine : (x y : Term Name) → Fine d.tag x → Fine d.tag y → Fine 1 (below_or_at x y)
  below_fine x y f g = (d.tag, d.tag, h.wide, h.wide, lub_fine x y f g, g, refl, refl)

  both_fine : (x y : Term Name) → Fine 1 x → Fine 1 y → Fine 1 (two And x y)
  both_fine x y f g = (1, 1, one_bit, one_bit, f, g, refl, refl)

  pub yes_fine : Fine 1 yes
  yes_fine = (refl, omega arith)

  mark_fine : (m : ℕ) (i : Term ℕ) → is_memory d.world m ≡ true → is_dynamic d.world m ≡ false → Fit d.world i → Indexes d.world m i
      → Fine d.tag (cell (d.name (tag_key m)) (expr d i))
  mark_fine m i e t f x = (width_of d.world i, ranged_width d.world i f.ranged, h.marks m e t ∙ ap (λ (n : ℕ). Some (d.tag, n)) (sym x), expr_fine i f)

  cell_tag_fine : (m : ℕ) (i : Term ℕ) → is_memory d.world m ≡ true → Fit d.world i → Indexes d.world m i → Fine d.tag (cell_tag d m i)
  cell_tag_fine m i e f x = elim (cases_Bool (is_dynamic d.world m)) [
    | inl t ↦ rw t (h.firsts m (rw (e, t) refl))
    | inr t ↦ rw t (mark_fine m i e t f x)
  ]

  own_tag_fine : (x : ℕ) → is_value d.world x ≡ true → Fine d.tag (var d (tag_key x))
  own_tag_fine x v = h.tags x (tagged d.world x (value_within d.world x v) (value_no_memory d.world x v))

  pub level_fine : (e : Term ℕ) → FineTerm d.world e → SizedTerm d.world e → RangedTerm d.world e → Conditions d.world e → Fine d.tag (tag_of d e)
  level_fine (constant v n) f t r c = bits_fine d.world.order.bottom
  level_fine (read x) f t r c = own_tag_fine x f
  level_fine (cell m i) f t r c =
      lub_fine (tag_of d i) (cell_tag d m i) (level_fine i f.1 (t.0, t.1.1) r.1 c)
      (cell_tag_fine m i f.0 (record { fine = f.1; sized = (t.0, t.1.1); ranged = r.1; conditions = c }) t.1.0)
  level_fine (one op a) f t r c = level_fine a f t r c
  level_fine (two op a e) f t r c =
      lub_fine (tag_of d a) (tag_of d e) (level_fine a f.0 (t.0.0, t.1.0) r.0 c.0) (level_fine e f.1 (t.0.1, t.1.1) r.1 c.1)
  level_fine (choose q a e) f t r c =
      lub_fine (tag_of d q) (lub (tag_of d a) (tag_of d e)) (level_fine q f.0 (t.0.0, t.1.0) r.0 c.1)
      (lub_fine (tag_of d a) (tag_of d e) (level_fine a f.1 (t.0.1, t.1.1) r.1 c.2) (level_fine e f.2 (t.0.2, t.1.2) r.2 c.3))
  level_fine (join a e) f t r c =
      lub_fine (tag_of d a) (tag_of d e) (level_fine a f.0 (t.0.0, t.1.0) r.1 c.0) (level_fine e f.1 (t.0.1, t.1.1) r.2 c.1)
  level_fine (part a hi lo) f t r c = level_fine a f (t.0.0, t.1) r.2 c

  -- places

  widened_fine : (u : ℕ) (e : Term Name) → IsWidth u → Fine u e → Fine (place_width u) (widened u e)
  widened_fine u e w f = elim (cases_Bool (nat_lt u 6)) [
    | inl t ↦ rw t (6 - u, u, (rest u t w), w, (refl, pow_pos (6 - u)), f, whole u t)
    | inr t ↦ rw t f
  ]
    where
      rest : (u : ℕ) → nat_lt u 6 ≡ true → IsWidth u → IsWidth (6 - u)
      rest u t w = (grind (arith, common_steps), omega arith)

      whole : (u : ℕ) → nat_lt u 6 ≡ true → 6 ≡ 6 - u + u
      whole u t = grind (arith, common_steps)

  place_wide : (u : ℕ) → IsWidth u → IsWidth (place_width u)
  place_wide u w = elim (cases_Bool (nat_lt u 6)) [ inl t ↦ rw t (omega arith, omega arith) | inr t ↦ rw t w ]

  six_bits : (u i : ℕ) → i < 64 → i < 2 ^ place_width u
  six_bits u i l = elim (cases_Bool (nat_lt u 6)) [
    | inl t ↦ rw t l
    | inr t ↦ rw t (more u (at_least u t))
  ]
    where
      at_least : (u : ℕ) → nat_lt u 6 ≡ false → 6 ≤ u
      at_least u t = grind (arith, common_steps)

      more : (u : ℕ) → 6 ≤ u → i < 2 ^ u
      more u k = let p : 2 ^ 6 ≤ 2 ^ u = pow-le-pow_right {n = 2} (omega arith) {i = 6} {j = u} k in omega (arith, p, l)

  placed_fine : (u : ℕ) (e : Term Name) (i m : ℕ) → IsWidth (place_width u) → Fine (place_width u) e → i + m ≤ 64 → Fine d.tag (placed d (place_width u) e i m)
  placed_fine u e i zero w f l = bits_fine d.world.order.top
  placed_fine u e i (suc m) w f l = (
    (place_width u, place_width u, w, w, f, (refl, six_bits u i (omega (arith, l))), refl, refl),
    bits_fine i,
    placed_fine u e (i + 1) m w f (omega (arith, l)),
  )

  pub new_fine : (n : LevelTerm) → FineLevel d.world n → SizedLevel d.world n → RangedLevel d.world n → LevelConditions d.world n → Fine d.tag (new_tag d n)
  new_fine (fixed n) f t r c = bits_fine n
  new_fine (of e) f t r c = level_fine e f t r c
  new_fine (at_place e) f t r c =
      let u = width_of d.world e in
      let w = ranged_width d.world e r in
      let few = h.few_levels in
      placed_fine u (widened u (expr d e)) 0 d.world.order.count (place_wide u w) (widened_fine u (expr d e) w (number_fine e f t r c)) (omega (arith, few))
  new_fine (both a b) f t r c = lub_fine (new_tag d a) (new_tag d b) (new_fine a f.0 t.0 r.0 c.0) (new_fine b f.1 t.1 r.1 c.1)

  pub told_fine : (n : LevelTerm) → FineLevel d.world n → SizedLevel d.world n → RangedLevel d.world n → LevelConditions d.world n → Fine d.tag (told_tag d n)
  told_fine (fixed n) f t r c = bits_fine d.world.order.bottom
  told_fine (of e) f t r c = level_fine e f t r c
  told_fine (at_place e) f t r c = level_fine e f t r c
  told_fine (both a b) f t r c = lub_fine (told_tag d a) (told_tag d b) (told_fine a f.0 t.0 r.0 c.0) (told_fine b f.1 t.1 r.1 c.1)

  -- children

  enters_fine : (pc : Term Name) (c : ℕ) → Fine d.tag pc → has_tag d.world c ≡ true → Fine 1 (enters d pc c)
  enters_fine pc c p t = elim (cases_Bool (is_dynamic d.world c)) [
    | inl q ↦ rw q yes_fine
    | inr q ↦ rw q (below_fine pc (var d (tag_key c)) p (h.tags c t))
  ]

  seat_wide : (n : ℕ) → IsWidth (seat_width n)
  seat_wide n = (seat_positive n, seat_within n)

  is_child : (u : ℕ) (seat : Term Name) (i : ℕ) → IsWidth u → Fine u seat → i < 2 ^ u → Fine 1 (two Eq seat (constant u i))
  is_child u seat i w f l = (u, u, w, w, f, (refl, l), refl, refl)

  first_tagged : (c : ℕ) (b : _) (k g : Group) → AllTagged d.world (and_node (state_node c b k) g) → has_tag d.world c ≡ true
  first_tagged c b k g f = (f c (or_left _ _ (eq-eqb c c refl))).0

  rest_tagged : (c : ℕ) (b : _) (k g : Group) → AllTagged d.world (and_node (state_node c b k) g) → AllTagged d.world g
  rest_tagged c b k g f n i = f n (or_right _ _ i)

  child_tag_fine : (u : ℕ) (seat : Term Name) (g : Group) (i : ℕ) → IsWidth u → Fine u seat → i + size g ≤ 2 ^ u → AllTagged d.world g → Fine d.tag (child_tag d u seat g i)
  child_tag_fine u seat no_node i w f l t = bits_fine d.world.order.bottom
  child_tag_fine u seat (and_node (state_node c b k) no_node) i w f l t = h.tags c (first_tagged c b k no_node t)
  child_tag_fine u seat (and_node (state_node c b k) (and_node s g)) i w f l t = (
    is_child u seat i w f (omega (arith, l)),
    h.tags c (first_tagged c b k (and_node s g) t),
    child_tag_fine u seat (and_node s g) (i + 1) w f (omega (arith, l)) (rest_tagged c b k (and_node s g) t),
  )

  child_enters_fine : (pc : Term Name) (u : ℕ) (seat : Term Name) (g : Group) (i : ℕ) → Fine d.tag pc → IsWidth u → Fine u seat → i + size g ≤ 2 ^ u → AllTagged d.world g
      → Fine 1 (child_enters d pc u seat g i)
  child_enters_fine pc u seat no_node i p w f l t = yes_fine
  child_enters_fine pc u seat (and_node (state_node c b k) no_node) i p w f l t = enters_fine pc c p (first_tagged c b k no_node t)
  child_enters_fine pc u seat (and_node (state_node c b k) (and_node s g)) i p w f l t = (
    is_child u seat i w f (omega (arith, l)),
    enters_fine pc c p (first_tagged c b k (and_node s g) t),
    child_enters_fine pc u seat (and_node s g) (i + 1) p w f (omega (arith, l)) (rest_tagged c b k (and_node s g) t),
  )

  module _ (q : Group) (sp : Home) (placed : Placed d.world q sp) where
    children_fit : 0 + size sp.children ≤ 2 ^ seat_bits d sp.state
    children_fit = let e = placed.seated in let l = h.few_children sp.state in omega (arith, e, l)

    seat_fine : 0 < size sp.children → Fine (seat_bits d sp.state) (seat_of d sp.state)
    seat_fine l = h.seats sp.state (rw placed.seated l)

    term_fit : (e : Term ℕ) → FineTerm d.world e → SizedTerm d.world e → RangedTerm d.world e → Conditions d.world e → Fit d.world e
    term_fit e f t r c = record { fine = f; sized = t; ranged = r; conditions = c }

    register_tag : (x : ℕ) → is_register d.world x ≡ true → Fine d.tag (var d (tag_key x))
    register_tag x r = own_tag_fine x (or_right _ (is_register d.world x) r)

    retagged_fine : (x : ℕ) → (is_register d.world x || is_state d.world x) ≡ true → is_dynamic d.world x ≡ false → Fine d.tag (var d (tag_key x))
    retagged_fine x k t = h.tags x (tagged d.world x (enforced_within d.world x t) (kept_no_memory d.world x k))

    pub guard_fine : (k : Step) → FineStep d.world q sp.children k → SizedStep d.world k → RangedStep d.world k → StepConditions d.world k → Fine d.tag (guard_of d sp k)
    guard_fine (assign site x e) f t r c = elim (cases_Bool (is_dynamic d.world x)) [
      | inl i ↦ rw i (bits_fine d.world.order.bottom)
      | inr i ↦ rw i (register_tag x f.0)
    ]
    guard_fine (write site m i e) f t r c = elim (cases_Bool (is_dynamic d.world m)) [
      | inl j ↦ rw j (bits_fine d.world.order.bottom)
      | inr j ↦
          rw j
          (lub_fine (tag_of d i) (cell (d.name (tag_key m)) (expr d i)) (level_fine i f.1 t.0 r.0 c.0) (mark_fine m i f.0 j (term_fit i f.1 t.0 r.0 c.0) t.1))
    ]
    guard_fine (retag site x n) f t r c = bits_fine (authority d.world x)
    guard_fine (retag_cell site m j n) f t r c = bits_fine (authority d.world m)
    guard_fine (go_to site target) f t r c = bits_fine (entry d.world target)
    guard_fine (fall_to_child site hang) f t r c =
        child_tag_fine (seat_bits d sp.state) (seat_of d sp.state) sp.children 0 (seat_wide (children d.world sp.state)) (seat_fine f) children_fit placed.kids

    pub test_fine : (pc : Term Name) (k : Step) → Fine d.tag pc → FineStep d.world q sp.children k → SizedStep d.world k → RangedStep d.world k → StepConditions d.world k
        → Fine 1 (test_of d sp pc k)
    test_fine pc (assign site x e) p f t r c = elim (cases_Bool (is_dynamic d.world x)) [
      | inl i ↦ rw i yes_fine
      | inr i ↦ rw i (below_fine (lub pc (tag_of d e)) (var d (tag_key x)) (lub_fine pc (tag_of d e) p (level_fine e f.1 t.0 r c)) (register_tag x f.0))
    ]
    test_fine pc (write site m i e) p f t r c = elim (cases_Bool (is_dynamic d.world m)) [
      | inl j ↦ rw j yes_fine
      | inr j ↦
          rw j
          (below_fine (lub pc (lub (tag_of d i) (tag_of d e))) (cell (d.name (tag_key m)) (expr d i))
          (lub_fine pc (lub (tag_of d i) (tag_of d e)) p (lub_fine (tag_of d i) (tag_of d e) (level_fine i f.1 t.0 r.0 c.0) (level_fine e f.2 t.2 r.1 c.1)))
          (mark_fine m i f.0 j (term_fit i f.1 t.0 r.0 c.0) t.1))
    ]
    test_fine pc (retag site x n) p f t r c =
        both_fine (below_or_at (lub pc (told_tag d n)) (bits d (authority d.world x))) (below_or_at (bits d (authority d.world x)) (new_tag d n))
        (below_fine (lub pc (told_tag d n)) (bits d (authority d.world x)) (lub_fine pc (told_tag d n) p (told_fine n f.2 t r c)) (bits_fine (authority d.world x)))
        (below_fine (bits d (authority d.world x)) (new_tag d n) (bits_fine (authority d.world x)) (new_fine n f.2 t r c))
    test_fine pc (retag_cell site m j n) p f t r c =
        both_fine (below_or_at (lub pc (lub (told_tag d n) (tag_of d j))) (bits d (authority d.world m))) (below_or_at (bits d (authority d.world m)) (new_tag d n))
        (below_fine (lub pc (lub (told_tag d n) (tag_of d j))) (bits d (authority d.world m))
        (lub_fine pc (lub (told_tag d n) (tag_of d j)) p (lub_fine (told_tag d n) (tag_of d j) (told_fine n f.3 t.2 r.1 c.1) (level_fine j f.2 t.0 r.0 c.0)))
        (bits_fine (authority d.world m)))
        (below_fine (bits d (authority d.world m)) (new_tag d n) (bits_fine (authority d.world m)) (new_fine n f.3 t.2 r.1 c.1))
    test_fine pc (go_to site target) p f t r c =
        both_fine (enters d pc target) _ (enters_fine pc target p (placed.siblings target f).0)
        (unless (is_dynamic d.world sp.state) (below_or_at (lub pc (bits d (entry d.world target))) (var d (tag_key sp.state)))
        (below_fine (lub pc (bits d (entry d.world target))) (var d (tag_key sp.state)) (lub_fine pc (bits d (entry d.world target)) p (bits_fine (entry d.world target)))
        (h.tags sp.state (placed.siblings sp.state placed.here).0)))
      where
        unless : (b : Bool) (t : Term Name) → Fine 1 t → Fine 1 (if b then yes else t)
        unless true t e = yes_fine
        unless false t e = e
    test_fine pc (fall_to_child site hang) p f t r c =
        child_enters_fine pc (seat_bits d sp.state) (seat_of d sp.state) sp.children 0 p (seat_wide (children d.world sp.state)) (seat_fine f) children_fit placed.kids

    pub written_fine : (pc : Term Name) (k : Step) → Fine d.tag pc → FineStep d.world q sp.children k → SizedStep d.world k → RangedStep d.world k → StepConditions d.world k
        → Fine d.tag (written d pc k)
    written_fine pc (assign site x e) p f t r c = lub_fine pc (tag_of d e) p (level_fine e f.1 t.0 r c)
    written_fine pc (write site m i e) p f t r c =
        lub_fine pc (lub (tag_of d i) (tag_of d e)) p (lub_fine (tag_of d i) (tag_of d e) (level_fine i f.1 t.0 r.0 c.0) (level_fine e f.2 t.2 r.1 c.1))
    written_fine pc (retag site x n) p f t r c = new_fine n f.2 t r c
    written_fine pc (retag_cell site m j n) p f t r c = new_fine n f.3 t.2 r.1 c.1
    written_fine pc (go_to site target) p f t r c = p
    written_fine pc (fall_to_child site hang) p f t r c = p

    pub stays_fine : (k : Step) → FineStep d.world q sp.children k → SizedStep d.world k → RangedStep d.world k → StepConditions d.world k → Fine 1 (stays d k)
    stays_fine (assign site x e) f t r c = yes_fine
    stays_fine (write site m i e) f t r c = yes_fine
    stays_fine (retag site x n) f t r c = below_fine (var d (tag_key x)) (new_tag d n) (retagged_fine x f.0 f.1) (new_fine n f.2 t r c)
    stays_fine (retag_cell site m j n) f t r c =
        below_fine (cell (d.name (tag_key m)) (expr d j)) (new_tag d n) (mark_fine m j f.0 f.1 (term_fit j f.2 t.0 r.0 c.0) t.1) (new_fine n f.3 t.2 r.1 c.1)
    stays_fine (go_to site target) f t r c = yes_fine
    stays_fine (fall_to_child site hang) f t r c = yes_fine
