-- Terms have the numbers and the codes of the store for which the numbers stand.
use Rattle.sap_lemmas.proofs.Common.{◌≡◌, ℕ, zero, suc, ◌+◌, ◌-◌, ◌<◌, ◌≤◌, Bool, true, false, ◌&&◌, refl, sym, ap, ap₂, ◌∙◌, arith, nat_lt, inl, inr, if◌then◌else◌, ◌==◌, bit_or, bit_and, cases_Bool, eqb-true, eq-eqb, ne_eqb, or_left, or_right, common_steps}
use Rattle.std.proofs.Common.{zero-add}
use Rattle.sap_bits.specs.Arithmetic.{value1, value2, width1, width2, slice_of, joined}
use Rattle.sap_maps.specs.Prelude.{Name, Term, constant, read, cell, one, two, choose, join, part, term_width}
use Rattle.sap_meaning.specs.Prelude.{World, is_dynamic, is_memory, children, LevelTerm, fixed, of, at_place, both, state_node, Group, no_node, and_node, Store, own, start, start_whole, next_whole, number, level, child, width_of, value, tag, level_at, new_level, told, child_level, opens, child_opens, among, FineTerm, FineLevel, size}
use Rattle.sap_ir.specs.Guarded.{Going, value_in}
use Rattle.sap_tagged.specs.Prelude.{value_key, tag_key, first_key, Setting, var, lub, below_or_at, expr, cell_tag, tag_of, place_width, widened, placed, new_tag, told_tag, child_tag, enters, child_enters, seat_of, Lawful, at, is_value, has_tag, Stands}
use Rattle.sap_tagged.proofs.Bools.{value_within, value_no_memory, tagged}

abbrev pub bit : Bool → ℕ
bit b = if b then 1 else 0

pub both_bits : (a b : Bool) → bit_and (bit a) (bit b) ≡ bit (a && b)
both_bits true true = refl
both_bits _ _ = refl

-- each state of a group has a tag
abbrev pub AllTagged : World → Group → Type 0
AllTagged w g = (c : ℕ) → among g c ≡ true → has_tag w c ≡ true × (is_memory w c ≡ false)

module _ (d : Setting) (widths : Name → ℕ) (laws : Lawful d widths) where
  expr_width : (e : Term ℕ) → FineTerm d.world e → term_width widths (expr d e) ≡ width_of d.world e
  expr_width (read x) f = laws.values x f
  expr_width (cell m i) f = laws.cells m f.0
  expr_width (one op a) f = ap (width1 op) (expr_width a f)
  expr_width (two op a b) f = ap (width2 op) (expr_width a f.0)
  expr_width (choose c a b) f = expr_width a f.1
  expr_width (join a b) f = ap₂ (λ (m n : ℕ). m + n) (expr_width a f.0) (expr_width b f.1)
  expr_width _ f = refl

  module _ (g : Going) (s : Store) (reads : (x : ℕ) → is_value d.world x ≡ true → at d g (value_key x) ≡ number (own x) s)
      (starts : (m i : ℕ) → is_memory d.world m ≡ true → g.now.cell (d.name (value_key m)) i ≡ number (start m i) s) where
    -- an expression's number depends on no tag
    pub expr_value : (e : Term ℕ) → FineTerm d.world e → value_in widths g (expr d e) ≡ value d.world e s
    expr_value (constant u n) f = refl
    expr_value (read x) f = reads x f
    expr_value (cell m i) f = ap (g.now.cell (d.name (value_key m))) (expr_value i f.1) ∙ starts m (value d.world i s) f.0
    expr_value (one op a) f = ap₂ (λ (u n : ℕ). value1 op u n) (expr_width a f) (expr_value a f)
    expr_value (two op a b) f =
        ap₂ (λ (u n : ℕ). value2 op u n (value_in widths g (expr d b))) (expr_width a f.0) (expr_value a f.0)
        ∙ ap (λ (n : ℕ). value2 op (width_of d.world a) (value d.world a s) n) (expr_value b f.1)
    expr_value (choose c a b) f =
        ap (λ (n : ℕ). if n == 0 then value_in widths g (expr d b) else value_in widths g (expr d a)) (expr_value c f.0)
        ∙ ap₂ (λ (m n : ℕ). if value d.world c s == 0 then m else n) (expr_value b f.2) (expr_value a f.1)
    expr_value (join a b) f =
        ap₂ (λ (u n : ℕ). joined n u (value_in widths g (expr d b))) (expr_width b f.1) (expr_value a f.0)
        ∙ ap (λ (n : ℕ). joined (value d.world a s) (width_of d.world b) n) (expr_value b f.1)
    expr_value (part a hi lo) f = ap (λ (n : ℕ). slice_of n hi lo) (expr_value a f)

  module _ (g : Going) where
    pub lub_value : (a b : Term Name) (x y : ℕ) → value_in widths g a ≡ d.code x → value_in widths g b ≡ d.code y → value_in widths g (lub a b) ≡ d.code (d.world.order.join x y)
    lub_value a b x y i j = ap₂ (λ (m n : ℕ). bit_or m n) i j ∙ sym (laws.joined x y)

    pub below_value : (a b : Term Name) (x y : ℕ) → value_in widths g a ≡ d.code x → value_in widths g b ≡ d.code y
        → value_in widths g (below_or_at a b) ≡ bit (d.world.order.le x y)
    below_value a b x y i j = ap₂ (λ (m n : ℕ). bit (bit_or m n == n)) i j ∙ ap bit (laws.order x y)

  module _ (g : Going) (s : Store) (stands : Stands d g s) where
    w : World
    w = d.world

    number_of : (e : Term ℕ) → FineTerm d.world e → value_in widths g (expr d e) ≡ value d.world e s
    number_of e f = expr_value g s stands.value stands.starts e f

    -- the tag of an enforced memory's cell
    pub mark : (m : ℕ) (i : Term ℕ) → is_memory d.world m ≡ true → FineTerm d.world i → is_dynamic d.world m ≡ false
        → value_in widths g (cell (d.name (tag_key m)) (expr d i)) ≡ d.code (level d.world (start m (value d.world i s)) s)
    mark m i e f t =
        ap (g.now.cell (d.name (tag_key m))) (number_of i f) ∙ stands.start_tags m (value d.world i s) e t
        ∙ ap (λ (q : Bool). d.code (s.level (if q then start_whole m else start m (value d.world i s)))) (sym t)

    cell_tag_value : (m : ℕ) (i : Term ℕ) → is_memory d.world m ≡ true → FineTerm d.world i
        → value_in widths g (cell_tag d m i) ≡ d.code (level d.world (start m (value d.world i s)) s)
    cell_tag_value m i e f = elim (cases_Bool (is_dynamic d.world m)) [
      | inl t ↦ rw t (stands.start_tag m (rw (e, t) refl) ∙ ap (λ (q : Bool). d.code (s.level (if q then start_whole m else start m (value d.world i s)))) (sym t))
      | inr t ↦ ap (λ (q : Bool). value_in widths g (if q then var d (first_key m) else cell (d.name (tag_key m)) (expr d i))) t ∙ mark m i e f t
    ]

    pub own_tag : (x : ℕ) → has_tag d.world x ≡ true → is_memory d.world x ≡ false → at d g (tag_key x) ≡ d.code (s.level (own x))
    own_tag x h m = stands.tag x h ∙ ap (λ (q : Bool). d.code (s.level (if q then next_whole x else own x))) m

    pub value_tag : (x : ℕ) → is_value d.world x ≡ true → at d g (tag_key x) ≡ d.code (s.level (own x))
    value_tag x h = let m = value_no_memory d.world x h in own_tag x (tagged d.world x (value_within d.world x h) m) m

    pub tag_value : (e : Term ℕ) → FineTerm d.world e → value_in widths g (tag_of d e) ≡ d.code (tag d.world e s)
    tag_value (constant u n) f = refl
    tag_value (read x) f = value_tag x f
    tag_value (cell m i) f = lub_value g (tag_of d i) (cell_tag d m i) _ _ (tag_value i f.1) (cell_tag_value m i f.0 f.1)
    tag_value (one op a) f = tag_value a f
    tag_value (two op a b) f = lub_value g (tag_of d a) (tag_of d b) _ _ (tag_value a f.0) (tag_value b f.1)
    tag_value (choose c a b) f =
        lub_value g (tag_of d c) (lub (tag_of d a) (tag_of d b)) _ _ (tag_value c f.0) (lub_value g (tag_of d a) (tag_of d b) _ _ (tag_value a f.1) (tag_value b f.2))
    tag_value (join a b) f = lub_value g (tag_of d a) (tag_of d b) _ _ (tag_value a f.0) (tag_value b f.1)
    tag_value (part a hi lo) f = tag_value a f

    widened_value : (u : ℕ) (e : Term Name) → value_in widths g (widened u e) ≡ value_in widths g e
    widened_value u e = by (nat_lt u 6)
      where
        by : (q : Bool) → value_in widths g (if q then join (constant (6 - u) 0) e else e) ≡ value_in widths g e
        by true = omega arith
        by false = refl

    placed_value : (u : ℕ) (e : Term Name) (v i m : ℕ) → value_in widths g e ≡ v → i ≤ v
        → value_in widths g (placed d u e i m) ≡ d.code (if nat_lt v (i + m) then v else d.world.order.top)
    placed_value u e v i zero h l =
        let f : nat_lt v (i + zero) ≡ false = grind (arith, common_steps) in rw f refl
    placed_value u e v i (suc m) h l = elim (cases_Bool (v == i)) [
      | inl t ↦ (let q : v ≡ i = eqb-true v i t in let f : nat_lt v (i + suc m) ≡ true = grind (arith, common_steps) in rw (h, t, f) (ap d.code (sym q)))
      | inr t ↦ (let r = placed_value u e v (i + 1) m h (after_not v i t l) in
          let f : i + suc m ≡ i + 1 + m = omega arith in rw (h, t, f) r)
    ]
      where
        after_not : (v i : ℕ) → (v == i) ≡ false → i ≤ v → i + 1 ≤ v
        after_not v i t l = grind (arith, common_steps)

    at_place_value : (e : Term ℕ) → FineTerm d.world e → value_in widths g (new_tag d (at_place e)) ≡ d.code (level_at d.world.order (value d.world e s))
    at_place_value e f =
        let u = width_of d.world e in
        placed_value (place_width u) (widened u (expr d e)) (value d.world e s) 0 d.world.order.count (widened_value u (expr d e) ∙ number_of e f) (omega arith)
        ∙ ap (λ (k : ℕ). d.code (if nat_lt (value d.world e s) k then value d.world e s else d.world.order.top)) (zero-add d.world.order.count)

    pub new_value : (n : LevelTerm) → FineLevel d.world n → value_in widths g (new_tag d n) ≡ d.code (new_level d.world n s)
    new_value (fixed n) f = refl
    new_value (of e) f = tag_value e f
    new_value (at_place e) f = at_place_value e f
    new_value (both a b) f = lub_value g (new_tag d a) (new_tag d b) _ _ (new_value a f.0) (new_value b f.1)

    pub told_value : (n : LevelTerm) → FineLevel d.world n → value_in widths g (told_tag d n) ≡ d.code (told d.world n s)
    told_value (fixed n) f = refl
    told_value (of e) f = tag_value e f
    told_value (at_place e) f = tag_value e f
    told_value (both a b) f = lub_value g (told_tag d a) (told_tag d b) _ _ (told_value a f.0) (told_value b f.1)

    pub enters_value : (pc : Term Name) (l c : ℕ) → value_in widths g pc ≡ d.code l → has_tag d.world c ≡ true → is_memory d.world c ≡ false
        → value_in widths g (enters d pc c) ≡ bit (opens d.world c l s)
    enters_value pc l c h t m = elim (cases_Bool (is_dynamic d.world c)) [
      | inl q ↦ rw q refl
      | inr q ↦ rw q (below_value g pc (var d (tag_key c)) l (s.level (own c)) h (own_tag c t m))
    ]

    rest_tagged : (c : ℕ) (b : _) (k g' : Group) → AllTagged d.world (and_node (state_node c b k) g') → AllTagged d.world g'
    rest_tagged c b k g' f n h = f n (or_right _ (among g' n) h)

    first_tagged : (c : ℕ) (b : _) (k g' : Group) → AllTagged d.world (and_node (state_node c b k) g') → has_tag d.world c ≡ true × (is_memory d.world c ≡ false)
    first_tagged c b k g' f = f c (or_left _ (among g' c) (eq-eqb c c refl))

    -- The last child is compared with nothing, so the numbers are the meaning's where there is a child at the place.
    pub child_tag_value : (u : ℕ) (seat : Term Name) (k : Group) (n i : ℕ) → n < size k → value_in widths g seat ≡ i + n → AllTagged d.world k
        → value_in widths g (child_tag d u seat k i) ≡ d.code (child_level d.world k n s)
    child_tag_value u seat no_node n i l h f = refl
    child_tag_value u seat (and_node (state_node c b k) no_node) zero i l h f = let q = first_tagged c b k no_node f in own_tag c q.0 q.1
    child_tag_value u seat (and_node (state_node c b k) no_node) (suc n) i l h f = absurd (omega (arith, l))
    child_tag_value u seat (and_node (state_node c b k) (and_node t k')) zero i l h f =
        let q = first_tagged c b k (and_node t k') f in rw (h, eq-eqb (i + 0) i (omega arith)) (own_tag c q.0 q.1)
    child_tag_value u seat (and_node (state_node c b k) (and_node t k')) (suc n) i l h f =
        let r = child_tag_value u seat (and_node t k') n (i + 1) (omega (arith, l)) (h ∙ omega arith) (rest_tagged c b k (and_node t k') f) in
        rw (h, ne_eqb (i + suc n) i (λ e. omega arith)) r

    pub child_enters_value : (pc : Term Name) (u : ℕ) (seat : Term Name) (l : ℕ) (k : Group) (n i : ℕ) → n < size k
        → value_in widths g pc ≡ d.code l → value_in widths g seat ≡ i + n
        → AllTagged d.world k → value_in widths g (child_enters d pc u seat k i) ≡ bit (child_opens d.world k n l s)
    child_enters_value pc u seat l no_node n i b p h f = refl
    child_enters_value pc u seat l (and_node (state_node c b k) no_node) zero i m p h f = let q = first_tagged c b k no_node f in enters_value pc l c p q.0 q.1
    child_enters_value pc u seat l (and_node (state_node c b k) no_node) (suc n) i m p h f = absurd (omega (arith, m))
    child_enters_value pc u seat l (and_node (state_node c b k) (and_node t k')) zero i m p h f =
        let q = first_tagged c b k (and_node t k') f in rw (h, eq-eqb (i + 0) i (omega arith)) (enters_value pc l c p q.0 q.1)
    child_enters_value pc u seat l (and_node (state_node c b k) (and_node t k')) (suc n) i m p h f =
        let r = child_enters_value pc u seat l (and_node t k') n (i + 1) (omega (arith, m)) p (h ∙ omega arith) (rest_tagged c b k (and_node t k') f) in
        rw (h, ne_eqb (i + suc n) i (λ e. omega arith)) r

    pub seat_value : (p : ℕ) → 0 < children d.world p → value_in widths g (seat_of d p) ≡ 0 + child p s
    seat_value p h = stands.seat p h ∙ sym (zero-add (child p s))
