-- What writes to the code's store do to what it is seen as.
use Rattle.std.proofs.lemmas.Bool.{cond_both}
use Rattle.sap_lemmas.proofs.Common.{◌≡◌, ℕ, ◌<◌, ◌^◌, Bool, true, false, ◌&&◌, List, length, get_or, set, refl, sym, ap, ◌∙◌, nat_eq, if◌then◌else◌, length-set, lt-ltb, eqb-true, ne_eqb, test_of_same, get_or_default}
use Rattle.sap_meaning.specs.Prelude.{World, root, width, is_dynamic, Slot, own, start, next, start_whole, next_whole, Store, owner, same_slot, put_number, put_level, put_child, raise, raised, source}
use Rattle.sap_store.specs.declared.cell.Cell.{Cell}
use Rattle.sap_store.specs.declared.entry.Entry.{Entry}
use Rattle.sap_store.specs.declared.store.Store as code
use Rattle.sap_store.specs.Half.{Cells, no_cell, cell_at, with_number, with_level}
use Rattle.sap_store.specs.Kept.{entry_at, past, number_in, level_in, store_of, Shaped, Ready}
use Rattle.sap_store.specs.Passes.{only, raised_one, settled_one}
use Rattle.sap_store.proofs.Stored.{store_same, get_set, picked, stays, becomes}
use Rattle.sap_store.proofs.Fits.{Numbers, numbers_put, ready_as}

-- one entry is written
pub record Written (w : World) (s t : code.Store) (x : ℕ) (e : Entry) : Type 0 where
  pub within : x < length s.entries.items
  pub entries : t.entries.items ≡ set s.entries.items x e
  pub current : t.current.items ≡ s.current.items

module _ (w : World) (s t : code.Store) (x : ℕ) (e : Entry) (written : Written w s t x e) where
  abbrev before : ℕ → Entry
  before y = entry_at w s.entries.items y

  abbrev after : ℕ → Entry
  after y = entry_at w t.entries.items y

  same : {A : Type 0} (f : Entry → A) → f e ≡ f (before x) → (y : ℕ) → f (after y) ≡ f (before y)
  same f i y = ap (λ (es : List Entry). f (entry_at w es y)) written.entries ∙ stays w s.entries.items x e written.within f i y

  new : {A : Type 0} (f : Entry → A) (a : A) → f e ≡ a → (y : ℕ) → f (after y) ≡ (if nat_eq y x then a else f (before y))
  new f a i y = ap (λ (es : List Entry). f (entry_at w es y)) written.entries ∙ becomes w s.entries.items x e written.within f a i y

  pub shaped : length e.start.cells ≡ length (before x).start.cells → length e.next.cells ≡ length (before x).next.cells → Shaped w s → Shaped w t
  shaped i j h = record {
    entries = ap (λ (es : List Entry). length es) written.entries ∙ length-set s.entries.items x e ∙ h.entries;
    starts = λ m. same (λ (b : Entry). length b.start.cells) i m ∙ h.starts m;
    nexts = λ m. same (λ (b : Entry). length b.next.cells) j m ∙ h.nexts m;
    seats = ap (λ (ns : List ℕ). length ns) written.current ∙ h.seats;
  }

  seats_same : (p : ℕ) → get_or t.current.items p 0 ≡ get_or s.current.items p 0
  seats_same p = ap (λ (ns : List ℕ). get_or ns p 0) written.current

  -- a cell of a half that stays
  start_cell : (m i : ℕ) → e.start ≡ (before x).start → cell_at (past w m) (after m).start i ≡ cell_at (past w m) (before m).start i
  start_cell m i q = ap (λ (h : Cells). cell_at (past w m) h i) (same (λ (b : Entry). b.start) q m)

  next_cell : (m i : ℕ) → e.next ≡ (before x).next → cell_at (past w m) (after m).next i ≡ cell_at (past w m) (before m).next i
  next_cell m i q = ap (λ (h : Cells). cell_at (past w m) h i) (same (λ (b : Entry). b.next) q m)

  abbrev Rest : Type 0
  Rest = (e.start ≡ (before x).start) × (e.next ≡ (before x).next)

  number_seen : (n : ℕ) → e.own.number ≡ n → Rest → (z : Slot) → number_in w t.entries.items z ≡ (if same_slot z (own x) then n else number_in w s.entries.items z)
  number_seen n i r (own y) = new (λ (b : Entry). b.own.number) n i y
  number_seen n i r (start m k) = ap (λ (c : Cell). c.number) (start_cell m k r.0)
  number_seen n i r (next m k) = ap (λ (c : Cell). c.number) (next_cell m k r.1)
  number_seen n i r _ = refl

  number_kept : e.own.number ≡ (before x).own.number → Rest → (z : Slot) → number_in w t.entries.items z ≡ number_in w s.entries.items z
  number_kept i r (own y) = same (λ (b : Entry). b.own.number) i y
  number_kept i r (start m k) = ap (λ (c : Cell). c.number) (start_cell m k r.0)
  number_kept i r (next m k) = ap (λ (c : Cell). c.number) (next_cell m k r.1)
  number_kept i r _ = refl

  level_seen : (u : ℕ) → e.own.level ≡ u → Rest → (z : Slot) → level_in w t.entries.items z ≡ (if same_slot z (own x) then u else level_in w s.entries.items z)
  level_seen u i r (own y) = new (λ (b : Entry). b.own.level) u i y
  level_seen u i r (start m k) = ap (λ (c : Cell). c.level) (start_cell m k r.0)
  level_seen u i r (next m k) = ap (λ (c : Cell). c.level) (next_cell m k r.1)
  level_seen u i r (start_whole m) = ap (λ (h : Cells). h.whole) (same (λ (b : Entry). b.start) r.0 m)
  level_seen u i r (next_whole m) = ap (λ (h : Cells). h.whole) (same (λ (b : Entry). b.next) r.1 m)

  level_kept : e.own.level ≡ (before x).own.level → Rest → (z : Slot) → level_in w t.entries.items z ≡ level_in w s.entries.items z
  level_kept i r (own y) = same (λ (b : Entry). b.own.level) i y
  level_kept i r (start m k) = ap (λ (c : Cell). c.level) (start_cell m k r.0)
  level_kept i r (next m k) = ap (λ (c : Cell). c.level) (next_cell m k r.1)
  level_kept i r (start_whole m) = ap (λ (h : Cells). h.whole) (same (λ (b : Entry). b.start) r.0 m)
  level_kept i r (next_whole m) = ap (λ (h : Cells). h.whole) (same (λ (b : Entry). b.next) r.1 m)

  pub number_put : (n : ℕ) → e.own.number ≡ n → e.own.level ≡ (before x).own.level → Rest → store_of w t ≡ put_number (own x) n (store_of w s)
  unfolding store_of put_number
  number_put n i j r = store_same _ _ (number_seen n i r) (level_kept j r) seats_same

  pub level_put : (u : ℕ) → e.own.level ≡ u → e.own.number ≡ (before x).own.number → Rest → store_of w t ≡ put_level w (own x) u (store_of w s)
  unfolding store_of put_level
  level_put u i j r = store_same _ _ (number_kept j r) (level_seen u i r) seats_same

  pub rest_shaped : Rest → Shaped w s → Shaped w t
  rest_shaped r h = shaped (ap (λ (c : Cells). length c.cells) r.0) (ap (λ (c : Cells). length c.cells) r.1) h

  pub number_ready : (n : ℕ) → e.own.number ≡ n → e.own.level ≡ (before x).own.level → Rest → n < 2 ^ width w x → Ready w s → Ready w t
  number_ready n i j r l h = ready_as w t _ (rest_shaped r h.shaped) (number_put n i j r) (numbers_put w (store_of w s) (own x) n l h.numbers)

  level_numbers : (u : ℕ) (a : Store) → Numbers w a → Numbers w (put_level w (own x) u a)
  unfolding put_level
  level_numbers u a f = f

  pub level_ready : (u : ℕ) → e.own.level ≡ u → e.own.number ≡ (before x).own.number → Rest → Ready w s → Ready w t
  level_ready u i j r h = ready_as w t _ (rest_shaped r h.shaped) (level_put u i j r) (level_numbers u (store_of w s) h.numbers)

  -- a cell of the next part

  cell_set : (h : Cells) (i k u : ℕ) (c : Cell) → i < length h.cells → cell_at u (record h { cells = set h.cells i c }) k ≡ (if nat_eq k i then c else cell_at u h k)
  cell_set h i k u c l = get_set h.cells i c (no_cell u) l k

  cell_number_set : (h : Cells) (i k u n : ℕ) → i < length h.cells → (cell_at u (with_number i n h) k).number ≡ (if nat_eq k i then n else (cell_at u h k).number)
  cell_number_set h i k u n l =
      ap (λ (c : Cell). c.number) (cell_set h i k u (record { number = n; level = (get_or h.cells i (no_cell 0)).level }) l)
      ∙ picked (λ (c : Cell). c.number) (nat_eq k i) _ (cell_at u h k)

  cell_number_level : (h : Cells) (i k u n : ℕ) → i < length h.cells → (cell_at u (with_number i n h) k).level ≡ (cell_at u h k).level
  cell_number_level h i k u n l =
      ap (λ (c : Cell). c.level) (cell_set h i k u (record { number = n; level = (get_or h.cells i (no_cell 0)).level }) l)
      ∙ cond_both (nat_eq k i) _ (cell_at u h k) (λ (c : Cell). c.level ≡ (cell_at u h k).level)
      (λ e. ap (λ (c : Cell). c.level) (get_or_default h.cells i (no_cell 0) (no_cell u) l) ∙ ap (λ (j : ℕ). (cell_at u h j).level) (sym (eqb-true k i e))) (λ e. refl)

  cell_level_set : (h : Cells) (i k u v : ℕ) → i < length h.cells → (cell_at u (with_level i v h) k).level ≡ (if nat_eq k i then v else (cell_at u h k).level)
  cell_level_set h i k u v l =
      ap (λ (c : Cell). c.level) (cell_set h i k u (record { number = (get_or h.cells i (no_cell 0)).number; level = v }) l)
      ∙ picked (λ (c : Cell). c.level) (nat_eq k i) _ (cell_at u h k)

  cell_level_number : (h : Cells) (i k u v : ℕ) → i < length h.cells → (cell_at u (with_level i v h) k).number ≡ (cell_at u h k).number
  cell_level_number h i k u v l =
      ap (λ (c : Cell). c.number) (cell_set h i k u (record { number = (get_or h.cells i (no_cell 0)).number; level = v }) l)
      ∙ cond_both (nat_eq k i) _ (cell_at u h k) (λ (c : Cell). c.number ≡ (cell_at u h k).number)
      (λ e. ap (λ (c : Cell). c.number) (get_or_default h.cells i (no_cell 0) (no_cell u) l) ∙ ap (λ (j : ℕ). (cell_at u h j).number) (sym (eqb-true k i e))) (λ e. refl)

  abbrev Same : Type 0
  Same = (e.own ≡ (before x).own) × (e.start ≡ (before x).start)

  next_at : (m : ℕ) → (after m).next ≡ (if nat_eq m x then e.next else (before m).next)
  next_at m = new (λ (b : Entry). b.next) e.next refl m

  -- a field of a cell of the next part, where one cell's is new
  next_field : (f : Cell → ℕ) (i v : ℕ) → ((k u : ℕ) → f (cell_at u e.next k) ≡ (if nat_eq k i then v else f (cell_at u (before x).next k)))
      → (m k : ℕ) → f (cell_at (past w m) (after m).next k) ≡ (if nat_eq m x && nat_eq k i then v else f (cell_at (past w m) (before m).next k))
  next_field f i v g m k = ap (λ (h : Cells). f (cell_at (past w m) h k)) (next_at m) ∙ by (nat_eq m x) (eqb-true m x)
    where
      by : (q : Bool) → (q ≡ true → m ≡ x) → f (cell_at (past w m) (if q then e.next else (before m).next) k)
          ≡ (if q && nat_eq k i then v else f (cell_at (past w m) (before m).next k))
      by true h = g k (past w m) ∙ ap (λ (y : ℕ). if nat_eq k i then v else f (cell_at (past w m) (before y).next k)) (sym (h refl))
      by false h = refl

  next_kept : (f : Cell → ℕ) → ((k u : ℕ) → f (cell_at u e.next k) ≡ f (cell_at u (before x).next k)) → (m k : ℕ)
      → f (cell_at (past w m) (after m).next k) ≡ f (cell_at (past w m) (before m).next k)
  next_kept f g m k = ap (λ (h : Cells). f (cell_at (past w m) h k)) (next_at m)
      ∙ cond_both (nat_eq m x) e.next (before m).next (λ (h : Cells). f (cell_at (past w m) h k) ≡ f (cell_at (past w m) (before m).next k))
      (λ i. g k (past w m) ∙ ap (λ (y : ℕ). f (cell_at (past w m) (before y).next k)) (sym (eqb-true m x i))) (λ i. refl)

  pub cell_number_put : (i n : ℕ) → Same → e.next ≡ with_number i n (before x).next → i < length (before x).next.cells → store_of w t ≡ put_number (next x i) n (store_of w s)
  unfolding store_of put_number
  cell_number_put i n r h l = store_same _ _ numbers levels seats_same
    where
      numbers : (z : Slot) → number_in w t.entries.items z ≡ (if same_slot z (next x i) then n else number_in w s.entries.items z)
      numbers (own y) = same (λ (b : Entry). b.own.number) (ap (λ (c : Cell). c.number) r.0) y
      numbers (start m k) = ap (λ (c : Cell). c.number) (start_cell m k r.1)
      numbers (next m k) = next_field (λ (c : Cell). c.number) i n (λ k u. ap (λ (q : Cells). (cell_at u q k).number) h ∙ cell_number_set (before x).next i k u n l) m k
      numbers _ = refl

      levels : (z : Slot) → level_in w t.entries.items z ≡ level_in w s.entries.items z
      levels (own y) = same (λ (b : Entry). b.own.level) (ap (λ (c : Cell). c.level) r.0) y
      levels (start m k) = ap (λ (c : Cell). c.level) (start_cell m k r.1)
      levels (next m k) = next_kept (λ (c : Cell). c.level) (λ k u. ap (λ (q : Cells). (cell_at u q k).level) h ∙ cell_number_level (before x).next i k u n l) m k
      levels (start_whole m) = ap (λ (q : Cells). q.whole) (same (λ (b : Entry). b.start) r.1 m)
      levels (next_whole m) = same (λ (b : Entry). b.next.whole) (ap (λ (q : Cells). q.whole) h) m

  pub cell_level_put : (i v : ℕ) → is_dynamic w x ≡ false → Same → e.next ≡ with_level i v (before x).next
      → i < length (before x).next.cells → store_of w t ≡ put_level w (next x i) v (store_of w s)
  unfolding store_of put_level
  cell_level_put i v enforced r h l = rw enforced (store_same _ _ numbers levels seats_same)
    where
      numbers : (z : Slot) → number_in w t.entries.items z ≡ number_in w s.entries.items z
      numbers (own y) = same (λ (b : Entry). b.own.number) (ap (λ (c : Cell). c.number) r.0) y
      numbers (start m k) = ap (λ (c : Cell). c.number) (start_cell m k r.1)
      numbers (next m k) = next_kept (λ (c : Cell). c.number) (λ k u. ap (λ (q : Cells). (cell_at u q k).number) h ∙ cell_level_number (before x).next i k u v l) m k
      numbers _ = refl

      levels : (z : Slot) → level_in w t.entries.items z ≡ (if same_slot z (next x i) then v else level_in w s.entries.items z)
      levels (own y) = same (λ (b : Entry). b.own.level) (ap (λ (c : Cell). c.level) r.0) y
      levels (start m k) = ap (λ (c : Cell). c.level) (start_cell m k r.1)
      levels (next m k) = next_field (λ (c : Cell). c.level) i v (λ k u. ap (λ (q : Cells). (cell_at u q k).level) h ∙ cell_level_set (before x).next i k u v l) m k
      levels (start_whole m) = ap (λ (q : Cells). q.whole) (same (λ (b : Entry). b.start) r.1 m)
      levels (next_whole m) = same (λ (b : Entry). b.next.whole) (ap (λ (q : Cells). q.whole) h) m

  -- what is raised
  pub raise_put : (u : ℕ) → x < root w → e.own.number ≡ (before x).own.number → e.own.level ≡ w.order.join (before x).own.level u
      → e.start ≡ (before x).start → e.next.cells ≡ (before x).next.cells → e.next.whole ≡ w.order.join (before x).next.whole u
      → store_of w t ≡ raised_one w x u (store_of w s)
  unfolding store_of raise
  raise_put u l n o a b c = store_same _ _ numbers levels seats_same
    where
      next_same : (m k : ℕ) → cell_at (past w m) (after m).next k ≡ cell_at (past w m) (before m).next k
      next_same m k = ap (λ (cs : List Cell). get_or cs k (no_cell (past w m))) (same (λ (d : Entry). d.next.cells) b m)

      numbers : (z : Slot) → number_in w t.entries.items z ≡ number_in w s.entries.items z
      numbers (own y) = same (λ (d : Entry). d.own.number) n y
      numbers (start m k) = ap (λ (d : Cell). d.number) (start_cell m k a)
      numbers (next m k) = ap (λ (d : Cell). d.number) (next_same m k)
      numbers _ = refl

      up : (f : Entry → ℕ) → f e ≡ w.order.join (f (before x)) u → (y : ℕ) → f (after y) ≡ (if only w x y then w.order.join (f (before y)) u else f (before y))
      up f i y = new f (w.order.join (f (before x)) u) i y ∙ by (nat_eq y x) refl
        where
          by : (q : Bool) → nat_eq y x ≡ q → (if q then w.order.join (f (before x)) u else f (before y)) ≡ (if only w x y then w.order.join (f (before y)) u else f (before y))
          by true g = let j = eqb-true y x g in rw (j, test_of_same x, lt-ltb x (root w) l) refl
          by false g = rw (ne_eqb x y (λ j. let k = test_of_same y in let f = ap (λ (v : ℕ). nat_eq y v) j in cc)) refl

      levels : (z : Slot) → level_in w t.entries.items z ≡ (if raised (only w x) z then w.order.join (level_in w s.entries.items z) u else level_in w s.entries.items z)
      levels (own y) = up (λ (d : Entry). d.own.level) o y
      levels (start m k) = ap (λ (d : Cell). d.level) (start_cell m k a)
      levels (next m k) = ap (λ (d : Cell). d.level) (next_same m k)
      levels (start_whole m) = ap (λ (q : Cells). q.whole) (same (λ (d : Entry). d.start) a m)
      levels (next_whole m) = up (λ (d : Entry). d.next.whole) c m

-- a current child is written
module _ (w : World) (s t : code.Store) (p n : ℕ) (within : p < length s.current.items)
    (current : t.current.items ≡ set s.current.items p n) (entries : t.entries.items ≡ s.entries.items) where
  pub child_put : store_of w t ≡ put_child p n (store_of w s)
  unfolding store_of put_child
  child_put =
      store_same _ _ (λ z. ap (λ (es : List Entry). number_in w es z) entries) (λ z. ap (λ (es : List Entry). level_in w es z) entries)
      (λ q. ap (λ (ns : List ℕ). get_or ns q 0) current ∙ get_set s.current.items p n 0 within q)

  child_numbers : (a : Store) → Numbers w a → Numbers w (put_child p n a)
  unfolding put_child
  child_numbers a f = f

  pub child_ready : Ready w s → Ready w t
  child_ready h = ready_as w t _ shaped child_put (child_numbers (store_of w s) h.numbers)
    where
      shaped : Shaped w t
      shaped = record {
        entries = ap (λ (es : List Entry). length es) entries ∙ h.shaped.entries;
        starts = λ m. ap (λ (es : List Entry). length (entry_at w es m).start.cells) entries ∙ h.shaped.starts m;
        nexts = λ m. ap (λ (es : List Entry). length (entry_at w es m).next.cells) entries ∙ h.shaped.nexts m;
        seats = ap (λ (ns : List ℕ). length ns) current ∙ length-set s.current.items p n ∙ h.shaped.seats;
      }

-- the next part of a memory becomes its start part
module _ (w : World) (s t : code.Store) (x : ℕ) (e : Entry) (written : Written w s t x e) where
  pub settle_put : e.own ≡ (entry_at w s.entries.items x).own → e.start ≡ (entry_at w s.entries.items x).next
      → e.next ≡ (entry_at w s.entries.items x).next → store_of w t ≡ settled_one x (store_of w s)
  unfolding store_of settled_one
  settle_put i j k = store_same _ _ numbers levels (seats_same w s t x e written)
    where
      start_new : (f : Cell → ℕ) (m n : ℕ) → f (cell_at (past w m) (entry_at w t.entries.items m).start n)
          ≡ (if nat_eq m x then f (cell_at (past w m) (entry_at w s.entries.items m).next n) else f (cell_at (past w m) (entry_at w s.entries.items m).start n))
      start_new f m n = ap (λ (h : Cells). f (cell_at (past w m) h n))
          (new w s t x e written (λ (b : Entry). b.start) (entry_at w s.entries.items x).next j m) ∙ by (nat_eq m x) (eqb-true m x)
        where
          by : (q : Bool) → (q ≡ true → m ≡ x) → f
              (cell_at (past w m) (if q then (entry_at w s.entries.items x).next else (entry_at w s.entries.items m).start) n)
              ≡ (if q then f (cell_at (past w m) (entry_at w s.entries.items m).next n) else f (cell_at (past w m) (entry_at w s.entries.items m).start n))
          by true g = ap (λ (y : ℕ). f (cell_at (past w m) (entry_at w s.entries.items y).next n)) (sym (g refl))
          by false g = refl

      both : (q : Bool) (a : ℕ) → a ≡ (if q then a else a)
      both true a = refl
      both false a = refl

      numbers : (z : Slot) → number_in w t.entries.items z ≡ (if nat_eq (owner z) x then number_in w s.entries.items (source z) else number_in w s.entries.items z)
      numbers (own y) = same w s t x e written (λ (b : Entry). b.own.number) (ap (λ (c : Cell). c.number) i) y ∙ both _ _
      numbers (start m n) = start_new (λ (c : Cell). c.number) m n
      numbers (next m n) = ap (λ (c : Cell). c.number) (next_cell w s t x e written m n k) ∙ both _ _
      numbers (start_whole m) = both (nat_eq m x) 0
      numbers (next_whole m) = both (nat_eq m x) 0

      whole_new : (m : ℕ) (q : Bool) → nat_eq m x ≡ q
          → (if q then (entry_at w s.entries.items x).next.whole else (entry_at w s.entries.items m).start.whole)
          ≡ (if q then (entry_at w s.entries.items m).next.whole else (entry_at w s.entries.items m).start.whole)
      whole_new m true g = ap (λ (y : ℕ). (entry_at w s.entries.items y).next.whole) (sym (eqb-true m x g))
      whole_new m false g = refl

      levels : (z : Slot) → level_in w t.entries.items z ≡ (if nat_eq (owner z) x then level_in w s.entries.items (source z) else level_in w s.entries.items z)
      levels (own y) = same w s t x e written (λ (b : Entry). b.own.level) (ap (λ (c : Cell). c.level) i) y ∙ both _ _
      levels (start m n) = start_new (λ (c : Cell). c.level) m n
      levels (next m n) = ap (λ (c : Cell). c.level) (next_cell w s t x e written m n k) ∙ both _ _
      levels (start_whole m) = new w s t x e written (λ (b : Entry). b.start.whole) (entry_at w s.entries.items x).next.whole
          (ap (λ (h : Cells). h.whole) j) m ∙ whole_new m (nat_eq m x) refl
      levels (next_whole m) = same w s t x e written (λ (b : Entry). b.next.whole) (ap (λ (h : Cells). h.whole) k) m ∙ both _ _
