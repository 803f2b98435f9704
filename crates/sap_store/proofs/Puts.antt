-- Writes through a borrowed entry.
use Rattle.std.proofs.lemmas.List.{get_or_read}
use Rattle.std.proofs.lemmas.Bool.{cond_both}
use Rattle.sap_lemmas.proofs.Common.{◌≡◌, ℕ, ◌<◌, ◌≤◌, ◌^◌, Bool, true, false, ◌&&◌, List, length, get_or, refl, sym, ap, subst, ◌∙◌, arith, nat_eq, nat_lt, le-ltb, eqb-true, length-set}
use Rattle.std.specs.Vec.{with_item}
use Rattle.sap_meaning.specs.Prelude.{World, root, width, is_dynamic, depth, Slot, own, next, Store, owner, source, put_number, put_level, put_child, raise}
use Rattle.sap_meaning.proofs.Slots.{owner_source}
use Rattle.sap_store.specs.declared.cell.Cell.{Cell}
use Rattle.sap_store.specs.declared.entry.Entry.{Entry}
use Rattle.sap_store.specs.declared.store.Store as code
use Rattle.sap_store.specs.Half.{Cells, with_number, with_level}
use Rattle.sap_store.specs.Kept.{no_entry, entry_at, store_of, Shaped, Ready}
use Rattle.sap_store.specs.Passes.{only, raised_one, settled_one}
use Rattle.sap_store.proofs.Fits.{Numbers, numbers_put, ready_as}
use Rattle.sap_store.proofs.Raised.{quiet}
use Rattle.sap_store.proofs.Writes.{Written, number_put, number_ready, level_put, level_ready, cell_number_put, cell_level_put, raise_put, shaped, settle_put, child_put, child_ready}

module _ (w : World) (s : code.Store) (x : ℕ) (r : Entry) (l : x < root w) (is : r ≡ get_or s.entries.items x r) (ready : Ready w s) where
  abbrev after : Entry → code.Store
  after e = record { entries = with_item s.entries x e; current = s.current }

  within : x < length s.entries.items
  within = let e = ready.shaped.entries in omega (arith, e, l)

  found : r ≡ entry_at w s.entries.items x
  found = get_or_read s.entries.items x r within is (no_entry w.order.bottom)

  written : (e : Entry) → Written w s (after e) x e
  written e = record { within = within; entries = refl; current = refl }

  abbrev of : {A : Type 0} (f : Entry → A) → f r ≡ f (entry_at w s.entries.items x)
  of f = ap f found

  abbrev rest : (r.start ≡ (entry_at w s.entries.items x).start) × (r.next ≡ (entry_at w s.entries.items x).next)
  rest = (ap (λ (e : Entry). e.start) found, ap (λ (e : Entry). e.next) found)

  abbrev numbered : ℕ → Entry
  numbered n = record { own = record { number = n; level = r.own.level }; start = r.start; next = r.next }

  pub number_store : (n : ℕ) → store_of w (after (numbered n)) ≡ put_number (own x) n (store_of w s)
  number_store n = number_put w s (after (numbered n)) x (numbered n) (written (numbered n)) n refl (ap (λ (e : Entry). e.own.level) found) rest

  pub number_stays_ready : (n : ℕ) → n < 2 ^ width w x → Ready w (after (numbered n))
  number_stays_ready n h = number_ready w s (after (numbered n)) x (numbered n) (written (numbered n)) n refl (ap (λ (e : Entry). e.own.level) found) rest h ready

  abbrev levelled : ℕ → Entry
  levelled t = record { own = record { number = r.own.number; level = t }; start = r.start; next = r.next }

  pub level_store : (t : ℕ) → store_of w (after (levelled t)) ≡ put_level w (own x) t (store_of w s)
  level_store t = level_put w s (after (levelled t)) x (levelled t) (written (levelled t)) t refl (ap (λ (e : Entry). e.own.number) found) rest

  pub level_stays_ready : (t : ℕ) → Ready w (after (levelled t))
  level_stays_ready t = level_ready w s (after (levelled t)) x (levelled t) (written (levelled t)) t refl (ap (λ (e : Entry). e.own.number) found) rest ready

  abbrev nexted : Cells → Entry
  nexted h = record { own = r.own; start = r.start; next = h }

  abbrev own_start : (r.own ≡ (entry_at w s.entries.items x).own) × (r.start ≡ (entry_at w s.entries.items x).start)
  own_start = (ap (λ (e : Entry). e.own) found, ap (λ (e : Entry). e.start) found)

  deep : (i : ℕ) → i < depth w x → i < length (entry_at w s.entries.items x).next.cells
  deep i h = let e = ready.shaped.nexts x in omega (arith, e, h)

  same_depth : (h : Cells) → length h.cells ≡ length r.next.cells → Shaped w (after (nexted h))
  same_depth h e = shaped w s (after (nexted h)) x (nexted h) (written (nexted h)) (ap (λ (b : Entry). length b.start.cells) found) (e
      ∙ ap (λ (b : Entry). length b.next.cells) found) ready.shaped

  pub cell_number_store : (i n : ℕ) (h : Cells) → h ≡ with_number i n r.next → i < depth w x → store_of w (after (nexted h)) ≡ put_number (next x i) n (store_of w s)
  cell_number_store i n h e k = cell_number_put w s (after (nexted h)) x (nexted h) (written (nexted h)) i n own_start (e
      ∙ ap (λ (b : Entry). with_number i n b.next) found) (deep i k)

  pub cell_number_ready : (i n : ℕ) (h : Cells) → h ≡ with_number i n r.next → i < depth w x → n < 2 ^ width w x → Ready w (after (nexted h))
  cell_number_ready i n h e k f =
      ready_as w (after (nexted h)) _ (same_depth h (ap (λ (c : Cells). length c.cells) e ∙ length-set r.next.cells i _))
      (cell_number_store i n h e k) (numbers_put w (store_of w s) (next x i) n f ready.numbers)

  pub cell_level_store : (i t : ℕ) (h : Cells) → is_dynamic w x ≡ false → h ≡ with_level i t r.next → i < depth w x
      → store_of w (after (nexted h)) ≡ put_level w (next x i) t (store_of w s)
  cell_level_store i t h d e k = cell_level_put w s (after (nexted h)) x (nexted h) (written (nexted h)) i t d own_start (e
      ∙ ap (λ (b : Entry). with_level i t b.next) found) (deep i k)

  level_numbers : (z : Slot) (t : ℕ) (a : Store) → Numbers w a → Numbers w (put_level w z t a)
  unfolding put_level
  level_numbers z t a f = f

  pub cell_level_ready : (i t : ℕ) (h : Cells) → is_dynamic w x ≡ false → h ≡ with_level i t r.next → i < depth w x → Ready w (after (nexted h))
  cell_level_ready i t h d e k =
      ready_as w (after (nexted h)) _ (same_depth h (ap (λ (c : Cells). length c.cells) e ∙ length-set r.next.cells i _))
      (cell_level_store i t h d e k) (level_numbers (next x i) t (store_of w s) ready.numbers)

  abbrev raised_entry : ℕ → Cells → Entry
  raised_entry t h = record { own = record { number = r.own.number; level = t }; start = r.start; next = h }

  pub raise_store : (u t : ℕ) (h : Cells) → t ≡ w.order.join r.own.level u → h.cells ≡ r.next.cells → h.whole ≡ w.order.join r.next.whole u
      → store_of w (after (raised_entry t h)) ≡ raised_one w x u (store_of w s)
  raise_store u t h a b c =
      raise_put w s (after (raised_entry t h)) x (raised_entry t h) (written (raised_entry t h)) u l (ap (λ (e : Entry). e.own.number) found)
      (a ∙ ap (λ (e : Entry). w.order.join e.own.level u) found) (ap (λ (e : Entry). e.start) found)
      (b ∙ ap (λ (e : Entry). e.next.cells) found) (c ∙ ap (λ (e : Entry). w.order.join e.next.whole u) found)

  raised_numbers : (u : ℕ) (a : Store) → Numbers w a → Numbers w (raised_one w x u a)
  unfolding raise
  raised_numbers u a f = f

  pub raise_ready : (u t : ℕ) (h : Cells) → t ≡ w.order.join r.own.level u → h.cells ≡ r.next.cells → h.whole ≡ w.order.join r.next.whole u → Ready w (after (raised_entry t h))
  raise_ready u t h a b c =
      ready_as w (after (raised_entry t h)) _
      (shaped w s (after (raised_entry t h)) x (raised_entry t h) (written (raised_entry t h))
      (ap (λ (e : Entry). length e.start.cells) found) (ap (λ (cs : List Cell). length cs) b ∙ ap (λ (e : Entry). length e.next.cells) found) ready.shaped)
      (raise_store u t h a b c) (raised_numbers u (store_of w s) ready.numbers)

  abbrev settled_entry : Cells → Entry
  settled_entry h = record { own = r.own; start = h; next = r.next }

  pub settle_store : (h : Cells) → h ≡ r.next → store_of w (after (settled_entry h)) ≡ settled_one x (store_of w s)
  settle_store h e =
      settle_put w s (after (settled_entry h)) x (settled_entry h) (written (settled_entry h)) (ap (λ (b : Entry). b.own) found) (e
      ∙ ap (λ (b : Entry). b.next) found) (ap (λ (b : Entry). b.next) found)

  settled_numbers : (a : Store) → Numbers w a → Numbers w (settled_one x a)
  unfolding settled_one
  settled_numbers a f z =
      cond_both (nat_eq (owner z) x) (a.number (source z)) (a.number z) (λ v. v < 2 ^ width w (owner z))
      (λ i. subst (λ (y : ℕ). a.number (source z) < 2 ^ width w y) (owner_source z) (f (source z))) (λ i. f z)

  pub settle_ready : (h : Cells) → h ≡ r.next → Ready w (after (settled_entry h))
  settle_ready h e =
      ready_as w (after (settled_entry h)) _
      (shaped w s (after (settled_entry h)) x (settled_entry h) (written (settled_entry h))
      (ap (λ (c : Cells). length c.cells) (e ∙ ap (λ (b : Entry). b.next) found) ∙ ready.shaped.nexts x
      ∙ sym (ready.shaped.starts x)) (ap (λ (b : Entry). length b.next.cells) found) ready.shaped)
      (settle_store h e) (settled_numbers (store_of w s) ready.numbers)

  pub depths_same : length r.start.cells ≡ length r.next.cells
  depths_same = ap (λ (b : Entry). length b.start.cells) found ∙ ready.shaped.starts x ∙ sym (ready.shaped.nexts x) ∙ sym (ap (λ (b : Entry). length b.next.cells) found)

-- what is no entity is not raised
pub raise_past : (w : World) (x t : ℕ) (s : Store) → root w ≤ x → raised_one w x t s ≡ s
raise_past w x t s h = quiet w.order t (only w x) (λ y. at y (nat_eq x y) refl) s
  where
    at : (y : ℕ) (q : Bool) → nat_eq x y ≡ q → (q && nat_lt y (root w)) ≡ false
    at y true e = let i = eqb-true x y e in le-ltb y (root w) (omega (arith, i, h))
    at y false e = refl

module _ (w : World) (s : code.Store) (p n : ℕ) (l : p ≤ root w) (ready : Ready w s) where
  abbrev seated : code.Store
  seated = record { entries = s.entries; current = with_item s.current p n }

  seat_within : p < length s.current.items
  seat_within = let e = ready.shaped.seats in omega (arith, e, l)

  pub child_store : store_of w seated ≡ put_child p n (store_of w s)
  child_store = child_put w s seated p n seat_within refl refl

  pub child_stays_ready : Ready w seated
  child_stays_ready = child_ready w s seated p n seat_within refl refl ready
