-- The first store.
use Rattle.sap_lemmas.proofs.Common.{◌≡◌, ℕ, zero, suc, ◌+◌, ◌<◌, ◌^◌, List, [], ◌∷◌, length, get_or, map, refl, sym, ap, ◌∙◌, arith, if◌then◌else◌, replicate, pow_pos, length_map, length-replicate}
use Rattle.sap_lattice.specs.Order.{Order}
use Rattle.sap_meaning.specs.Prelude.{World, nothing, entity, width, depth_of, depth, first, first_number, first_level, Slot, own, start, next, start_whole, next_whole, number}
use Rattle.sap_meaning.specs.Program as program
use Rattle.sap_program.specs.Views.{entity_of, program_in}
use Rattle.sap_program.specs.declared.program.Entity.{Entity}
use Rattle.sap_program.specs.declared.program.Program.{Program}
use Rattle.sap_store.specs.declared.entry.Entry as kept
use Rattle.sap_store.specs.declared.store.Store as code
use Rattle.sap_store.specs.Half.{Cells, no_cell}
use Rattle.sap_store.specs.First.{started}
use Rattle.sap_store.specs.Kept.{no_entry, past, store_of, Shaped, Ready}
use Rattle.sap_store.proofs.Stored.{store_same}
use Rattle.sap_store.proofs.Fits.{Numbers, ready_as}

zero_cell : (n i t u : ℕ) → (get_or (replicate n (no_cell t)) i (no_cell u)).number ≡ 0
zero_cell zero i t u = refl
zero_cell (suc n) zero t u = refl
zero_cell (suc n) (suc i) t u = zero_cell n i t u

level_cell : (n i t : ℕ) → (get_or (replicate n (no_cell t)) i (no_cell t)).level ≡ t
level_cell zero i t = refl
level_cell (suc n) zero t = refl
level_cell (suc n) (suc i) t = level_cell n i t

same_seat : (n p a : ℕ) → get_or (replicate n a) p a ≡ a
same_seat zero p a = refl
same_seat (suc n) zero a = refl
same_seat (suc n) (suc p) a = same_seat n p a

module _ (b : ℕ) where
  abbrev at : List Entity → ℕ → kept.Entry
  at es x = get_or (map (started b) es) x (no_entry b)

  abbrev seen : List Entity → ℕ → program.Entity
  seen es x = get_or (map entity_of es) x nothing

  abbrev lasting : List Entity → ℕ → ℕ
  lasting es x = if (seen es x).dynamic then b else (seen es x).declared

  number_is : (es : List Entity) (x : ℕ) → (at es x).own.number ≡ (seen es x).initial
  number_is [] x = refl
  number_is (e ∷ es) zero = refl
  number_is (e ∷ es) (suc x) = number_is es x

  level_is : (es : List Entity) (x : ℕ) → (at es x).own.level ≡ lasting es x
  level_is [] x = refl
  level_is (e ∷ es) zero = refl
  level_is (e ∷ es) (suc x) = level_is es x

  start_is : (es : List Entity) (x : ℕ) → (at es x).start ≡ record { cells = replicate (depth_of (seen es x).kind) (no_cell (lasting es x)); whole = lasting es x }
  start_is [] x = refl
  start_is (e ∷ es) zero = refl
  start_is (e ∷ es) (suc x) = start_is es x

  next_is : (es : List Entity) (x : ℕ) → (at es x).next ≡ (at es x).start
  next_is [] x = refl
  next_is (e ∷ es) zero = refl
  next_is (e ∷ es) (suc x) = next_is es x

module _ (o : Order) (p : Program) (s : code.Store) (n : ℕ) (entries : s.entries.items ≡ map (started o.bottom) p.entities.items) (seats : s.current.items ≡ replicate n 0) where
  abbrev w : World
  w = (program_in o p).world

  abbrev es : List Entity
  es = p.entities.items

  start_at : (m : ℕ) → (get_or s.entries.items m (no_entry o.bottom)).start ≡ record { cells = replicate (depth w m) (no_cell (past w m)); whole = past w m }
  start_at m = ap (λ (xs : List kept.Entry). (get_or xs m (no_entry o.bottom)).start) entries ∙ start_is o.bottom es m

  next_at : (m : ℕ) → (get_or s.entries.items m (no_entry o.bottom)).next ≡ record { cells = replicate (depth w m) (no_cell (past w m)); whole = past w m }
  next_at m = ap (λ (xs : List kept.Entry). (get_or xs m (no_entry o.bottom)).next) entries ∙ next_is o.bottom es m ∙ start_is o.bottom es m

  numbers_first : (z : Slot) → number z (store_of w s) ≡ first_number w z
  unfolding store_of
  numbers_first (own x) = ap (λ (xs : List kept.Entry). (get_or xs x (no_entry o.bottom)).own.number) entries ∙ number_is o.bottom es x
  numbers_first (start m i) = ap (λ (h : Cells). (get_or h.cells i (no_cell (past w m))).number) (start_at m) ∙ zero_cell (depth w m) i (past w m) (past w m)
  numbers_first (next m i) = ap (λ (h : Cells). (get_or h.cells i (no_cell (past w m))).number) (next_at m) ∙ zero_cell (depth w m) i (past w m) (past w m)
  numbers_first _ = refl

  levels_first : (z : Slot) → (store_of w s).level z ≡ first_level w z
  unfolding store_of
  levels_first (own x) = ap (λ (xs : List kept.Entry). (get_or xs x (no_entry o.bottom)).own.level) entries ∙ level_is o.bottom es x
  levels_first (start m i) = ap (λ (h : Cells). (get_or h.cells i (no_cell (past w m))).level) (start_at m) ∙ level_cell (depth w m) i (past w m)
  levels_first (next m i) = ap (λ (h : Cells). (get_or h.cells i (no_cell (past w m))).level) (next_at m) ∙ level_cell (depth w m) i (past w m)
  levels_first (start_whole m) = ap (λ (h : Cells). h.whole) (start_at m)
  levels_first (next_whole m) = ap (λ (h : Cells). h.whole) (next_at m)

  children_first : (q : ℕ) → (store_of w s).child q ≡ 0
  unfolding store_of
  children_first q = ap (λ (xs : List ℕ). get_or xs q 0) seats ∙ same_seat n q 0

  pub first_is : store_of w s ≡ first w
  unfolding first
  first_is = store_same _ _ numbers_first levels_first children_first

  fits_first : ((x : ℕ) → (entity w x).initial < 2 ^ width w x) → Numbers w (first w)
  unfolding first
  fits_first initials (own x) = initials x
  fits_first initials (start m i) = pow_pos (width w m)
  fits_first initials (next m i) = pow_pos (width w m)
  fits_first initials (start_whole m) = pow_pos (width w m)
  fits_first initials (next_whole m) = pow_pos (width w m)

  pub first_ready : n ≡ length es + 1 → ((x : ℕ) → (entity w x).initial < 2 ^ width w x) → Ready w s
  first_ready e initials = ready_as w s (first w) shaped first_is (fits_first initials)
    where
      shaped : Shaped w s
      shaped = record {
        entries = ap (λ (xs : List kept.Entry). length xs) entries ∙ length_map (started o.bottom) es ∙ sym (length_map entity_of es);
        starts = λ m. ap (λ (h : Cells). length h.cells) (start_at m) ∙ length-replicate (depth w m) _;
        nexts = λ m. ap (λ (h : Cells). length h.cells) (next_at m) ∙ length-replicate (depth w m) _;
        seats = ap (λ (xs : List ℕ). length xs) seats ∙ length-replicate n 0 ∙ (let l = length_map entity_of es in omega (arith, e, l));
      }
