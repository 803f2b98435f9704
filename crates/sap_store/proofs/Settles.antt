-- The parts of one memory after another settle.
use Rattle.std.proofs.lemmas.Bool.{cond-false}
use Rattle.sap_lemmas.proofs.Common.{◌≡◌, ℕ, ◌+◌, ◌≤◌, Bool, true, false, refl, sym, ap, ◌∙◌, arith, nat_eq, nat_lt, if◌then◌else◌, lt-ltb, le-ltb, eqb-true, common_steps, get_or_past}
use Rattle.sap_meaning.specs.Prelude.{World, root, Slot, start, start_whole, Store, owner, source, settle}
use Rattle.sap_meaning.proofs.Slots.{owner_source}
use Rattle.sap_store.specs.declared.entry.Entry.{Entry}
use Rattle.sap_store.specs.declared.store.Store as code
use Rattle.sap_store.specs.Half.{cell_at}
use Rattle.sap_store.specs.Kept.{no_entry, entry_at, past, number_in, level_in, store_of, Shaped}
use Rattle.sap_store.specs.Passes.{settled_one}
use Rattle.sap_store.proofs.Stored.{store_same}

-- what belongs to the entities before number k settles
unfoldable pub settled_to : (k : ℕ) → Store → Store
settled_to k s = record s {
  number = λ z. if nat_lt (owner z) k then s.number (source z) else s.number z;
  level = λ z. if nat_lt (owner z) k then s.level (source z) else s.level z;
}

none_early : (x : ℕ) → nat_lt x 0 ≡ false
none_early x = le-ltb x 0 (omega arith)

pub settled_none : (s : Store) → settled_to 0 s ≡ s
unfolding settled_to
settled_none s = store_same _ _ (λ z. cond-false _ _ _ (none_early (owner z))) (λ z. cond-false _ _ _ (none_early (owner z))) (λ p. refl)

pub settled_next : (s : Store) (k : ℕ) → settled_one k (settled_to k s) ≡ settled_to (k + 1) s
unfolding settled_to settled_one
settled_next s k = store_same _ _ (at s.number) (at s.level) (λ p. refl)
  where
    by : (f : Slot → ℕ) (z y : Slot) (x : ℕ) (a : Bool) → nat_eq x k ≡ a
        → (if a then (if nat_lt x k then f (source y) else f y) else (if nat_lt x k then f y else f z)) ≡ (if nat_lt x (k + 1) then f y else f z)
    by f z y x true e = let i = eqb-true x k e in rw (le-ltb x k (omega (arith, i)), lt-ltb x (k + 1) (omega (arith, i))) refl
    by f z y x false e = ap (λ (q : Bool). if q then f y else f z) (sym (same x e))
      where
        same : (x : ℕ) → nat_eq x k ≡ false → nat_lt x (k + 1) ≡ nat_lt x k
        same x e = grind (arith, common_steps)

    at : (f : Slot → ℕ) (z : Slot) → (if nat_eq (owner z)
        k then (if nat_lt (owner (source z)) k then f (source (source z)) else f (source z)) else (if nat_lt (owner z) k then f (source z) else f z))
        ≡ (if nat_lt (owner z) (k + 1) then f (source z) else f z)
    at f z = ap (λ (x : ℕ). if nat_eq (owner z)
        k then (if nat_lt x k then f (source (source z)) else f (source z)) else (if nat_lt (owner z) k then f (source z) else f z))
        (owner_source z) ∙ by f z (source z) (owner z) (nat_eq (owner z) k) refl

module _ (w : World) (s : code.Store) (shaped : Shaped w s) where
  -- what belongs to no entity has settled
  absent : (m : ℕ) → root w ≤ m → entry_at w s.entries.items m ≡ no_entry w.order.bottom
  absent m h = get_or_past s.entries.items m (no_entry w.order.bottom) (let e = shaped.entries in omega (arith, e, h))

  number_rests : (z : Slot) → root w ≤ owner z → number_in w s.entries.items (source z) ≡ number_in w s.entries.items z
  number_rests (start m i) h = ap (λ (e : Entry). (cell_at (past w m) e.next i).number) (absent m h) ∙ sym (ap (λ (e : Entry). (cell_at (past w m) e.start i).number) (absent m h))
  number_rests _ h = refl

  level_rests : (z : Slot) → root w ≤ owner z → level_in w s.entries.items (source z) ≡ level_in w s.entries.items z
  level_rests (start m i) h = ap (λ (e : Entry). (cell_at (past w m) e.next i).level) (absent m h) ∙ sym (ap (λ (e : Entry). (cell_at (past w m) e.start i).level) (absent m h))
  level_rests (start_whole m) h = ap (λ (e : Entry). e.next.whole) (absent m h) ∙ sym (ap (λ (e : Entry). e.start.whole) (absent m h))
  level_rests _ h = refl

  above : (x : ℕ) → nat_lt x (root w) ≡ false → root w ≤ x
  above x e = grind (arith, common_steps)

  settles : (f : Slot → ℕ) → ((z : Slot) → root w ≤ owner z → f (source z) ≡ f z) → (z : Slot) (a : Bool) → nat_lt (owner z) (root w) ≡ a
      → (if a then f (source z) else f z) ≡ f (source z)
  settles f g z true e = refl
  settles f g z false e = sym (g z (above (owner z) e))

  pub settled_all : settled_to (root w) (store_of w s) ≡ settle (store_of w s)
  unfolding settled_to settle store_of
  settled_all = store_same _ _ (λ z. settles (number_in w s.entries.items) number_rests z (nat_lt (owner z) (root w)) refl)
      (λ z. settles (level_in w s.entries.items) level_rests z (nat_lt (owner z) (root w)) refl) (λ p. refl)
