-- What writes to the code's store do to what it is seen as.
use Rattle.std.proofs.lemmas.Bool.{cond_both}
use Rattle.sap_lemmas.proofs.Common.{◌≡◌, ℕ, ◌<◌, ◌≤◌, Bool, true, false, List, length, get_or, set, refl, sym, ap, ◌∙◌, get_or-set_other, nat_eq, inl, inr, if◌then◌else◌, cases_Bool, eqb-true, eq-eqb, eqb-true as same_number, get_or-set_at, get_or_past}
use Rattle.sap_meaning.specs.Prelude.{World, entity, is_dynamic, Slot, start, start_whole, Store, level}
use Rattle.sap_store.specs.declared.entry.Entry.{Entry}
use Rattle.sap_store.specs.declared.store.Store as kept
use Rattle.sap_store.specs.Half.{cell_at}
use Rattle.sap_store.specs.Kept.{no_entry, entry_at, past, level_in, store_of}

pub store_same : (a b : Store) → ((z : Slot) → a.number z ≡ b.number z) → ((z : Slot) → a.level z ≡ b.level z) → ((p : ℕ) → a.child p ≡ b.child p) → a ≡ b
store_same a b e f g = λ i. record { number = λ z. e z i; level = λ z. f z i; child = λ p. g p i }

pub get_set : {A : Type 0} (xs : List A) (x : ℕ) (a d : A) → x < length xs → (y : ℕ) → get_or (set xs x a) y d ≡ (if nat_eq y x then a else get_or xs y d)
get_set xs x a d h y = elim (cases_Bool (nat_eq y x)) [
  | inl t ↦ rw t (get_or-set_at xs x y a d (eqb-true y x t) h)
  | inr t ↦ rw t (get_or-set_other xs x y a d (λ e. let f = eq-eqb y x e in cc))
]

pub picked : {A B : Type 0} (f : A → B) (q : Bool) (a b : A) → f (if q then a else b) ≡ (if q then f a else f b)
picked f true a b = refl
picked f false a b = refl

-- an item is written
module _ (w : World) (es : List Entry) (x : ℕ) (e : Entry) (h : x < length es) where
  abbrev after : List Entry
  after = set es x e

  entry_set : (y : ℕ) → entry_at w after y ≡ (if nat_eq y x then e else entry_at w es y)
  entry_set y = get_set es x e (no_entry w.order.bottom) h y

  -- what of the item stays, stays at all
  pub stays : {A : Type 0} (f : Entry → A) → f e ≡ f (entry_at w es x) → (y : ℕ) → f (entry_at w after y) ≡ f (entry_at w es y)
  stays f same y =
      ap f (entry_set y) ∙ cond_both (nat_eq y x) e (entry_at w es y) (λ (d : Entry). f d ≡ f (entry_at w es y))
      (λ i. same ∙ ap (λ (k : ℕ). f (entry_at w es k)) (sym (same_number y x i))) (λ i. refl)

  pub becomes : {A : Type 0} (f : Entry → A) (a : A) → f e ≡ a → (y : ℕ) → f (entry_at w after y) ≡ (if nat_eq y x then a else f (entry_at w es y))
  becomes f a is y = ap f (entry_set y) ∙ picked f (nat_eq y x) e (entry_at w es y) ∙ ap (λ (b : _). if nat_eq y x then b else f (entry_at w es y)) is

-- a cell of what has no entry has the level that its memory starts with
pub absent_level : (w : World) (s : kept.Store) (m i : ℕ) → length s.entries.items ≤ m → past w m ≡ level w (start m i) (store_of w s)
unfolding store_of
absent_level w s m i h = elim (cases_Bool (is_dynamic w m)) [
  | inl d ↦
      ap (λ (q : Bool). if q then w.order.bottom else (entity w m).declared) d
      ∙ sym (ap (λ (q : Bool). level_in w s.entries.items (if q then start_whole m else start m i)) d ∙ ap (λ (e : Entry). e.start.whole) none)
  | inr d ↦ sym (ap (λ (q : Bool). level_in w s.entries.items (if q then start_whole m else start m i)) d ∙ ap (λ (e : Entry). (cell_at (past w m) e.start i).level) none)
]
  where
    none : entry_at w s.entries.items m ≡ no_entry w.order.bottom
    none = get_or_past s.entries.items m (no_entry w.order.bottom) h
