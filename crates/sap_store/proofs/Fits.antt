-- Numbers stay within their widths.
use Rattle.std.proofs.lemmas.Bool.{cond_both}
use Rattle.sap_lemmas.proofs.Common.{◌≡◌, ℕ, ◌<◌, ◌^◌, true, List, sym, subst}
use Rattle.sap_meaning.specs.Prelude.{World, is_input, width, Slot, Store, owner, number, same_slot, put_number, source, settle, Tagged, given, InputsFit}
use Rattle.sap_meaning.proofs.Fitting.{given_fits}
use Rattle.sap_meaning.proofs.Slots.{slot_same, owner_source}
use Rattle.sap_store.specs.declared.store.Store as kept
use Rattle.sap_store.specs.Kept.{store_of, Shaped, Ready}

abbrev pub Numbers : World → Store → Type 0
Numbers w s = (z : Slot) → number z s < 2 ^ width w (owner z)

module _ (w : World) where
  pub numbers_put : (s : Store) (z : Slot) (n : ℕ) → n < 2 ^ width w (owner z) → Numbers w s → Numbers w (put_number z n s)
  unfolding put_number
  numbers_put s z n h f = λ y.
      cond_both (same_slot y z) n (number y s) (λ v. v < 2 ^ width w (owner y)) (λ i. subst (λ x. n < 2 ^ width w (owner x)) (sym (slot_same y z i)) h) (λ i. f y)

  pub numbers_settle : (s : Store) → Numbers w s → Numbers w (settle s)
  unfolding settle
  numbers_settle s f = λ y. subst (λ x. number (source y) s < 2 ^ width w x) (owner_source y) (f (source y))

  -- what is seen as a store with the same numbers, or with numbers that fit, is ready
  pub ready_as : (s : kept.Store) (t : Store) → Shaped w s → store_of w s ≡ t → Numbers w t → Ready w s
  ready_as s t shaped e f = record { shaped = shaped; numbers = subst (λ (r : Store). Numbers w r) (sym e) f }

-- an input gets a number within its width
pub input_fits : (w : World) (inputs : List Tagged) → InputsFit w inputs → (x : ℕ) → is_input w x ≡ true → (given w inputs x).number < 2 ^ width w x
input_fits w inputs fit x i = (given_fits w.order.count (record { number = 0; level = w.order.bottom }) w.entities inputs fit x i).0
