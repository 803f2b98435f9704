-- Channels by their numbers.
use Rattle.sap_lemmas.proofs.Common.{◌≡◌, ℕ, zero, suc, ◌+◌, ◌<◌, List, [], ◌∷◌, ◌++◌, length, set, get_or, sym, ◌∙◌, ap, arith, length-append, string_bytes, slice_get, Option, Some, None, option_map, unwrap_or, slice_get-get_or}
use Rattle.std.proofs.Common.{length-set}
use Rattle.std.proofs.lemmas.List.Sums.{sum_by-set, sum_by_push}
use Rattle.sap_desk.specs.Desk.{at_number, placed}
use Rattle.sap_desk.proofs.Places.{placed_push, placed_set, placed_set_same}
use Rattle.sap_desk.specs.declared.stored.Channel.{Channel}
use Rattle.sap_desk.specs.Memory.{KeepsNames}
use Rattle.sap_desk.specs.Room.{claim, claims}

pub within : {X : Type 0} (xs : List X) (k : ℕ) (x : X) → slice_get xs k ≡ Some x → k < length xs
within [] k x h = let bad : None ≡ Some x = h in absurd (cc bad)
within (y ∷ xs) zero x h = omega arith
within (y ∷ xs) (suc k) x h = omega (arith, within xs k x h)

pub read_is : {X : Type 0} (xs : List X) (k : ℕ) (x d : X) → slice_get xs k ≡ Some x → get_or xs k d ≡ x
read_is xs k x d h = let both : Some (get_or xs k d) ≡ Some x = sym (slice_get-get_or xs k d (within xs k x h)) ∙ h in cc both

-- the channel at k became another
module _ (k : ℕ) (old new : List Channel) (before after : Channel) (was : slice_get old k ≡ Some before) (now : new ≡ set old k after) where
  there : k < length old
  there = within old k before was

  pub told_before : {A : Type 0} (f : Channel → A) (none : A) → placed f none old k ≡ f before
  told_before f none = ap (λ (o : Option Channel). unwrap_or (option_map f o) none) was

  pub told_after : {A : Type 0} (f : Channel → A) (none x : A) → f after ≡ x → placed f none new ≡ at_number k x (placed f none old)
  told_after {A = A} f none x is = ap (placed f none) now ∙ placed_set f none old k after there ∙ ap (λ (a : A). at_number k a (placed f none old)) is

  pub told_same : {A : Type 0} (f : Channel → A) (none : A) → f after ≡ f before → placed f none new ≡ placed f none old
  told_same f none h = ap (placed f none) now ∙ placed_set_same f none old k after there (told_before f none ∙ sym h)

  pub claims_after : (room : ℕ) (name : List ℕ) → claims room name new + claim room name before ≡ claims room name old + claim room name after
  claims_after room name =
      rw (now, ← read_is old k before before was) (sum_by-set (claim room name) old k after before there)

  pub length_after : length new ≡ length old
  length_after = ap length now ∙ length-set old k after

  pub names_after : string_bytes after.name ≡ string_bytes before.name → KeepsNames old new
  names_after h = record {
    names = λ j _. ap (λ (f : ℕ → List ℕ). f j) (told_same (λ c. string_bytes c.name) [] h);
    more = omega (arith, length_after);
  }

-- a channel is added
module _ (old new : List Channel) (c : Channel) (now : new ≡ old ++ c ∷ []) where
  pub told_added : {A : Type 0} (f : Channel → A) (none x : A) (k : ℕ) → k ≡ length old → f c ≡ x → placed f none new ≡ at_number k x (placed f none old)
  told_added {A = A} f none x k number is = rw (now, number) (placed_push f none old c ∙ ap (λ (a : A). at_number (length old) a (placed f none old)) is)

  pub claims_added : (room : ℕ) (name : List ℕ) → claims room name new ≡ claims room name old + claim room name c
  claims_added room name = ap (claims room name) now ∙ sum_by_push (claim room name) old c

  pub length_added : length new ≡ length old + 1
  length_added = ap length now ∙ length-append old (c ∷ [])
