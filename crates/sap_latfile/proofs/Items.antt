-- What is found in the items so far, and what is left.
use Rattle.sap_lemmas.proofs.Common.{◌≡◌, ◌≢◌, ℕ, suc, ◌+◌, ◌<◌, List, [], ◌∷◌, ◌++◌, length, get_or, drop, append_assoc, refl, sym, ◌∙◌, ap, Option, Some, None, option_map, option_and_then, Global}
use Rattle.std.specs.Prelude.{String, Vec}
use Rattle.toml.specs.Data.{Data, Items, no_items, item, Members, string, integer, float, boolean, datetime, array, table}
use Rattle.toml.specs.View.{view, items_view, members_view}
use Rattle.toml.specs.declared.value.Value.{Value}
use Rattle.toml.proofs.Views.{items_view-drop}
use Rattle.sap_latfile.specs.Document.{each_of, then_cons, pair_in, key_count, array_at}

-- with these in front, where there are any
abbrev pub with_front : {A : Type 0} → List A → Option (List A) → Option (List A)
with_front front = option_map (λ rest. front ++ rest)

with_front-cons : {A : Type 0} (front : List A) (a : A) (rest : Option (List A)) → with_front front (then_cons (Some a) rest) ≡ with_front (front ++ a ∷ []) rest
with_front-cons front a None = refl
with_front-cons front a (Some xs) = ap Some (sym (append_assoc front (a ∷ []) xs))

module _ {A : Type 0} (found : Data → Option A) where
  left : List Value → ℕ → Option (List A)
  left values i = each_of found (items_view (drop i values))

  left_is : (values : List Value) (i : ℕ) (v : Value) → i < length values → v ≡ get_or values i v → left values i ≡ then_cons (found (view v)) (left values (i + 1))
  unfolding left
  left_is values i v low at =
      ap (each_of found) (items_view-drop values i v low)
      ∙ ap (λ (x : Value). then_cons (found (view x)) (each_of found (items_view (drop (i + 1) values)))) (sym at)

  pub one_more : (values : List Value) (i : ℕ) (v : Value) (front : List A) (a : A) → i < length values → v ≡ get_or values i v
      → found (view v) ≡ Some a → with_front front (each_of found (items_view (drop i values))) ≡ with_front (front ++ a ∷ []) (each_of found (items_view (drop (i + 1) values)))
  unfolding left
  one_more values i v front a low at is_a =
      ap (with_front front) (left_is values i v low at)
      ∙ ap (λ (o : Option A). with_front front (then_cons o (left values (i + 1)))) is_a
      ∙ with_front-cons front a (left values (i + 1))

  pub no_more : (values : List Value) (i : ℕ) (v : Value) (front : List A) → i < length values → v ≡ get_or values i v
      → found (view v) ≡ None → with_front front (each_of found (items_view (drop i values))) ≡ None
  unfolding left
  no_more values i v front low at none =
      ap (with_front front) (left_is values i v low at) ∙ ap (λ (o : Option A). with_front front (then_cons o (left values (i + 1)))) none

-- one item is no pair, and three or more are none
one_item : (d : Data) → pair_in (item d no_items) ≡ None
one_item (string s) = refl
one_item (integer z) = refl
one_item (float x) = refl
one_item (boolean b) = refl
one_item (datetime t) = refl
one_item (array ds) = refl
one_item (table ms) = refl

more_items : (d e f : Data) (rest : Items) → pair_in (item d (item e (item f rest))) ≡ None
more_items (string s) (string u) f rest = refl
more_items (string s) (integer z) f rest = refl
more_items (string s) (float x) f rest = refl
more_items (string s) (boolean b) f rest = refl
more_items (string s) (datetime t) f rest = refl
more_items (string s) (array ds) f rest = refl
more_items (string s) (table ms) f rest = refl
more_items (integer z) e f rest = refl
more_items (float x) e f rest = refl
more_items (boolean b) e f rest = refl
more_items (datetime t) e f rest = refl
more_items (array ds) e f rest = refl
more_items (table ms) e f rest = refl

pub not_two : (values : List Value) → length values ≢ 2 → pair_in (items_view values) ≡ None
not_two [] ne = refl
not_two (v ∷ []) ne = one_item (view v)
not_two (v ∷ w ∷ []) ne = absurd (ne refl)
not_two (v ∷ w ∷ x ∷ rest) ne = more_items (view v) (view w) (view x) (items_view rest)

-- as many keys as entries
pub key_count-entries : (entries : List (String Global × Value)) → key_count (members_view entries) ≡ length entries
key_count-entries [] = refl
key_count-entries (m ∷ ms) = ap suc (key_count-entries ms)

-- what an array at a key lists
pub listed : {A : Type 0} (found : Items → Option (List A)) (key : List ℕ) (document : Members) (values slice : List Value)
    (vec : Option (Vec A Global)) (v : Vec A Global) → Some (items_view values) ≡ array_at key document → slice ≡ values
    → option_map (λ w. w.items) vec ≡ found (items_view slice) → vec ≡ Some v → option_and_then found (array_at key document) ≡ Some v.items
listed found key document values slice vec v at same told is_v =
    ap (option_and_then found) (sym at)
    ∙ ap (λ vs. found (items_view vs)) (sym same)
    ∙ sym told
    ∙ ap (option_map (λ w. w.items)) is_v
