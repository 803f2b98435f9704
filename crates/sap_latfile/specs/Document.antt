-- The names and the pairs that a document lists.
use Rattle.std.specs.Prelude.{◌≡◌, ℕ, suc, List, [], ◌∷◌, codes, Option, Some, None, option_and_then, option_map}
use Rattle.sap_lattice.specs.declared.pair.Pair.{Pair}
use Rattle.toml.specs.Data.{Data, Items, Members, no_items, item, no_members, member, string, get_member, as_array, as_str}

-- `key_count` is the number of keys.
abbrev pub key_count : Members → ℕ
key_count no_members = 0
key_count (member key value others) = suc (key_count others)

-- A value in front of a list, if both are there, else nothing.
abbrev pub then_cons : {A : Type 0} → Option A → Option (List A) → Option (List A)
then_cons None others = None
then_cons (Some a) others = option_map (λ as'. a ∷ as') others

-- `each_of` is what is found in each item, if it is found in all.
abbrev pub each_of : {A : Type 0} → (Data → Option A) → Items → Option (List A)
each_of found no_items = Some []
each_of found (item value others) = then_cons (found value) (each_of found others)

-- `texts_of` has the strings of an array that has nothing else.
abbrev pub texts_of : Items → Option (List (List ℕ))
texts_of = each_of as_str

-- A pair is two strings, the lower first.
abbrev pub pair_in : Items → Option Pair
pair_in (item (string lower) (item (string upper) no_items)) = Some (record { lower = lower; upper = upper })
pair_in _ = None

-- The pair that a value lists, if it is a list of two strings.
abbrev pub pair_of : Data → Option Pair
pair_of value = option_and_then pair_in (as_array value)

-- `pairs_of` has the pairs of an array that has nothing else.
abbrev pub pairs_of : Items → Option (List Pair)
pairs_of = each_of pair_of

-- `array_at` is the array at a key.
abbrev pub array_at : List ℕ → Members → Option Items
array_at key members = option_and_then as_array (get_member key members)

-- The document has exactly two keys: `levels` is an array of strings, the names, and `below` an array of arrays of two
-- strings, the pairs.
pub record Lists (document : Members) (names : List (List ℕ)) (pairs : List Pair) : Type 0 where
  pub two_keys : key_count document ≡ 2
  pub levels : option_and_then texts_of (array_at (codes "levels") document) ≡ Some names
  pub below : option_and_then pairs_of (array_at (codes "below") document) ≡ Some pairs
