-- Places, as one more name is added.
use Rattle.sap_lemmas.proofs.Common.{◌≡◌, ℕ, List, [], ◌∷◌, ◌++◌, Option, Some, None, true, false, length, is_some, ◌∙◌, refl, bytes_eq, keys_of}
use Rattle.std.specs.HashMap as hash
use Rattle.sap_maps.specs.Maps.{Name}
use Rattle.sap_net.specs.Prelude.{is_among, AtPlaces, place_in}
use Rattle.sap_net.proofs.Places.{is_there, placed}
use Rattle.sap_share.specs.NameTables.{NameTable, of_name}
use Rattle.sap_share.proofs.Lookups.{named_push, names_long}
use Rattle.sap_share.proofs.NameTables.{added_new, added_old, puts}

not_there : (o : Option ℕ) → is_some o ≡ false → o ≡ None
not_there None h = refl
not_there (Some k) h = absurd (cc)

-- a name that has a place keeps it
pub added_again : (m : NameTable ℕ) (names : List Name) (x : Name) → is_among x names ≡ true → AtPlaces (of_name m) names → AtPlaces (of_name m) (names ++ x ∷ [])
added_again m names x t is =
    let p = is_there (place_in names x) (placed names x ∙ t) in
    added_old (of_name m) names x p.0 (is x ∙ p.1) is

-- another one has the place behind all
pub added : (m m' : NameTable ℕ) (names : List Name) (key x : Name) (k : ℕ) → key ≡ x → is_among x names ≡ false → length names ≡ k
    → hash.Updates bytes_eq m m' key (Some k) → AtPlaces (of_name m) names → AtPlaces (of_name m') (names ++ x ∷ [])
added m m' names key x k copy other place updates is =
    added_new (of_name m) (of_name m') names x k (is x ∙ not_there (place_in names x) (placed names x ∙ other)) (puts m m' key x k copy updates) place is

-- so has a new entry of a table
pub entry_added : {X : Type 0} (m m' : NameTable ℕ) (es : List (Name × X)) (key x : Name) (v : X) (k : ℕ) → key ≡ x → place_in (keys_of es) x ≡ None → length es ≡ k
    → hash.Updates bytes_eq m m' key (Some k) → AtPlaces (of_name m) (keys_of es) → AtPlaces (of_name m') (keys_of (es ++ (x, v) ∷ []))
entry_added m m' es key x v k copy other place updates is =
    rw (named_push es (x, v))
    (added_new (of_name m) (of_name m') (keys_of es) x k (is x ∙ other) (puts m m' key x k copy updates) (names_long es ∙ place) is)
