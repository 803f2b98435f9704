-- What is seen at places.
use Rattle.sap_lemmas.proofs.Common.{◌≡◌, ℕ, ◌<◌, List, [], ◌∷◌, ◌++◌, length, get_or, map, sym, ap, ap₂, ◌∙◌, refl, map-append, length-map, slice_get_within, slice_get-get_or, get_or_from_slice_get}
use Rattle.std.proofs.lemmas.List.Elements.{All-push}
use Rattle.sap_maps.specs.Maps.{Name, Valuation}
use Rattle.sap_net.specs.Prelude.{Net, observed, value_name, tag_name}
use Rattle.sap_lattice.specs.Levels.{Levels}
use Rattle.sap_stim.specs.Rows.{row_text, shown_of}
use Rattle.sap_sim.specs.Prelude.{row_of, ArePlaces, seen_at}
use Rattle.sap_cycle.specs.Running.{value_names, IsPlaceOf}

abbrev pub name_there : Net → ℕ → Name
name_there n k = get_or (value_names n) k []

pub places_more : (n : Net) (names : List Name) (ks : List ℕ) (x : Name) (k : ℕ) → ArePlaces n names ks → IsPlaceOf n x k → ArePlaces n (names ++ x ∷ []) (ks ++ k ∷ [])
places_more n names ks x k h p = record {
  within = All-push (λ (j : ℕ). j < length (value_names n)) ks k h.within (slice_get_within (value_names n) k x p);
  names_are =
      map-append (name_there n) ks (k ∷ [])
      ∙ ap₂ (λ (ys : List Name) (y : Name). ys ++ y ∷ []) h.names_are (get_or_from_slice_get (value_names n) k x [] p);
}

pub map_twice : {A B C : Type 0} (g : B → C) (f : A → B) (xs : List A) → map g (map f xs) ≡ map (λ x. g (f x)) xs
map_twice {A} {B} {C} g f [] = refl
map_twice {A} {B} {C} g f (x ∷ xs) = ap (λ ys. g (f x) ∷ ys) (map_twice g f xs)

-- what is seen at the places of names is what is seen of the names
pub seen_names : (n : Net) (v : Valuation) (names : List Name) (ks : List ℕ) → ArePlaces n names ks → seen_at n v ks ≡ map v.value names
seen_names n v names ks h = sym (map_twice v.value (name_there n) ks) ∙ ap (map v.value) h.names_are

pub places_count : (n : Net) (names : List Name) (ks : List ℕ) → ArePlaces n names ks → length ks ≡ length names
places_count n names ks h = sym (length-map ks (name_there n)) ∙ ap length h.names_are

pub is_there : (n : Net) (k : ℕ) → k < length (value_names n) → IsPlaceOf n (name_there n k) k
is_there n k h = slice_get-get_or (value_names n) k [] h

-- the numbers at the places of registers, whatever runner shows the cycle
pub seen_values : (n m : Net) (v : Valuation) (f : Name → Name) (names xs : List Name) (ks js : List ℕ) → m ≡ n → js ≡ ks → names ≡ xs → ArePlaces n (map f names) ks
    → seen_at m (observed m v) js ≡ map (λ x. (observed n v).value (f x)) xs
seen_values n m v f names xs ks js e d g h =
    ap (λ (q : Net). seen_at q (observed q v) js) e ∙ ap (seen_at n (observed n v)) d ∙ seen_names n (observed n v) (map f names) ks h ∙ map_twice (observed n v).value f names
    ∙ ap (map (λ (x : Name). (observed n v).value (f x))) g

pub row_is : (ls : Levels) (cycle : ℕ) (v : Valuation) (xs names : List Name) (values tags : List ℕ) → names ≡ xs
    → values ≡ map (λ x. v.value (value_name x)) xs → tags ≡ map (λ x. v.value (tag_name x)) xs
    → row_text cycle (shown_of ls names values tags) ≡ row_of ls xs cycle v
row_is ls cycle v xs names values tags e f g = rw (e, f, g) refl
