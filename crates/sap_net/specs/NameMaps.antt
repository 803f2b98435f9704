-- Maps from names.
use Rattle.std.specs.Prelude.{◌≡◌, ℕ, zero, suc, List, [], ◌∷◌, Option, Some, None, bytes_eq, if◌then◌else◌}
use Rattle.std.specs.Option.{option_map}
use Rattle.std.specs.HashMap.{HashMap, get_by}
use Rattle.std.specs.declared.hash.FoldHasher.{FoldHasher}
use Rattle.std.specs.declared.hash.BuildHasherDefault.{BuildHasherDefault}
use Rattle.std.specs.declared.vec.Vec.{Vec}
use Rattle.std.specs.declared.alloc.Global.{Global}
use Rattle.sap_maps.specs.Maps.{Name}

-- A map by names.
abbrev pub NameMap : Type 0 → Type 0
NameMap X = HashMap (Vec ℕ Global) X (BuildHasherDefault FoldHasher)

-- What the map has for a name.
abbrev pub at_name : {X : Type 0} → NameMap X → Name → Option X
at_name m n = get_by (λ k. bytes_eq n k.items) m

-- One name has this, the others what they had.
abbrev pub Puts : {X : Type 0} → (before : Name → Option X) → Name → X → (after : Name → Option X) → Type 0
Puts e x o f = (n : Name) → f n ≡ (if bytes_eq x n then Some o else e n)

-- The first place of a name on a list, from 0.
abbrev pub place_in : List Name → Name → Option ℕ
place_in [] n = None
place_in (x ∷ xs) n = if bytes_eq x n then Some zero else option_map suc (place_in xs n)

-- Each name of a list at its first place, and no other.
abbrev pub AtPlaces : (at : Name → Option ℕ) → List Name → Type 0
AtPlaces at names = (n : Name) → at n ≡ place_in names n

-- The map gives each of the names its place in the list.
abbrev pub Indexes : NameMap ℕ → List Name → Type 0
Indexes m names = AtPlaces (at_name m) names
