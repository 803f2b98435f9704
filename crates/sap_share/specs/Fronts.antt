-- Marks for bytes, set for the first bytes of names.
use Rattle.std.specs.Prelude.{◌≡◌, ℕ, Bool, true, false, List, slice_get, slice_index_or}
use Rattle.std.specs.Option.{unwrap_or}
use Rattle.sap_maps.specs.Maps.{Name}
use Rattle.sap_share.specs.Sets.{holds}

-- The first byte of a name, 0 if it has none.
abbrev pub front : Name → ℕ
front n = unwrap_or (slice_get n 0) 0

-- The place is marked.
abbrev pub is_marked : List Bool → ℕ → Bool
is_marked marks k = slice_index_or marks k false

-- The first byte of each name of a list has a mark.
abbrev pub AreMarked : List Bool → List Name → Type 0
AreMarked marks names = (n : Name) → holds names n ≡ true → is_marked marks (front n) ≡ true
