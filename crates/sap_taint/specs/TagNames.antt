-- The names of tags, and where they clash.
use Rattle.std.specs.Prelude.{◌≡◌, Bool, true, false, List, [], ◌∷◌, ◌++◌, map, unwrap_or}
use Rattle.sap_maps.specs.Maps.{Name}
use Rattle.sap_net.specs.Net.{Net}
use Rattle.sap_net.specs.Names.{is_among, AreDistinct}
use Rattle.sap_net.specs.PortNames.{value_of, tag_name}

-- The name of the tag of a name: `t_x` for `v_x`, and `t_z` for any other name z.
unfoldable pub name_of_tag : Name → Name
name_of_tag z = tag_name (unwrap_or (value_of z) z)

-- Names, each with its tag's directly behind.
abbrev pub with_tags : List Name → List Name
with_tags [] = []
with_tags (x ∷ xs) = x ∷ name_of_tag x ∷ with_tags xs

-- The name of x's tag is taken: it is the module's, a declared name, or that of an earlier name's tag.
abbrev pub clashes : Net → (earlier : List Name) → (x : Name) → Bool
clashes n earlier x = is_among (name_of_tag x) (n.module_name ∷ n.names ++ map name_of_tag earlier)

-- None of some names clashes, which are declared in turn behind `earlier`.
abbrev pub NoneClashes : Net → (earlier : List Name) → List Name → Type 0
NoneClashes n earlier [] = Unit {0}
NoneClashes n earlier (x ∷ xs) = (clashes n earlier x ≡ false) × NoneClashes n (earlier ++ x ∷ []) xs

-- `x` is the first declared name that clashes.
pub record IsClash (n : Net) (x : Name) : Type 0 where
  pub earlier : List Name
  pub later : List Name
  pub declared : n.names ≡ earlier ++ x ∷ later
  pub taken : clashes n earlier x ≡ true
  pub first : NoneClashes n [] earlier

-- All names and tags have names of their own, and no tag the module's.
pub record HasRoomForTags (n : Net) : Type 0 where
  pub distinct : AreDistinct (with_tags n.names)
  pub tag_names : is_among n.module_name (map name_of_tag n.names) ≡ false
