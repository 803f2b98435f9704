-- What hangs on the points of a design and on the root: what the commands that the points are touch, and what the
-- root's fall touches. Points are numbered from 1 and entities from 0; on a number that is no point nothing hangs, and
-- a number that is no entity hangs nowhere.
use Rattle.std.specs.Prelude.{◌≡◌, ℕ, zero, suc, Bool, false, List, Option, Some, None, slice_get, unwrap_or}
use Rattle.sap_tree.specs.declared.syntax.Decl.{Decl}
use Rattle.sap_tree.specs.Syntax.{DesignTree}
use Rattle.sap_tree.specs.Touches.{touches, root_touches}
use Rattle.sap_names.specs.declared.entity.Entity.{Entity}
use Rattle.sap_names.specs.Entities.{entities_of}
use Rattle.sap_tree.specs.Points.{Point, points_of}

-- The command at a point touches an entity; false where one of the two is missing.
abbrev pub touches_entity : List Decl → Option Point → Option Entity → Bool
touches_entity ds None e = false
touches_entity ds (Some p) None = false
touches_entity ds (Some p) (Some e) = touches ds p.home p.command e.name.name

-- The command at the point of this number touches the entity. Points are numbered from 1, and entities from 0; on point
-- 0 nothing hangs.
abbrev pub hangs : DesignTree → (point entity : ℕ) → Bool
hangs d zero x = false
hangs d (suc p) x = touches_entity d.declarations (slice_get (points_of d) p) (slice_get (entities_of d) x)

-- The root's fall touches an entity; false where it is missing.
abbrev pub root_touches_entity : DesignTree → Option Entity → Bool
root_touches_entity d None = false
root_touches_entity d (Some e) = root_touches d e.name.name

-- The entity hangs on the fall of the root.
abbrev pub hangs_on_root : DesignTree → (entity : ℕ) → Bool
hangs_on_root d x = root_touches_entity d (slice_get (entities_of d) x)

-- For each point a row, which says of each entity whether it hangs there.
abbrev pub Rows : Type 0
Rows = List (List Bool)

-- A table: the rows of the points, and the root's.
pub record Table : Type 0 where
  pub points : Rows
  pub root : List Bool

-- The bit of a row at a place; false where there is no row or no such place.
abbrev pub bit_of : Option (List Bool) → (place : ℕ) → Bool
bit_of None x = false
bit_of (Some row) x = unwrap_or (slice_get row x) false

-- In a table the entity hangs on the point of this number; on point 0, and on a point without a row, nothing does.
abbrev pub says : Table → (point entity : ℕ) → Bool
says table zero x = false
says table (suc p) x = bit_of (slice_get table.points p) x

-- What a table says of an entity and the fall of the root.
abbrev pub says_of_root : Table → (entity : ℕ) → Bool
says_of_root table x = unwrap_or (slice_get table.root x) false

-- The table says of every point and of the root exactly what hangs there in the design.
pub record IsHangTable (d : DesignTree) (table : Table) : Type 0 where
  pub points : (p x : ℕ) → says table p x ≡ hangs d p x
  pub root : (x : ℕ) → says_of_root table x ≡ hangs_on_root d x
