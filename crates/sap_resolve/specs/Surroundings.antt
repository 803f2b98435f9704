-- Where a body stands, and what hangs on the points of its design.
use Rattle.std.specs.Prelude.{length}
use Rattle.sap_tree.specs.Trees.{states_of}
use Rattle.sap_shape.specs.Sites.{Surroundings}
use Rattle.sap_resolve.specs.Rows.{Rows, rows_in}
use Rattle.sap_resolve.specs.declared.standing.Known.{Known}
use Rattle.sap_resolve.specs.declared.standing.Standing.{Standing}

-- What a body knows of its design and of its state.
abbrev pub surroundings_of : Standing → Surroundings
surroundings_of s = record {
  entities = s.names.now;
  home = record { name = s.name.now; kind = s.kind.now; children = states_of s.children.now };
}

-- The lists of the design's points, by their numbers.
abbrev pub rows_of : Standing → Rows
rows_of s = rows_in (length s.names.now) s.table.now

-- The lists of the points of a design, by their numbers.
abbrev pub known_rows : Known → Rows
known_rows k = rows_in (length k.names.now) k.table.now
