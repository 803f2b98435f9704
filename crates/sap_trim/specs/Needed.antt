-- The wires that are ports, or that what is needed reads.
use Rattle.std.specs.Prelude.{◌≡◌, ℕ, ◌<◌, ◌==◌, Bool, false, ◌||◌, List, [], ◌∷◌, ◌++◌, length, slice_index_or, Option, Some, None, if◌then◌else◌}
use Rattle.sap_maps.specs.Maps.{Name}
use Rattle.sap_net.specs.Names.{is_among}
use Rattle.sap_net.specs.NameMaps.{place_in}
use Rattle.sap_net.specs.Net.{Net}
use Rattle.sap_net.specs.declared.parts.Wire.{Wire}
use Rattle.sap_trim.specs.Names.{port_names}
use Rattle.sap_trim.specs.Reads.{wire_reads, edge_reads}

-- Whether a wire is a port, or is read by those behind it that are needed, or at the edge.
abbrev pub is_needed : (ports edge : List Name) → Wire → (behind : List Wire) → Bool
is_needed ports edge w behind = is_among w.name ports || is_among w.name (wire_reads behind ++ edge)

-- The wires that a port shows, or that something kept reads.
abbrev pub needed : (ports edge : List Name) → List Wire → List Wire
needed ports edge [] = []
needed ports edge (w ∷ ws) =
    let behind = needed ports edge ws in if is_needed ports edge w behind then w ∷ behind else behind

-- The wires of a net that are needed.
abbrev pub needed_wires : Net → List Wire
needed_wires n = needed (port_names n) (edge_reads n) n.wires

-- Marks of wires, by their places.

-- The place is marked.
abbrev pub is_marked : List Bool → (place : ℕ) → Bool
is_marked bs k = slice_index_or bs k false

-- The found place is this one.
abbrev pub is_at : Option ℕ → (place : ℕ) → Bool
is_at None k = false
is_at (Some j) k = j == k

-- One of the names xs has the place among all names.
abbrev pub has_place : (all xs : List Name) → (place : ℕ) → Bool
has_place all [] k = false
has_place all (x ∷ xs) k = is_at (place_in all x) k || has_place all xs k

-- The places of the names are marked too.
pub record Marks (all xs : List Name) (before after : List Bool) : Type 0 where
  pub long : length after ≡ length before
  pub each : (k : ℕ) → k < length before → is_marked after k ≡ (has_place all xs k || is_marked before k)

-- The wires whose places are marked.
abbrev pub marked : List Bool → List Wire → List Wire
marked bs [] = []
marked [] (w ∷ ws) = []
marked (b ∷ bs) (w ∷ ws) = if b then w ∷ marked bs ws else marked bs ws

-- A mark for each wire, which those have that are needed.
pub record MarksNeeded (n : Net) (marks : List Bool) : Type 0 where
  pub long : length marks ≡ length n.wires
  pub needed : marked marks n.wires ≡ needed_wires n
