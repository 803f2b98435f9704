-- What the wires of check sites tell in a cycle.
use Rattle.std.specs.Prelude.{◌≡◌, ◌≢◌, ◌<◌, ◌≤◌, ◌+◌, ℕ, zero, suc, ◌==◌, List, [], ◌++◌, Some, None, length, get_or, option_map, if◌then◌else◌}
use Rattle.sap_tree.specs.Syntax.{DesignTree}
use Rattle.sap_lattice.specs.Closure.{name_at}
use Rattle.sap_lattice.specs.Codes.{width_of}
use Rattle.sap_lattice.specs.Levels.{Levels, order_of}
use Rattle.sap_check.specs.Sites.{sites_of}
use Rattle.sap_maps.specs.Maps.{Name, Valuation}
use Rattle.sap_maps.specs.Scope.{find}
use Rattle.sap_net.specs.Net.{Net}
use Rattle.sap_net.specs.IsNetlist.{readable}
use Rattle.sap_cycle.specs.Running.{value_names, IsPlaceOf}
use Rattle.sap_net.specs.PortNames.{refused_name, refused_level_name}
use Rattle.sap_interface.specs.Interface.{declared_by}
use Rattle.sap_stim.specs.Rows.{level_coded, level_text}
use Rattle.sap_sim.specs.Told.{told_from}
use Rattle.sap_trace.specs.declared.wires.Wires.{Wires}
use Rattle.sap_trace.specs.Lines.{site_line}

-- Two wires for each check site, as in the interface of a compiled module.
abbrev pub HasSiteWires : Levels → DesignTree → Net → Type 0
HasSiteWires ls d n = (k : ℕ) → 1 ≤ k → k ≤ length (sites_of d)
    → (find (declared_by n).wires (refused_name k) ≡ Some 1)
    × (find (declared_by n).wires (refused_level_name k) ≡ Some (width_of (order_of ls)))

-- So their names can be read, up to site `count`.
pub record AreReadable (n : Net) (count : ℕ) : Type 0 where
  pub refused : (k : ℕ) → 1 ≤ k → k ≤ count → find (readable n) (refused_name k) ≢ None
  pub levels : (k : ℕ) → 1 ≤ k → k ≤ count → find (readable n) (refused_level_name k) ≢ None

-- The places of the wires that a site's number gives the names of.
pub record ArePlaced (n : Net) (names : ℕ → Name) (count : ℕ) (places : List ℕ) : Type 0 where
  pub count_is : length places ≡ count
  pub within : (k : ℕ) → k < count → get_or places k 0 < length (value_names n)
  pub named : (k : ℕ) → k < count → IsPlaceOf n (names (k + 1)) (get_or places k 0)

-- The wires of refusals and of their levels have their places in the net.
pub record AreWires (n : Net) (count : ℕ) (w : Wires) : Type 0 where
  pub refused : ArePlaced n refused_name count w.refused.items
  pub levels : ArePlaced n refused_level_name count w.levels.items

-- The name of the level whose code this is.
abbrev pub coded_name : Levels → (tag : ℕ) → List ℕ
coded_name ls tag = level_text (option_map (name_at ls.names) (level_coded ls tag)) tag

-- The line of a site that is refused.
abbrev pub seen_line : Levels → DesignTree → (cycle k : ℕ) → Valuation → List ℕ
seen_line ls d cycle k v =
    if v.value (refused_name k) == 1 then site_line d cycle k (coded_name ls (v.value (refused_level_name k))) else []

-- Those of `count` sites from site k on.
abbrev pub seen_lines : Levels → DesignTree → (cycle k count : ℕ) → Valuation → List ℕ
seen_lines ls d cycle k zero v = []
seen_lines ls d cycle k (suc count) v = seen_line ls d cycle k v ++ seen_lines ls d cycle (suc k) count v

-- And of all sites of a design.
abbrev pub cycle_lines : Levels → DesignTree → (cycle : ℕ) → Valuation → List ℕ
cycle_lines ls d cycle v = seen_lines ls d cycle 1 (length (sites_of d)) v

-- In each cycle.
abbrev pub lines_from : Levels → DesignTree → (cycle : ℕ) → List Valuation → List ℕ
lines_from ls d = told_from (cycle_lines ls d)
