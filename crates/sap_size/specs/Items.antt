-- How many items a module has.
use Rattle.std.specs.Prelude.{ℕ, ◌+◌, ◌*◌, ◌≤◌, length}
use Rattle.sap_tree.specs.Syntax.{DesignTree}
use Rattle.sap_lattice.specs.Levels.{Levels}
use Rattle.sap_net.specs.Net.{Net}
use Rattle.sap_size.specs.Trees.{design_nodes, entity_count}

-- How many items a module has: an `assign` for each wire, and an `always` for each register and each memory.
abbrev pub items : Net → ℕ
items n = length n.wires + length n.registers + length n.memories

-- The bound on a module's items: eight times one more than the design's nodes, times one more than its entities and the
-- lattice's levels together.
abbrev pub most_items : Levels → DesignTree → ℕ
most_items ls d = 8 * (1 + design_nodes d) * (1 + entity_count d + length ls.names)

-- A module has at most `most_items` items.
abbrev pub IsSmall : Levels → DesignTree → Net → Type 0
IsSmall ls d n = items n ≤ most_items ls d
