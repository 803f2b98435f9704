-- How many items the module of a system has at most.
use Rattle.std.specs.Prelude.{ℕ, ◌+◌, ◌*◌, ◌≤◌, List, length, sum_by}
use Rattle.sap_lattice.specs.Levels.{Levels}
use Rattle.sap_net.specs.Net.{Net}
use Rattle.sap_size.specs.Items.{items, most_items}
use Rattle.sap_trim.specs.Few.{calculated}
use Rattle.sap_trim.specs.Names.{shown_wires}
use Rattle.sap_linked.specs.Designs.{NamedDesign}

-- What a part's netlist adds: its items, and one for each of its wires that is a port and no copy.
abbrev pub net_items : Net → ℕ
net_items n = items n + length (calculated (shown_wires n))

-- It has no more items than the netlists of the parts add, and five for each wire between them.
abbrev pub HasFewItems : (parts : List Net) → (wires : ℕ) → Net → Type 0
HasFewItems parts wires n = items n ≤ sum_by net_items parts + 5 * wires

-- The sum of the bounds of the parts' designs.
abbrev pub most_items_of : Levels → List NamedDesign → ℕ
most_items_of ls designs = sum_by (λ (d : NamedDesign). most_items ls d.design) designs

-- It has no more items than that, and five for each wire between them.
abbrev pub IsSmallSystem : Levels → List NamedDesign → (wires : ℕ) → Net → Type 0
IsSmallSystem ls designs wires n = items n ≤ most_items_of ls designs + 5 * wires
