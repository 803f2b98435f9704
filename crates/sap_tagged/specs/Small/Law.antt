-- The plain programs of designs are small.
use Rattle.std.specs.Prelude.{◌≤◌}
use Rattle.sap_tree.specs.Syntax.{DesignTree}
use Rattle.sap_lattice.specs.Levels.{Levels}
use Rattle.sap_size.specs.Nested.{nested_weight}
use Rattle.sap_size.specs.Items.{most_items}
use Rattle.sap_tagged.specs.Law.{IsSound, plain_for}

-- For each sound design, its plain program is within the bound on size.
abbrev pub PlainsAreSmall : Type 0
PlainsAreSmall = (ls : Levels) (d : DesignTree) → IsSound ls d → nested_weight (plain_for ls d) ≤ most_items ls d
