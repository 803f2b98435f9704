-- What a checked design is of.
use Rattle.sap_tree.specs.Designs.{design_of}
use Rattle.sap_tree.specs.Syntax.{DesignTree}
use Rattle.sap_tree.specs.declared.design.Design.{Design}
use Rattle.sap_lattice.specs.Levels.{Levels}
use Rattle.sap_check.specs.declared.checked.Checked.{Checked}

-- The design that was checked, its tree, and the levels that it was checked for.
abbrev pub design_in : Checked → Design
design_in c = c.design

-- The tree of the design that was checked.
abbrev pub tree_in : Checked → DesignTree
tree_in c = design_of c.design

-- The levels of the lattice over which it was checked.
abbrev pub levels_in : Checked → Levels
levels_in c = c.lattice
