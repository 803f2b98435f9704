-- The parts of a compiled design.
use Rattle.std.specs.Prelude.{ℕ, List}
use Rattle.sap_check.specs.declared.checked.Checked.{Checked}
use Rattle.sap_check.specs.Checked.{levels_in, tree_in}
use Rattle.sap_hang.specs.Hang.{Table}
use Rattle.sap_lattice.specs.Levels.{Levels}
use Rattle.sap_net.specs.Net.{Net}
use Rattle.sap_tree.specs.Syntax.{DesignTree}
use Rattle.sap_compile.specs.declared.compiled.Compiled.{Compiled}

-- The checked design.
abbrev pub checked_of : Compiled → Checked
checked_of c = c.checked

-- What hangs on the points of the design.
abbrev pub hang_of : Compiled → Table
hang_of c = c.hang

-- The netlist.
abbrev pub netlist_of : Compiled → Net
netlist_of c = c.netlist

-- The text of the module.
abbrev pub module_of : Compiled → List ℕ
module_of c = c.module

-- The design, and the levels over which it is well formed.
abbrev pub design_of : Compiled → DesignTree
design_of c = tree_in c.checked

-- The levels of the lattice.
abbrev pub levels_of : Compiled → Levels
levels_of c = levels_in c.checked
