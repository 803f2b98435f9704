-- The tree of a design.
use Rattle.sap_tree.specs.Parts.{tree_of}
use Rattle.sap_tree.specs.Syntax.{DesignTree}
use Rattle.sap_tree.specs.declared.design.Design.{Design}

-- The tree of a design that the parser made.
abbrev pub design_of : Design → DesignTree
design_of design = tree_of design.version design.declarations.items design.states.items
