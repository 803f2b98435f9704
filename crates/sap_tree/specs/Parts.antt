-- The tree of a version, of declarations and top-level states.
use Rattle.std.specs.Prelude.{List}
use Rattle.sap_tree.specs.Syntax.{DesignTree}
use Rattle.sap_tree.specs.Trees.{states_of}
use Rattle.sap_tree.specs.declared.syntax.Decl.{Decl}
use Rattle.sap_tree.specs.declared.syntax.State.{State}
use Rattle.sap_tree.specs.declared.version.Version.{Version}

-- The tree of a design with this version, these declarations and these top-level states.
abbrev pub tree_of : Version → List Decl → List State → DesignTree
tree_of version declarations states = record {
  version = version;
  declarations = declarations;
  states = states_of states;
}
