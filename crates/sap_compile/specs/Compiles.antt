-- What compiling a design gives.
use Rattle.std.specs.Prelude.{ℕ, List}
use Rattle.sap_lattice.specs.Levels.{Levels}
use Rattle.sap_tree.specs.Syntax.{DesignTree}
use Rattle.sap_shape.specs.WellFormed.{WellFormed}
use Rattle.sap_net.specs.Net.{Net}
use Rattle.sap_size.specs.Items.{IsSmall}
use Rattle.sap_trim.specs.Names.{port_names}
use Rattle.sap_compile.specs.Tidy.{IsTidy}
use Rattle.sap_vtext.specs.Modules.{IsModule}
use Rattle.sap_interface.specs.Designs.{StandsForDesign, StartsAsDesign}
use Rattle.sap_compile.specs.Agree.{RunsAgree, RunsLookAlike}
use Rattle.sap_compile.specs.Runs.{HasOneRunOnStreams}

-- The design is well formed, the text is that of a module, the module stands for the design, starts as it does and has
-- exactly one run on every stream that fits, and on streams that agree at or below a level its runs agree there in
-- every cycle. No two of its helping wires are alike, each is read, and none folds any further; wires that are ports
-- are copies. The module is small.
pub record IsModuleFor (ls : Levels) (d : DesignTree) (net : Net) (text : List ℕ) : Type 0 where
  pub well_formed : WellFormed ls d
  pub is_module : IsModule text net
  pub stands : StandsForDesign ls d net
  pub starts : StartsAsDesign ls d net
  pub has_one_run : HasOneRunOnStreams ls d net
  pub agrees : RunsAgree ls d net
  pub looks_alike : RunsLookAlike ls d net
  pub tidy : IsTidy (port_names net) net
  pub small : IsSmall ls d net

-- The netlist is that of a module for the design.
abbrev pub IsNetlistFor : Levels → DesignTree → Net → Type 0
IsNetlistFor ls d net = (text : List ℕ) × IsModuleFor ls d net text
