-- A netlist that is a module's for a design is so with each of its texts.
use Rattle.std.proofs.Common.{ℕ, List}
use Rattle.sap_lattice.specs.Levels.{Levels}
use Rattle.sap_tree.specs.Syntax.{DesignTree}
use Rattle.sap_net.specs.Net.{Net}
use Rattle.sap_vtext.specs.Modules.{IsModule}
use Rattle.sap_compile.specs.Compiles.{IsModuleFor, IsNetlistFor}

pub with_text : (ls : Levels) (d : DesignTree) (n : Net) (text : List ℕ) → IsNetlistFor ls d n → IsModule text n → IsModuleFor ls d n text
with_text ls d n text (other, is) printed = record {
  well_formed = is.well_formed;
  is_module = printed;
  stands = is.stands;
  starts = is.starts;
  has_one_run = is.has_one_run;
  agrees = is.agrees;
  looks_alike = is.looks_alike;
  tidy = is.tidy;
  small = is.small;
}
