-- The netlist of a module's text is one that the type of netlists takes.
use Rattle.std.proofs.Common.{ℕ, List, subst}
use Rattle.sap_net.specs.Prelude.{Net, IsNetlist}
use Rattle.sap_vtext.specs.Modules.{IsModule}
use Rattle.sap_vread.proofs.build.Netlist.{file_netlist}
use Rattle.sap_vread.proofs.build.SpelledNames.{spelled_written}
use Rattle.sap_vread.proofs.Faults.{text_of}

pub module_netlist : (text : List ℕ) (n : Net) → IsModule text n → IsNetlist n
module_netlist text n m =
    subst IsNetlist m.netlist (file_netlist m.file (spelled_written m.file (record { text = text; is = text_of text n m })) m.faultless)
