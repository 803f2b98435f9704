-- What holds of every tainted netlist.
use Rattle.std.specs.Prelude.{ℕ}
use Rattle.sap_net.specs.Net.{Net}
use Rattle.sap_net.specs.Rules.{IsWidth}
use Rattle.sap_net.specs.IsNetlist.{IsNetlist}
use Rattle.sap_taint.specs.TagNames.{HasRoomForTags}
use Rattle.sap_taint.specs.Carries.{CarriesTaint}
use Rattle.sap_taint_pass.specs.Helping.{AreHelping, IsSmall, helping_name, tainted}

-- Helping wires have names of their own.
abbrev pub HelpIsNamed : Type 0
HelpIsNamed = (n : Net) → IsNetlist n → IsSmall n → AreHelping n (helping_name n)

-- A netlist with tags is one.
abbrev pub TaintedIsNetlist : Type 0
TaintedIsNetlist = (w : ℕ) (n : Net) → IsWidth w → IsNetlist n → HasRoomForTags n → IsSmall n → IsNetlist (tainted w n)

-- And it carries the taint of the one without.
abbrev pub TaintedCarries : Type 0
TaintedCarries = (w : ℕ) (n : Net) → IsWidth w → IsNetlist n → HasRoomForTags n → IsSmall n
    → CarriesTaint w n (tainted w n)
