-- The texts of faults, and when they come.
use Rattle.std.specs.Prelude.{List, ℕ, ◌++◌, codes}
use Rattle.sap_net.specs.Net.{Net}
use Rattle.sap_taint.specs.TagNames.{IsClash}
use Rattle.sap_taint_pass.specs.declared.fault.TaintFault.{TaintFault}
use Rattle.sap_taint_pass.specs.declared.fault.TaintFault.TheVariants.{Clash, Memory}

-- How a fault of `taint` is written.
abbrev pub taint_text : TaintFault → List ℕ
taint_text (Clash x) = codes "X1 " ++ x
taint_text Memory = codes "memory"

-- A fault names the first clash.
abbrev pub IsTaintFault : Net → TaintFault → Type 0
IsTaintFault n (Clash x) = IsClash n x
IsTaintFault n Memory = ⊥
