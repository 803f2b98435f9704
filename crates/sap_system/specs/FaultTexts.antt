-- The texts of the faults of a system.
use Rattle.std.specs.Prelude.{ℕ, List, ◌++◌, codes}
use Rattle.std.specs.Fmt.{decimal}
use Rattle.sap_system.specs.declared.fault.SysFault.{SysFault}
use Rattle.sap_system.specs.declared.fault.SysFault.TheVariants as file
use Rattle.sap_system.specs.declared.fault.SysCode.TheVariants.{K1, K2, K3, K4}
use Rattle.sap_system.specs.declared.link_fault.LinkCode.TheVariants.{K5, K6, K7, K8, K9}
use Rattle.sap_system.specs.declared.link_fault.LinkFault.{LinkFault}
use Rattle.sap_system.specs.declared.link_fault.LinkFault.TheVariants as link

-- The code, and of K3 and K4 its number.
abbrev pub system_text : SysFault → List ℕ
system_text (file.Rule K1 n) = codes "K1"
system_text (file.Rule K2 n) = codes "K2"
system_text (file.Rule K3 n) = codes "K3 " ++ decimal n
system_text (file.Rule K4 n) = codes "K4 " ++ decimal n
system_text file.Memory = codes "memory"

-- The code, and the wire.
abbrev pub wire_text : LinkFault → List ℕ
wire_text (link.Rule K5 n) = codes "K5 " ++ decimal n
wire_text (link.Rule K6 n) = codes "K6 " ++ decimal n
wire_text (link.Rule K7 n) = codes "K7 " ++ decimal n
wire_text (link.Rule K8 n) = codes "K8 " ++ decimal n
wire_text (link.Rule K9 n) = codes "K9 " ++ decimal n
wire_text link.Memory = codes "memory"
