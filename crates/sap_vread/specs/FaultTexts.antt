-- The text of a module fault.
use Rattle.std.specs.Prelude.{ℕ, List, ◌++◌, codes}
use Rattle.std.specs.Fmt.{decimal}
use Rattle.sap_text.specs.Places.{place_text}
use Rattle.sap_vread.specs.Codes.{number}
use Rattle.sap_vread.specs.declared.fault.ModFault.{ModFault}
use Rattle.sap_vread.specs.declared.fault.ModFault.TheVariants.{Rule, Memory}

-- How a fault of a module is written.
abbrev pub module_text : ModFault → List ℕ
module_text (Rule code place) = codes "V" ++ decimal (number code) ++ codes " " ++ place_text place
module_text Memory = codes "memory"
