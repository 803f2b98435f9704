-- The text of a fault of a design that isn't well formed.
use Rattle.std.specs.Prelude.{ℕ, List, ◌++◌, codes}
use Rattle.std.specs.Fmt.{decimal}
use Rattle.sap_text.specs.Places.{place_text}
use Rattle.sap_names.specs.Fault.{number}
use Rattle.sap_names.specs.declared.fault.CheckFault.{CheckFault}
use Rattle.sap_names.specs.declared.fault.CheckFault.TheVariants.{Rule, Memory}

-- The text of a fault of a design that isn't well formed.
abbrev pub check_text : CheckFault → List ℕ
check_text (Rule code place) = codes "E" ++ decimal (number code) ++ codes " " ++ place_text place
check_text Memory = codes "memory"
