-- What a fault of a check says of a design.
use Rattle.sap_lattice.specs.Levels.{Levels}
use Rattle.sap_names.specs.declared.fault.CheckFault.{CheckFault}
use Rattle.sap_names.specs.declared.fault.CheckFault.TheVariants as check
use Rattle.sap_shape.specs.WellFormed.{IsFirstFault}
use Rattle.sap_tree.specs.Syntax.{DesignTree}

-- A fault of names, widths or shape: the first.
abbrev pub IsCheckFault : Levels → DesignTree → CheckFault → Type 0
IsCheckFault ls d (check.Rule code place) = IsFirstFault ls d (record { code = code; place = place })
IsCheckFault ls d check.Memory = ⊥
