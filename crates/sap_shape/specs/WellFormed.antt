-- Well-formed designs, and the fault of a design that isn't.
use Rattle.std.specs.Prelude.{◌≡◌, ◌⊎◌, [], Some}
use Rattle.sap_tree.specs.Syntax.{DesignTree}
use Rattle.sap_lattice.specs.Levels.{Levels, order_of}
use Rattle.sap_names.specs.Fault.{First}
use Rattle.sap_names.specs.declared.fault.Fault.{Fault}
use Rattle.sap_names.specs.NameFaults.{design_name_faults}
use Rattle.sap_shape.specs.ShapeFaults.{HasShape, IsFirstShapeFault}

-- No fault of names and widths, E3 to E9, and none of shape, E10 to E17, stands anywhere in the design.
pub record WellFormed (ls : Levels) (d : DesignTree) : Type 0 where
  pub names : design_name_faults ls.names (order_of ls).le d ≡ []
  pub shape : HasShape d

-- The first of the faults of names and widths, or, where none of these stands, the first of those of shape.
abbrev pub IsFirstFault : Levels → DesignTree → Fault → Type 0
IsFirstFault ls d f =
    First (Some f) (design_name_faults ls.names (order_of ls).le d)
    ⊎ ((design_name_faults ls.names (order_of ls).le d ≡ []) × IsFirstShapeFault d f)
