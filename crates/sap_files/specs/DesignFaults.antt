-- Why the text of a design gives no module, no run and no report.
use Rattle.std.specs.Prelude.{ℕ, List}
use Rattle.sap_lattice.specs.Levels.{Levels}
use Rattle.sap_tree.specs.Syntax.{DesignTree}
use Rattle.sap_parse.specs.Text.{IsText, IsReadFault}
use Rattle.sap_check.specs.Faults.{IsCheckFault}
use Rattle.sap_files.specs.declared.fault.DesignFault.{DesignFault}
use Rattle.sap_files.specs.declared.fault.DesignFault.TheVariants.{Read, Check}

-- What a fault says of a text: it has this read fault, or its design has this fault first.
abbrev pub IsDesignFault : Levels → List ℕ → DesignFault → Type 0
IsDesignFault ls source (Read fault) = IsReadFault source fault
IsDesignFault ls source (Check fault) = (d : DesignTree) × IsText source d × IsCheckFault ls d fault
