-- On what stands in Faults: what several crates cite.
use Rattle.sap_check.specs.Faults.{IsCheckFault}
use Rattle.sap_lattice.specs.Levels.{Levels}
use Rattle.sap_names.specs.declared.fault.CheckFault.{CheckFault}
use Rattle.sap_shape.proofs.WellFormedLemmas.{no_first_fault}
use Rattle.sap_shape.specs.WellFormed.{WellFormed}
use Rattle.sap_tree.specs.Syntax.{DesignTree}
use Rattle.sap_names.specs.declared.fault.CheckFault.TheVariants as check

pub no_check_fault : (ls : Levels) (d : DesignTree) (f : CheckFault) → WellFormed ls d → IsCheckFault ls d f → ⊥
no_check_fault ls d (check.Rule code place) w h = no_first_fault ls d (record { code = code; place = place }) w h
no_check_fault ls d check.Memory w h = h
