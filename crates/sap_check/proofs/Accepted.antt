-- A well-formed design has no first fault.
use Rattle.std.proofs.Common.{◌≡◌, refl}
use Rattle.sap_shape.proofs.WellFormedLemmas.{no_first_fault}
use Rattle.sap_tree.specs.Syntax.{DesignTree}
use Rattle.sap_text.specs.declared.place.Place.{Place}
use Rattle.sap_lattice.specs.Levels.{Levels}
use Rattle.sap_names.specs.declared.fault.CheckFault.{CheckFault}
use Rattle.sap_names.specs.declared.kind.Code.{Code}
use Rattle.sap_names.specs.declared.fault.CheckFault.TheVariants.{Memory, Rule}
use Rattle.sap_shape.specs.WellFormed.{WellFormed, IsFirstFault}

-- so that a fault of it is want of memory
pub accepted : (ls : Levels) (d : DesignTree) (fault : CheckFault)
    → ((code : Code) (place : Place) → fault ≡ Rule code place → IsFirstFault ls d (record { code = code; place = place })) → WellFormed ls d → fault ≡ Memory
accepted ls d (Rule code place) first w = absurd (no_first_fault ls d (record { code = code; place = place }) w (first code place refl))
accepted ls d Memory first w = refl
