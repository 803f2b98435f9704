-- On what stands in NameFaults: what several crates cite.
use Rattle.std.proofs.Common.{Bool, [], false, refl, true, ◌≡◌}
use Rattle.sap_names.specs.NameFaults.{fault_if}
use Rattle.sap_names.specs.declared.kind.Code.{Code}
use Rattle.sap_text.specs.declared.place.Place.{Place}

pub no_fault : (test : Bool) (code : Code) (place : Place) → fault_if test code place ≡ [] → test ≡ false
no_fault true code place h = cc
no_fault false code place h = refl
