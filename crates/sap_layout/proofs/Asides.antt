-- Faults, places aside.
use Rattle.std.proofs.Common.{◌≡◌, List, [], ◌∷◌, ◌++◌, map, Bool, true, false, refl}
use Rattle.std.proofs.lemmas.List.{map-append}
use Rattle.sap_text.specs.declared.place.Place.{Place}
use Rattle.sap_tree.specs.Bare.{nowhere}
use Rattle.sap_names.specs.declared.fault.Fault.{Fault}
use Rattle.sap_names.specs.declared.kind.Code.{Code}
use Rattle.sap_names.specs.NameFaults.{fault_if}

-- a fault's code, nowhere
abbrev pub aside_fault : Fault → Fault
aside_fault f = record { code = f.code; place = nowhere }

-- the first list has the codes of the second, all nowhere
pub record Aside (bare faults : List Fault) : Type 0 where
  pub same : bare ≡ map aside_fault faults

pub none : Aside [] []
none = record { same = refl }

pub one : (test : Bool) (code : Code) (place : Place) → Aside (fault_if test code nowhere) (fault_if test code place)
one true code place = record { same = refl }
one false code place = record { same = refl }

pub both : {a b c d : List Fault} → Aside a b → Aside c d → Aside (a ++ c) (b ++ d)
both h i = record { same = rw (h.same, i.same, map-append) }

-- one has none where the other has none

pub bare_none : {a b : List Fault} → Aside a b → b ≡ [] → a ≡ []
bare_none h e = rw (h.same, e)

pub none_bare : {a b : List Fault} → Aside a b → a ≡ [] → b ≡ []
none_bare {b = []} h e = refl
none_bare {b = f ∷ b} h e = cc
