-- Wires that the table of rules folds no further.
use Rattle.std.specs.Prelude.{◌≡◌, Bool, true, false, List}
use Rattle.std.specs.List.{AllByRecursion}
use Rattle.sap_net.specs.declared.parts.Right.{Right}
use Rattle.sap_net.specs.declared.parts.Right.TheVariants.{Copy}
use Rattle.sap_net.specs.declared.parts.Wire.{Wire}
use Rattle.sap_share.specs.Differing.{AllDiffer}
use Rattle.sap_share.specs.Rights.{RightMap, NamesRights}
use Rattle.sap_fold.specs.Folding.{folded}

-- The wire's right side folds to itself.
abbrev pub IsSettled : Wire → Type 0
IsSettled w = folded w.width w.right ≡ w.right

-- The right side is a copy.
abbrev pub is_copy : Right → Bool
is_copy (Copy a) = true
is_copy _ = false

-- Wires that differ, fold no further and are no copies, and the map from their right sides to the numbers in their
-- names.
pub record Orderly (numbers : RightMap) (ws : List Wire) : Type 0 where
  pub names : NamesRights numbers ws
  pub differ : AllDiffer ws
  pub settled : AllByRecursion IsSettled ws
  pub calculated : AllByRecursion (λ w. is_copy w.right ≡ false) ws
