-- Netlists without needless wires.
use Rattle.std.specs.Prelude.{◌≡◌, true, false, not, List, filter}
use Rattle.std.specs.List.{AllByRecursion}
use Rattle.sap_maps.specs.Maps.{Name}
use Rattle.sap_net.specs.Names.{is_among}
use Rattle.sap_net.specs.Net.{Net}
use Rattle.sap_net.specs.declared.parts.Operand.{Operand}
use Rattle.sap_net.specs.declared.parts.Right.TheVariants.{Copy}
use Rattle.sap_net.specs.declared.parts.Wire.{Wire}
use Rattle.sap_share.specs.Differing.{AllDiffer}
use Rattle.sap_fold.specs.Settled.{IsSettled, is_copy}
use Rattle.sap_trim.specs.Reads.{IsRead}

-- The wires that have none of these names.
abbrev pub other_wires : List Name → Net → List Wire
other_wires shown n = filter (λ w. not (is_among w.name shown)) n.wires

-- Some names are shown, as those of ports are. Each other wire is read, no two of them have the same width and the same
-- right side, and the right side of each is no copy and folds to itself. The wires that are shown only copy.
pub record IsTidy (shown : List Name) (n : Net) : Type 0 where
  pub read : AllByRecursion (λ w. IsRead n w.name) (other_wires shown n)
  pub shared : AllDiffer (other_wires shown n)
  pub folded : AllByRecursion (λ w. (is_copy w.right ≡ false) × IsSettled w) (other_wires shown n)
  pub copies : AllByRecursion (λ w. is_among w.name shown ≡ true → (a : Operand) × (w.right ≡ Copy a)) n.wires
