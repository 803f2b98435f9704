-- Lists of operands through their views.
use Rattle.std.proofs.Common.{◌≡◌, List, [], ◌∷◌, map, refl, ap}
use Rattle.sap_vtext.specs.Modules.{net_operand}
use Rattle.sap_vparse.specs.Views.{operand_of, operands_of}
use Rattle.sap_vparse.specs.declared.items.Operand.{Operand}
use Rattle.sap_vread.specs.Build.Narrow.{narrow_operand}

pub operands_mapped : (xs : List Operand) → map net_operand (map narrow_operand (operands_of xs)) ≡ map (λ o. net_operand (narrow_operand (operand_of o))) xs
operands_mapped [] = refl
operands_mapped (x ∷ xs) = ap (λ z. net_operand (narrow_operand (operand_of x)) ∷ z) (operands_mapped xs)
