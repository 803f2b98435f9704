use Rattle.std.proofs.Common.{◌∙◌, ap, sym, map, List}
use Rattle.sap_net.specs.declared.parts.Right.TheVariants.{Concat}
use Rattle.sap_vtext.specs.Modules.{net_operand}
use Rattle.sap_vparse.specs.Views.{operand_of}
use Rattle.sap_vparse.specs.declared.items.Operand.{Operand}
use Rattle.sap_vread.specs.Build.Narrow.{narrow_operand}
use Rattle.sap_vread.proofs.build.Views.{operands_mapped}
use Rattle.sap_vread.proofs.build.operands.right.Goals as goal

pub returns-in_ok-operands-in-Concat : goal.returns-in_ok-operands-in-Concat
returns-in_ok-operands-in-Concat c =
    rw c.in-Concat.is
    (ap Concat (c.in_ok-operands-in-Concat.ensures
    ∙ ap (λ (xs : List Operand). map (λ o. net_operand (narrow_operand (operand_of o))) xs) c.as_slice.ensures ∙ sym (operands_mapped _)))
