use Rattle.std.proofs.Common.{sym, subst}
use Rattle.sap_check.specs.Checked.{tree_in}
use Rattle.sap_check.specs.declared.checked.Checked.{Checked}
use Rattle.sap_hang.specs.Hang.{IsHangTable}
use Rattle.sap_compile.specs.Parts.{hang_of}
use Rattle.sap_compile.proofs.compiler.compile.Goals as goal

pub returns-clause-hang : goal.returns-clause-hang
returns-clause-hang c =
    subst (λ (k : Checked). IsHangTable (tree_in k) (hang_of c.in_ok-compiled.compiled)) (sym c.in_ok-compiled.ensures.same) c.in_ok-compiled.ensures.hang
