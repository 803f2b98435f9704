use Rattle.sap_compile.proofs.Compared.{cycles, numbers}
use Rattle.sap_compile.proofs.examples.compared_cycles.Goals as goal

pub returns : goal.returns
returns c = record { cycles = cycles; numbers = numbers }
