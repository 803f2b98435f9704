use Rattle.sap_machine.proofs.Worked.{asm_of_two, cpu_of_two, refusals}
use Rattle.sap_machine.proofs.examples.worked_texts.Goals as goal

pub returns : goal.returns
returns c = record { stimulus = asm_of_two; users = cpu_of_two; refusals = refusals }
