use Rattle.sap_cpu.proofs.Ends.{runs_end_as_printed}
use Rattle.sap_cpu.proofs.law.runs_end_as_printed.Goals as goal

pub returns : goal.returns
returns c = runs_end_as_printed
