use Rattle.sap_machine.proofs.Worked.{assembles, numbers, no_form, no_end, too_many}
use Rattle.sap_machine.proofs.examples.worked_assembly.Goals as goal

pub returns : goal.returns
returns c = record { assembles = assembles; numbers = numbers; no_form = no_form; no_end = no_end; too_many = too_many }
