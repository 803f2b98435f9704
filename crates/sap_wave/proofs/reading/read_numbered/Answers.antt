use Rattle.sap_wave.specs.Steps.{state_of}
use Rattle.sap_wave.proofs.ReadUpTo.{fault_so}
use Rattle.sap_wave.proofs.reading.read_numbered.Goals as goal

pub returns-in-Ok-clause-reached : goal.returns-in-Ok-clause-reached
returns-in-Ok-clause-reached c = c.in-Ok.ensures.0

pub returns-in-Ok-clause-indexed : goal.returns-in-Ok-clause-indexed
returns-in-Ok-clause-indexed c = c.in-Ok.ensures.1

pub returns-in-Err-clause-fault : goal.returns-in-Err-clause-fault
returns-in-Err-clause-fault c = fault_so (state_of c.args.state) c.args.text.now c.args.line c.in-Err.stop c.at.result c.at.ensures c.in-Err.ensures
