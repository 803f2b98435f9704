use Rattle.sap_system.proofs.Answered.{valid_answer, exact_answer}
use Rattle.sap_system.proofs.read.read_system.Goals as goal

pub returns-clause-valid : goal.returns-clause-valid
returns-clause-valid c = valid_answer c.args.bytes.now c.judge.result c.judge.ensures.refused

pub returns-clause-exact : goal.returns-clause-exact
returns-clause-exact c = exact_answer c.args.bytes.now c.judge.result c.judge.ensures.accepted c.judge.ensures.refused
