use Rattle.sap_wiring.specs.Wiring.{seen}
use Rattle.sap_wiring.proofs.Answered.{valid_answer, exact_answer}
use Rattle.sap_wiring.proofs.wiring.wire_up.Goals as goal

pub returns-clause-valid : goal.returns-clause-valid
returns-clause-valid c = valid_answer (seen c.args.around.now) c.args.texts.now c.wires_of.result c.wires_of.ensures.refused

pub returns-clause-exact : goal.returns-clause-exact
returns-clause-exact c = exact_answer (seen c.args.around.now) c.args.texts.now c.wires_of.result c.wires_of.ensures.refused c.wires_of.ensures.kept
