use Rattle.sap_wiring.proofs.Answered.{valid_answer, exact_answer}
use Rattle.sap_linker.specs.Given.{designs_of, surroundings}
use Rattle.sap_linker.proofs.module.link.Goals as goal

pub returns-clause-valid : goal.returns-clause-valid
returns-clause-valid c =
    valid_answer (surroundings c.args.lattice.now (designs_of c.args.parts.now)) c.args.system.now.wires c.linked.result c.linked.ensures.refused

pub returns-clause-exact : goal.returns-clause-exact
returns-clause-exact c =
    exact_answer (surroundings c.args.lattice.now (designs_of c.args.parts.now)) c.args.system.now.wires c.linked.result c.linked.ensures.refused c.linked.ensures.kept
