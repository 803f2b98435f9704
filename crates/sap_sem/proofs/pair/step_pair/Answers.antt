use Rattle.sap_sem.specs.Machine.{program_of, state_of, refusals_of}
use Rattle.sap_sem.proofs.pair.Cycles.{states, refusals}
use Rattle.sap_sem.proofs.pair.step_pair.Goals as goal

pub returns-clause-first : goal.returns-clause-first
returns-clause-first c = record {
  levels = c.step.ensures.levels;
  program = c.step.ensures.program;
  sites = c.step.ensures.sites;
  state = c.step.ensures.state;
  refusals = c.step.ensures.refusals;
  refused = c.step.ensures.refused;
}

pub returns-clause-second : goal.returns-clause-second
returns-clause-second c = record {
  levels = c.step-2.ensures.levels;
  program = c.step-2.ensures.program;
  sites = c.step-2.ensures.sites;
  state = c.step-2.ensures.state;
  refusals = c.step-2.ensures.refusals;
  refused = c.step-2.ensures.refused;
}

pub returns-clause-states : goal.returns-clause-states
returns-clause-states c = λ l agree inputs.
    let m = c.args.first.now in
    let n = c.args.second.now in
    states c.one_cycle.ensures (program_of m) (program_of n) c.lawful.ensures.fine c.requires.same (state_of m) (state_of n)
    c.lawful.ensures.rests c.lawful-2.ensures.rests l agree c.args.one.now c.args.other.now inputs
    (program_of c.step.new.self) (state_of c.step.new.self) (state_of c.step-2.new.self) c.step.ensures.program c.step.ensures.state c.step-2.ensures.state

pub returns-clause-refusals : goal.returns-clause-refusals
returns-clause-refusals c = λ l agree inputs.
    let m = c.args.first.now in
    let n = c.args.second.now in
    refusals c.one_cycle.ensures (program_of m) (program_of n) c.lawful.ensures.fine c.requires.same (state_of m) (state_of n)
    c.lawful.ensures.rests c.lawful-2.ensures.rests l agree c.args.one.now c.args.other.now inputs
    (refusals_of c.step.new.self) (refusals_of c.step-2.new.self) c.step.ensures.refusals c.step-2.ensures.refusals
