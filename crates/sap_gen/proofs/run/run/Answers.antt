use Rattle.std.proofs.Common.{◌+◌, ◌<◌, [], ◌∷◌, sym, ◌∙◌, arith}
use Rattle.sap_sem.specs.Machine.{program_of, refusals_of, state_of}
use Rattle.sap_gen.specs.Stream.{cycle_count, given}
use Rattle.sap_gen.proofs.Cycles.{count_here, count_step, fits_here, store_here, store_step}
use Rattle.sap_gen.proofs.run.run.Goals as goal

pub step-requires : goal.step-requires
step-requires c =
    fits_here (program_of c.args.machine.now) (program_of c.loop-cycle.machine) (given c.args.n (c.loop-cycle.cycle + 1) ∷ []) _ (c.requires.fit (c.loop-cycle.cycle + 1))
    c.loop-cycle.invariant.program c.in_ok-inputs.ensures

pub refused_count-refusals-requires : goal.refused_count-refusals-requires
refused_count-refusals-requires c = c.requires.sites ∙ sym c.loop-cycle.invariant.sites ∙ sym c.step.ensures.sites

pub loop-cycle-preserved : goal.loop-cycle-preserved
loop-cycle-preserved c =
    let n = c.args.n in
    let k = c.loop-cycle.cycle in
    let below : c.loop-cycle.cycle < cycle_count c.args.n = omega arith in
    record {
      program = c.step.ensures.program ∙ c.loop-cycle.invariant.program;
      sites = c.step.ensures.sites ∙ c.loop-cycle.invariant.sites;
      few = omega arith;
      refusals =
          count_step (program_of c.args.machine.now) n k (cycle_count n) c.loop-cycle.refusals c.refused_count-refusals.result
          _ (state_of c.loop-cycle.machine) (state_of c.step.new.self) below
          c.loop-cycle.invariant.refusals
          (count_here (program_of c.args.machine.now) (program_of c.loop-cycle.machine) (given n (k + 1) ∷ [])
          _ (state_of c.loop-cycle.machine) (refusals_of c.step.new.self) c.refused_count-refusals.result
          c.loop-cycle.invariant.program c.in_ok-inputs.ensures c.refused_count-refusals.ensures.count c.step.ensures.refusals)
          (store_here (program_of c.args.machine.now) (program_of c.loop-cycle.machine) (given n (k + 1) ∷ []) _ (state_of c.loop-cycle.machine) (state_of c.step.new.self)
          c.loop-cycle.invariant.program c.in_ok-inputs.ensures c.step.ensures.state);
      state =
          store_step (program_of c.args.machine.now) n k (cycle_count n) (state_of c.loop-cycle.machine) (state_of c.step.new.self) _ below c.loop-cycle.invariant.state
          (store_here (program_of c.args.machine.now) (program_of c.loop-cycle.machine) (given n (k + 1) ∷ []) _ (state_of c.loop-cycle.machine) (state_of c.step.new.self)
          c.loop-cycle.invariant.program c.in_ok-inputs.ensures c.step.ensures.state);
    }
