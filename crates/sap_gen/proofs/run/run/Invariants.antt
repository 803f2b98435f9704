use Rattle.std.proofs.Common.{◌≡◌, ◌≤◌, ◌+◌, ◌-◌, ◌*◌, ◌^◌}
use Rattle.sap_meaning.specs.Cycle.{run_from}
use Rattle.sap_sem.specs.Machine.{program_of, site_count_of, state_of}
use Rattle.sap_gen.specs.Running.{last_store}
use Rattle.sap_gen.specs.Stream.{cycle_count, generated_stream}
use Rattle.sap_gen.specs.Text.{refusal_count}
use Rattle.sap_gen.proofs.Cycles.{stream_behind}
use Rattle.sap_gen.proofs.run.run.Given as goal

abbrev pub invariant-loop-cycle : goal.invariant-loop-cycle
invariant-loop-cycle l = record {
  program : program_of l.machine ≡ program_of l.initial.machine;
  sites : site_count_of l.machine ≡ site_count_of l.initial.machine;
  few : l.refusals ≤ l.cycle * 2 ^ 32;
  refusals : l.refusals + refusal_count (run_from (program_of l.initial.machine) (state_of l.machine) (stream_behind l.n l.cycle (cycle_count l.n - l.cycle)))
      ≡ refusal_count (run_from (program_of l.initial.machine) (state_of l.initial.machine) (generated_stream l.n));
  state : last_store (state_of l.machine) (run_from (program_of l.initial.machine) (state_of l.machine) (stream_behind l.n l.cycle (cycle_count l.n - l.cycle)))
      ≡ last_store (state_of l.initial.machine) (run_from (program_of l.initial.machine) (state_of l.initial.machine) (generated_stream l.n));
}
