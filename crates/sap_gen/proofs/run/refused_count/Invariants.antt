use Rattle.std.proofs.Common.{◌≡◌, ◌≤◌, length}
use Rattle.sap_sem.specs.Machine.{refused_at, refusals_from}
use Rattle.sap_gen.proofs.run.refused_count.Given as goal

abbrev pub invariant-loop-site : goal.invariant-loop-site
invariant-loop-site l = record {
  count : l.count ≡ length (refusals_from (refused_at l.machine) 1 l.site);
  few : l.count ≤ l.site;
}
