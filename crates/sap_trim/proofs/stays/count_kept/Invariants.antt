use Rattle.std.proofs.Common.{◌≤◌}
use Rattle.sap_trim.proofs.stays.count_kept.Given as goal

abbrev pub invariant-loop-register : goal.invariant-loop-register
invariant-loop-register l = l.count ≤ l.register-index
