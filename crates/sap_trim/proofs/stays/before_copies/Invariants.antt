use Rattle.std.proofs.Common.{◌≤◌, length}
use Rattle.sap_trim.proofs.stays.before_copies.Given as goal

abbrev pub invariant-loop-rest : goal.invariant-loop-rest
invariant-loop-rest l = l.rest ≤ length l.wires

abbrev pub decreases-loop-rest : goal.decreases-loop-rest
decreases-loop-rest l = l.rest
