use Rattle.std.proofs.Common.{◌≡◌, ◌*◌, length}
use Rattle.sap_trace.proofs.tracing.zeros.Given as goal

-- two for each field so far
abbrev pub invariant-loop : goal.invariant-loop
invariant-loop l = length l.zeros.items ≡ 2 * l.index
