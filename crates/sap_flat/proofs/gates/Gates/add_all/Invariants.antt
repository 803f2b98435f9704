use Rattle.std.proofs.Common.{◌≡◌, ◌+◌}
use Rattle.sap_flat.proofs.gates.Gates.add_all.Given as goal

abbrev pub invariant-loop : goal.invariant-loop
invariant-loop l = l.self ≡ l.initial.self + l.counter
