use Rattle.std.proofs.Common.{◌≡◌, ◌+◌, ◌++◌, drop}
use Rattle.sap_cycle.specs.Order.{in_row}
use Rattle.sap_cycle.proofs.order.in_own_order.Given as goal

abbrev pub invariant-loop-i : goal.invariant-loop-i
invariant-loop-i l = l.placed.items ++ in_row (l.base + l.i) (drop l.i l.steps) ≡ in_row l.base l.steps
