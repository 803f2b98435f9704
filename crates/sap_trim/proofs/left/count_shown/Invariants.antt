use Rattle.std.proofs.Common.{◌≡◌, ◌≤◌, take, filter, length}
use Rattle.sap_share.specs.Sets.{holds}
use Rattle.sap_trim.proofs.left.count_shown.Given as goal

abbrev pub invariant-loop-wire : goal.invariant-loop-wire
invariant-loop-wire l = record {
  same : l.count ≡ length (filter (λ w. holds l.shown w.name) (take l.wire-index l.wires));
  most : l.count ≤ l.wire-index;
}
