use Rattle.std.proofs.Common.{◌≤◌, ◌<◌, drop, length}
use Rattle.sap_fold.specs.Slices.{HaveWidth}
use Rattle.sap_fold.proofs.slices.find_part.Given as goal

abbrev pub invariant-loop-part : goal.invariant-loop-part
invariant-loop-part l = record {
  within : l.part ≤ length l.operands;
  small : l.behind < 64;
  behind : HaveWidth l.wires.list.items (drop l.part l.operands) l.behind;
}

abbrev pub decreases-loop-part : goal.decreases-loop-part
decreases-loop-part l = l.part
