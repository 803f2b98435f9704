use Rattle.std.proofs.Common.{◌≤◌}
use Rattle.sap_fold.specs.Parts.{Between}
use Rattle.sap_fold.proofs.parts.bits_between.Given as goal

abbrev pub invariant-loop-place : goal.invariant-loop-place
invariant-loop-place l = record {
  within : l.place ≤ l.width;
  between : Between l.condition l.place l.width l.a l.b l.parts.items;
}

abbrev pub decreases-loop-place : goal.decreases-loop-place
decreases-loop-place l = l.place
