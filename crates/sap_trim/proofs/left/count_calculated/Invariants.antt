use Rattle.std.proofs.Common.{◌≡◌, ◌≤◌, take, length}
use Rattle.sap_trim.specs.Few.{calculated}
use Rattle.sap_trim.specs.Needed.{marked}
use Rattle.sap_trim.proofs.left.count_calculated.Given as goal

abbrev pub invariant-loop-k : goal.invariant-loop-k
invariant-loop-k l = record {
  same : l.count ≡ length (calculated (marked l.kept (take l.k l.wires)));
  most : l.count ≤ l.k;
}
