use Rattle.std.proofs.Common.{take}
use Rattle.sap_share.specs.Sets.{holds}
use Rattle.sap_fold.specs.Settled.{Orderly}
use Rattle.sap_trim.specs.Needed.{marked}
use Rattle.sap_trim.specs.Walked.{Settles, Walked, state_of}
use Rattle.sap_trim.proofs.walk.Walk.settle_kept.Given as goal

abbrev pub invariant-loop-k : goal.invariant-loop-k
invariant-loop-k l = record {
  orderly : Orderly l.self.wires.numbers l.self.wires.list.items;
  walked : Walked (Settles (holds l.taken)) (state_of l.fn.self) (marked l.kept (take l.k l.wires)) (state_of l.self);
}
