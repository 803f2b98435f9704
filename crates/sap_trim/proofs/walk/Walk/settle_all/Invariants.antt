use Rattle.std.proofs.Common.{take}
use Rattle.sap_share.specs.Sets.{holds}
use Rattle.sap_trim.specs.Walked.{Settles, Walked, state_of}
use Rattle.sap_fold.specs.Settled.{Orderly}
use Rattle.sap_trim.proofs.walk.Walk.settle_all.Given as goal

abbrev pub invariant-loop-wire : goal.invariant-loop-wire
invariant-loop-wire l = record {
  orderly : Orderly l.self.wires.numbers l.self.wires.list.items;
  walked : Walked (Settles (holds l.taken)) (state_of l.fn.self) (take l.wire-index l.wires) (state_of l.self);
}
