use Rattle.std.proofs.Common.{take}
use Rattle.sap_share.specs.Sets.{holds}
use Rattle.sap_trim.specs.Walked.{Folds, Walked, state_of}
use Rattle.sap_fold.specs.Settled.{Orderly}
use Rattle.sap_trim.proofs.walk.Walk.fold_all.Given as goal

abbrev pub invariant-loop-wire : goal.invariant-loop-wire
invariant-loop-wire l = record {
  orderly : Orderly l.self.wires.numbers l.self.wires.list.items;
  walked : Walked (Folds (holds l.taken)) (state_of l.fn.self) (take l.wire-index l.wires) (state_of l.self);
}
