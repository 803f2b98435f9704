use Rattle.std.proofs.Common.{take}
use Rattle.sap_cycle.specs.Order.{IsMarked, PartsAmong}
use Rattle.sap_cycle.proofs.order.parts_found.Given as goal

abbrev pub invariant-loop-part : goal.invariant-loop-part
invariant-loop-part l = PartsAmong (IsMarked l.marks) (take l.part-index l.parts)
