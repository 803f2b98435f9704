use Rattle.std.proofs.Common.{◌≡◌, take, drop, map}
use Rattle.sap_cycle.specs.Steps.{slot_value, AreIn}
use Rattle.sap_cycle.proofs.steps.read_all.Given as goal

abbrev pub invariant-loop-i : goal.invariant-loop-i
invariant-loop-i l = (take l.i l.out ≡ map (slot_value l.values) (take l.i l.slots)) × AreIn l.values (drop l.i l.slots)
