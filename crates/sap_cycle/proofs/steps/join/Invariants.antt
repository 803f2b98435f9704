use Rattle.std.proofs.Common.{◌≡◌, drop}
use Rattle.sap_cycle.specs.Steps.{joined_from, ArePartsReady}
use Rattle.sap_cycle.proofs.steps.join.Given as goal

abbrev pub invariant-loop-part : goal.invariant-loop-part
invariant-loop-part l =
    (joined_from l.values l.all (drop l.part-index l.parts) ≡ joined_from l.values 0 l.parts) × ArePartsReady l.values l.all (drop l.part-index l.parts)
