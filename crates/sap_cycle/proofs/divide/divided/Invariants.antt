use Rattle.sap_cycle.proofs.Divided.{Divided}
use Rattle.sap_cycle.proofs.divide.divided.Given as goal

abbrev pub invariant-loop-end : goal.invariant-loop-end
invariant-loop-end l = Divided l.steps l.start l.runs.items
