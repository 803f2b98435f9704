use Rattle.sap_wiring.specs.Wiring.{seen}
use Rattle.sap_wiring.proofs.Answered.{Tested}
use Rattle.sap_wiring.proofs.wiring.wires_of.Given as goal

abbrev pub invariant-loop-k : goal.invariant-loop-k
invariant-loop-k l = Tested (seen l.around) l.texts l.k l.wires.items l.fed.keys
