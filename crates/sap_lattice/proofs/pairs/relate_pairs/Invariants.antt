use Rattle.sap_lattice.specs.Related.{TellsPairs}
use Rattle.sap_lattice.proofs.pairs.relate_pairs.Given as goal

abbrev pub invariant-loop-k : goal.invariant-loop-k
invariant-loop-k l = TellsPairs l.names l.pairs l.k l.order
