use Rattle.std.proofs.Common.{drop}
use Rattle.sap_sim.specs.Prelude.{input_widths, Finds}
use Rattle.sap_sim.proofs.lookup.input_widths.Given as goal

abbrev pub invariant-loop-k : goal.invariant-loop-k
invariant-loop-k l = Finds l.widths (input_widths (drop l.k l.inputs))
