use Rattle.std.proofs.Common.{drop}
use Rattle.sap_sim.specs.Prelude.{register_widths, Finds}
use Rattle.sap_sim.proofs.lookup.register_widths.Given as goal

abbrev pub invariant-loop-k : goal.invariant-loop-k
invariant-loop-k l = Finds l.widths (register_widths (drop l.k l.registers))
