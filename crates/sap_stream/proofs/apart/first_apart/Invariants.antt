use Rattle.std.proofs.Common.{ℕ, ◌<◌}
use Rattle.sap_lattice.specs.Levels.{order_of}
use Rattle.sap_stream.specs.Apart.{AreAlike, input_at}
use Rattle.sap_stream.proofs.apart.first_apart.Given as goal

abbrev pub invariant-loop-i : goal.invariant-loop-i
invariant-loop-i l = (k : ℕ) → k < l.i → AreAlike (order_of l.lattice) l.level (input_at l.first k) (input_at l.second k)
