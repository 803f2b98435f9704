use Rattle.std.proofs.Common.{◌≡◌, ℕ, ◌-◌, ◌<◌, ◌≤◌, [], get_or, drop}
use Rattle.sap_lattice.specs.Levels.{order_of}
use Rattle.sap_meaning.specs.Agree.{InputsAgree}
use Rattle.sap_stream.specs.Ahead.{cycles_ahead}
use Rattle.sap_stream.proofs.apart.first_cycle_apart.Given as goal

abbrev pub invariant-loop-cycle : goal.invariant-loop-cycle
invariant-loop-cycle l = record {
  within : l.cycle ≤ l.cycles;
  first_ahead : cycles_ahead l.one ≡ drop l.cycle l.first;
  second_ahead : cycles_ahead l.other ≡ drop l.cycle l.second;
  before : (k : ℕ) → k < l.cycle → InputsAgree (order_of l.lattice) l.level (get_or l.first k []) (get_or l.second k []);
}

abbrev pub decreases-loop-cycle : goal.decreases-loop-cycle
decreases-loop-cycle l = l.cycles - l.cycle
