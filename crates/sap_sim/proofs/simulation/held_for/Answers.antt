use Rattle.std.proofs.Common.{List, sym, subst}
use Rattle.sap_maps.specs.Maps.{Name}
use Rattle.sap_stim.specs.Rows.{HoldsRows}
use Rattle.sap_sim.proofs.simulation.held_for.Goals as goal

pub returns-clause-holds : goal.returns-clause-holds
returns-clause-holds c = subst (λ (names : List Name). HoldsRows c.args.lattice.now names c.in-Some.room) c.deref.ensures.value c.in-Some.ensures.holds

pub returns-clause-least : goal.returns-clause-least
returns-clause-least c = λ other holds.
    c.in-Some.ensures.least other (subst (λ (names : List Name). HoldsRows c.args.lattice.now names other) (sym c.deref.ensures.value) holds)
