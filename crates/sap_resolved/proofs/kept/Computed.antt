-- What hangs on the commands of the small designs, by computation.
use Rattle.std.proofs.Common.{refl}
use Rattle.sap_lattice.specs.Levels.{order_of, order_by}
use Rattle.sap_resolved.specs.Kept.Examples.{OnBranches, OnFalls, OnDynamicStates}

pub on_branches : OnBranches
unfolding order_of order_by
on_branches = refl

pub on_falls : OnFalls
unfolding order_of order_by
on_falls = (refl, refl)

pub on_dynamic_states : OnDynamicStates
unfolding order_of order_by
on_dynamic_states = refl
