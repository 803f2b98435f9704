use Rattle.std.proofs.Common.{◌≡◌, drop}
use Rattle.sap_tree.specs.Trees.{states_of}
use Rattle.sap_shape.specs.ShapeFaults.{is_in_group}
use Rattle.sap_shape.proofs.position.+is_in_group.Given as goal

abbrev pub invariant-loop-state : goal.invariant-loop-state
invariant-loop-state l = is_in_group (states_of (drop l.state-index l.states)) l.name ≡ is_in_group (states_of l.states) l.name
