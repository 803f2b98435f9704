use Rattle.std.proofs.Common.{◌<◌, ℕ, length}
use Rattle.sap_lattice.specs.Pairs.{IsBroken}
use Rattle.sap_lattice.specs.Rows.{order_in}
use Rattle.sap_lattice.proofs.order.first_broken.Given as goal

abbrev pub invariant-loop-y : goal.invariant-loop-y
invariant-loop-y l = record {
  before : (u v : ℕ) → u < l.x → IsBroken (length l.order) (order_in l.order).le l.rule u v → ⊥;
  here : (v : ℕ) → v < l.y → IsBroken (length l.order) (order_in l.order).le l.rule l.x v → ⊥;
}

abbrev pub invariant-loop-x : goal.invariant-loop-x
invariant-loop-x l = (u v : ℕ) → u < l.x → IsBroken (length l.order) (order_in l.order).le l.rule u v → ⊥
