use Rattle.std.proofs.Common.{drop}
use Rattle.sap_tree.specs.Touches.{is_dynamic_store}
use Rattle.sap_hang.specs.Walks.{Stands}
use Rattle.sap_hang.proofs.hang.stores.Given as goal

-- those of the declarations from the place on
abbrev pub invariant-loop-at : goal.invariant-loop-at
invariant-loop-at l = Stands l.names (λ x. is_dynamic_store (drop l.at l.declarations) x) l.stores
