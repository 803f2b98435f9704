-- On what stands in WellFormed: what several crates cite.
use Rattle.std.proofs.Common.{List, inl, inr, subst}
use Rattle.sap_lattice.specs.Levels.{Levels}
use Rattle.sap_names.specs.Fault.{StandsIn}
use Rattle.sap_names.specs.declared.fault.Fault.{Fault}
use Rattle.sap_shape.specs.WellFormed.{IsFirstFault, WellFormed}
use Rattle.sap_tree.specs.Syntax.{DesignTree}

pub no_first_fault : (ls : Levels) (d : DesignTree) (f : Fault) → WellFormed ls d → IsFirstFault ls d f → ⊥
no_first_fault ls d f w (inl h) = subst (λ (fs : List Fault). StandsIn f fs) w.names h.0
no_first_fault ls d f w (inr h) = w.shape f h.1.0
