-- Designs that are the same, places aside, are well formed together.
use Rattle.std.proofs.Common.{◌≡◌, inl, inr, [], subst}
use Rattle.sap_lattice.specs.Levels.{Levels, order_of}
use Rattle.sap_tree.specs.Syntax.{DesignTree}
use Rattle.sap_tree.specs.Bare.{bare}
use Rattle.sap_names.specs.Entities.{entities_of}
use Rattle.sap_names.specs.Fault.{StandsIn}
use Rattle.sap_shape.specs.ShapeFaults.{states_shape, HasShape}
use Rattle.sap_shape.specs.Walk.{fresh, second_states}
use Rattle.sap_shape.specs.WellFormed.{WellFormed}
use Rattle.sap_shape.proofs.Again.{states_faultless, paths_faultless, none_again}
use Rattle.sap_layout.specs.Layout.{FormedAlike}
use Rattle.sap_layout.proofs.Asides.{bare_none, none_bare}
use Rattle.sap_layout.proofs.NameFaults.{design_aside}
use Rattle.sap_layout.proofs.ShapeFaults.{shape_aside}
use Rattle.sap_layout.proofs.Paths.{again_aside}

shaped : (d : DesignTree) → states_shape (entities_of d) d.states [] d.states ≡ [] → second_states d.states fresh ≡ [] → HasShape d
shaped d none again f (inl h) = subst (λ fs. StandsIn f fs) none h
shaped d none again f (inr h) = none_again d again f h

bare_formed : (ls : Levels) (d : DesignTree) → WellFormed ls d → WellFormed ls (bare d)
bare_formed ls d w = record {
  names = bare_none (design_aside ls.names (order_of ls).le d) w.names;
  shape = shaped (bare d) (bare_none (shape_aside d) (states_faultless d w.shape)) (bare_none (again_aside d) (paths_faultless d w.shape));
}

formed_bare : (ls : Levels) (d : DesignTree) → WellFormed ls (bare d) → WellFormed ls d
formed_bare ls d w = record {
  names = none_bare (design_aside ls.names (order_of ls).le d) w.names;
  shape = shaped d (none_bare (shape_aside d) (states_faultless (bare d) w.shape)) (none_bare (again_aside d) (paths_faultless (bare d) w.shape));
}

pub formed_alike : FormedAlike
formed_alike ls one other e w = formed_bare ls other (subst (λ d. WellFormed ls d) e (bare_formed ls one w))
