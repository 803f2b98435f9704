-- The laws: the program of a design without faults of names and widths.
use Rattle.std.proofs.Common.{◌≡◌, ℕ, [], length, Bool}
use Rattle.sap_tree.specs.Syntax.{DesignTree}
use Rattle.sap_lattice.proofs.KeptLemmas.{order_of-count}
use Rattle.sap_lattice.specs.Prelude.{Laws, Levels, order_of}
use Rattle.sap_names.specs.Prelude.{what_is, entities_of, declarations_faults, states_faults, design_name_faults}
use Rattle.sap_meaning.specs.Prelude.{root, SizedGroup, SizedProgram}
use Rattle.sap_resolved.specs.Worlds.{world_of}
use Rattle.sap_resolved.specs.Resolve.{states_of}
use Rattle.sap_resolved.specs.Fill.{program_of}
use Rattle.sap_resolved.specs.WellNamed.{WellNamedGroup}
use Rattle.sap_resolved.specs.Sized.Sound.{NamesFit, SizesFit}
use Rattle.sap_resolved.proofs.sized.Faultless.{none_three}
use Rattle.sap_resolved.proofs.sized.Declared.{resolved}
use Rattle.sap_resolved.proofs.sized.Tags.{Ready}
use Rattle.sap_resolved.proofs.sized.Commands.{group_fits}
use Rattle.sap_resolved.proofs.sized.Filled.{group_named, group_sized}
use Rattle.sap_resolved.proofs.sized.Starts.{design_starts}

-- no fault in the declarations, and none in the states
pub faultless : (ls : Levels) (le : ℕ → ℕ → Bool) (d : DesignTree) → design_name_faults ls.names le d ≡ []
    → (declarations_faults ls.names le d.declarations ≡ []) × (states_faults ls.names le (what_is (entities_of d)) d.states ≡ [])
faultless ls le d h =
    let n = none_three _ _ _ h in
    (n.1, n.2)

module _ (ls : Levels) (d : DesignTree) (laws : Laws (order_of ls)) (h : design_name_faults ls.names (order_of ls).le d ≡ []) where
  abbrev le : ℕ → ℕ → Bool
  le = (order_of ls).le

  pub ready : Ready ls (entities_of d) (world_of ls d)
  ready = record { names = resolved ls le d (faultless ls le d h).0; count = order_of-count ls; bottom = laws.bottom_is_level }

  -- before what hangs is filled in
  pub states_fit : WellNamedGroup (world_of ls d) (states_of ls d) × SizedGroup (world_of ls d) (states_of ls d)
  states_fit = group_fits ls le (entities_of d) (world_of ls d) ready 1 (length d.declarations) d.states (faultless ls le d h).1

  pub named : WellNamedGroup (program_of ls d).world (program_of ls d).states
  named = group_named (world_of ls d) (root (world_of ls d)) (states_of ls d) states_fit.0

  pub sized : SizedProgram (program_of ls d)
  sized =
      let start = design_starts ls laws le (what_is (entities_of d)) d (faultless ls le d h).0 (faultless ls le d h).1 in
      record {
        states = group_sized (world_of ls d) (root (world_of ls d)) (states_of ls d) states_fit.1;
        initials = λ x. (start x).0;
        declared = λ x. (start x).1;
      }

pub names_fit_law : NamesFit
names_fit_law ls d laws h = named ls d laws h

pub sizes_fit_law : SizesFit
sizes_fit_law ls d laws h = sized ls d laws h
