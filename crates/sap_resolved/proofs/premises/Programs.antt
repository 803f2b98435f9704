-- The program of a well-formed design.
use Rattle.std.proofs.Common.{◌≡◌, ℕ, List, [], length, sym, ap, ◌∙◌, subst}
use Rattle.sap_names.proofs.FaultLemmas.{nil_left, nil_right}
use Rattle.sap_tree.specs.Syntax.{DesignTree}
use Rattle.sap_lattice.specs.Levels.{Levels, order_of}
use Rattle.sap_names.specs.Prelude.{entities_of, what_is, twice, declarations_faults, states_faults}
use Rattle.sap_names.specs.declared.entity.Entity.{Entity}
use Rattle.sap_shape.specs.Sites.{check_sites}
use Rattle.sap_shape.specs.Walk.{fresh, second_states}
use Rattle.sap_shape.specs.ShapeFaults.{states_shape}
use Rattle.sap_shape.specs.WellFormed.{WellFormed}
use Rattle.sap_shape.proofs.Again.{states_faultless, paths_faultless}
use Rattle.sap_meaning.specs.Prelude.{World, Group, root, FineGroup, OnceGroup, PlacedStep, group_sites, site_numbers, program_sites, numbers_from, RisesFrom}
use Rattle.sap_meaning.proofs.SitesLemmas.{numbers_rise}
use Rattle.sap_resolved.specs.Worlds.{world_of}
use Rattle.sap_resolved.specs.Resolve.{states_of}
use Rattle.sap_resolved.specs.Fill.{program_of}
use Rattle.sap_resolved.proofs.Lookup.{entities_match}
use Rattle.sap_resolved.specs.Sized.Sound.{NamesFit}
use Rattle.sap_resolved.specs.Premises.Premises.{ProgramsAreFine, SitesRise}
use Rattle.sap_resolved.proofs.premises.Filling.{named_group_unfilled, fine_group_filled, once_group_filled, size_filled}
use Rattle.sap_resolved.proofs.premises.Lookups.{unique}
use Rattle.sap_resolved.proofs.premises.Numbers.{size_of, among_of}
use Rattle.sap_resolved.proofs.premises.Groups.{fine_group}
use Rattle.sap_resolved.proofs.premises.Once.{once_group}
use Rattle.sap_resolved.proofs.premises.Worlds.{laid, root_children, sound}
use Rattle.sap_resolved.proofs.premises.SitesPlaced.{placed, placed_numbers, group_placed}
use Rattle.sap_resolved.proofs.premises.SitesFilled.{numbers_filled}

module _ (ls : Levels) (d : DesignTree) (formed : WellFormed ls d) where
  no_name_twice : twice [] (entities_of d) ≡ []
  no_name_twice = nil_left _ _
      (nil_left _ _ formed.names)

  declarations_fit : declarations_faults ls.names (order_of ls).le d.declarations ≡ []
  declarations_fit = nil_right _ _
      (nil_left _ _ formed.names)

  states_fit : states_faults ls.names (order_of ls).le (what_is (entities_of d)) d.states ≡ []
  states_fit = nil_right _ _ formed.names

  states_shaped : states_shape (entities_of d) d.states [] d.states ≡ []
  states_shaped = states_faultless d formed.shape

  written_once : second_states d.states fresh ≡ []
  written_once = paths_faultless d formed.shape

pub fine_law : NamesFit → ProgramsAreFine
fine_law names ls d laws formed =
    let es : List Entity = entities_of d in
    let w : World = world_of ls d in
    let g : Group = states_of ls d in
    let numbered = unique es (no_name_twice ls d formed) in
    let fine : FineGroup w g 0 g =
    fine_group ls ls.names (order_of ls).le es w (entities_match ls d) numbered 1 0 (length d.declarations) g d.states [] d.states (laid ls d)
    (among_of ls es w numbered 1 0 (length d.declarations) d.states (laid ls d)) (states_fit ls d formed) (states_shaped ls d formed)
    (named_group_unfilled w (root w) g (names ls d laws formed.names)) in
    let once : OnceGroup g =
    once_group ls ls.names (order_of ls).le es w (entities_match ls d) 1 (length d.declarations) d.states [] d.states (states_fit ls d formed)
    (states_shaped ls d formed) fresh (written_once ls d formed) in
    record {
      order = laws;
      states = fine_group_filled w (root w) g 0 g fine;
      once = once_group_filled w (root w) g once;
      count = root_children ls d ∙ sym (size_of ls es 1 (length d.declarations) d.states) ∙ sym (size_filled w (root w) g);
      inputs = λ x i. (sound ls laws d (declarations_fit ls d formed) (states_fit ls d formed) x).input i;
      above = λ x i. (sound ls laws d (declarations_fit ls d formed) (states_fit ls d formed) x).above i;
    }

-- before what hangs is filled in
pub sites_placed : (ls : Levels) (d : DesignTree) → WellFormed ls d → group_sites (world_of ls d) (states_of ls d) ≡ placed ls 1 (check_sites d)
sites_placed ls d formed =
    group_placed ls ls.names (order_of ls).le (entities_of d) (world_of ls d) (entities_match ls d) (unique (entities_of d) (no_name_twice ls d formed))
    1 0 (length d.declarations) d.states (laid ls d) (states_fit ls d formed)

pub sites_numbered : (ls : Levels) (d : DesignTree) → WellFormed ls d → program_sites (program_of ls d) ≡ numbers_from 1 (length (check_sites d))
sites_numbered ls d formed =
    numbers_filled (world_of ls d) (root (world_of ls d)) (states_of ls d)
    ∙ ap (λ (ks : List PlacedStep). site_numbers ks) (sites_placed ls d formed)
    ∙ placed_numbers ls 1 (check_sites d)

pub sites_law : SitesRise
sites_law ls d formed = subst (λ (u : List ℕ). RisesFrom 1 u) (sym (sites_numbered ls d formed)) (numbers_rise 1 (length (check_sites d)))
