-- One numbering of check sites in every well-formed design.
use Rattle.sap_lemmas.proofs.Common.{◌≡◌, ℕ, suc, List, [], ◌∷◌, refl, ap, ◌∙◌, map}
use Rattle.sap_tree.specs.Syntax as tree
use Rattle.sap_lattice.specs.Levels.{Levels}
use Rattle.sap_shape.specs.Sites.{Surroundings, CheckSite, check_sites}
use Rattle.sap_check.specs.Sites.{kind_of_command, target_of, entity_number, site_of}
use Rattle.sap_meaning.specs.Prelude.{World, root, Step, assign, Home, PlacedStep}
use Rattle.sap_resolved.specs.Worlds.{world_of}
use Rattle.sap_resolved.specs.Resolve.{step_of, states_of}
use Rattle.sap_resolved.specs.Fill.{filled_step}
use Rattle.sap_resolved.proofs.premises.SitesPlaced.{placed}
use Rattle.sap_resolved.proofs.premises.SitesFilled.{group_sites_filled}
use Rattle.sap_resolved.proofs.premises.Programs.{sites_placed}
use Rattle.sap_secure.specs.CheckSites.ProgramSites.{ProgramSite, program_site}
use Rattle.sap_secure.specs.CheckSites.Numbering.{numbered, SitesAgree}

-- whatever hangs on it
site_filled : (w : World) (at : Home) (s : ℕ) (k : Step)
    → program_site (record { state = s; step = filled_step w at k }) ≡ program_site (record { state = s; step = k })
site_filled w at s (assign site x e) = refl
site_filled w at s _ = refl

-- the step of a command does what the command does
site_placed : (ls : Levels) (h : Surroundings) (k : ℕ) (c : tree.SimpleCommand)
    → program_site (record { state = entity_number h.entities h.home.name; step = step_of ls h k c })
    ≡ record { number = k; kind = kind_of_command c; entity = entity_number h.entities (target_of h c) }
site_placed ls h k (tree.assign target e) = refl
site_placed ls h k _ = refl

all_placed : (ls : Levels) (k : ℕ) (ss : List CheckSite) → map program_site (placed ls k ss) ≡ numbered k (map site_of ss)
all_placed ls k [] = refl
all_placed ls k (s ∷ ss) =
    ap (λ (t : ProgramSite). t ∷ map program_site (placed ls (suc k) ss)) (site_placed ls s.surroundings k s.command)
    ∙ ap (λ (ts : List ProgramSite). record { number = k; kind = (site_of s).kind; entity = (site_of s).entity } ∷ ts) (all_placed ls (suc k) ss)

pub sites_agree_law : SitesAgree
sites_agree_law ls d formed =
    let w : World = world_of ls d in
    group_sites_filled w ProgramSite program_site (λ at s k. site_filled w at s k) (root w) (states_of ls d)
    ∙ ap (λ (ks : List PlacedStep). map program_site ks) (sites_placed ls d formed)
    ∙ all_placed ls 1 (check_sites d)
