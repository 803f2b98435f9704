-- A cycle comes to each check site at most once.
use Rattle.std.specs.Prelude.{◌≤◌, ℕ, List, [], ◌∷◌, ◌++◌, nat_eq, count_by, if◌then◌else◌}
use Rattle.sap_tree.specs.Syntax.{DesignTree}
use Rattle.sap_lattice.specs.Order.{Laws}
use Rattle.sap_lattice.specs.Levels.{Levels, order_of}
use Rattle.sap_shape.specs.WellFormed.{WellFormed}
use Rattle.sap_meaning.specs.Program.{Step}
use Rattle.sap_meaning.specs.Store.{Store}
use Rattle.sap_meaning.specs.Checks.{site_of}
use Rattle.sap_meaning.specs.Cycle.{Tagged, cycle}
use Rattle.sap_meaning.specs.Sites.{program_sites, refused_sites, Sublist}
use Rattle.sap_resolved.specs.Fill.{program_of}
use Rattle.sap_secure.specs.Once.Steps.{cycle_steps}

-- The number of the site that a step is, as a list, which is empty if the step is none.
abbrev pub own_site : Step → List ℕ
own_site k = if nat_eq (site_of k) 0 then [] else site_of k ∷ []

-- The sites among some steps.
abbrev pub sites_met : List Step → List ℕ
sites_met [] = []
sites_met (k ∷ ks) = own_site k ++ sites_met ks

-- How many of the steps are those of the site k, refused or not.
abbrev pub comes_to : (k : ℕ) → List Step → ℕ
comes_to k steps = count_by (λ s. nat_eq (site_of s) k) steps

-- In a well-formed design a cycle comes to check sites of the program in the order of the text.
abbrev pub SitesInTurn : Type 0
SitesInTurn = (ls : Levels) (d : DesignTree) → Laws (order_of ls) → WellFormed ls d → (inputs : List Tagged) (s : Store)
    → Sublist (sites_met (cycle_steps (program_of ls d) inputs s)) (program_sites (program_of ls d))

-- In a well-formed design a cycle comes to each check site at most once.
abbrev pub EachSiteOnce : Type 0
EachSiteOnce = (ls : Levels) (d : DesignTree) → Laws (order_of ls) → WellFormed ls d
    → (inputs : List Tagged) (s : Store)
    → (k : ℕ) → 1 ≤ k → comes_to k (cycle_steps (program_of ls d) inputs s) ≤ 1

-- The sites that a cycle refuses are among the sites to which it comes, in the same order.
abbrev pub RefusedMet : Type 0
RefusedMet = (ls : Levels) (d : DesignTree) → Laws (order_of ls) → WellFormed ls d → (inputs : List Tagged) (s : Store)
    → Sublist (refused_sites (cycle (program_of ls d) inputs s).refused)
    (sites_met (cycle_steps (program_of ls d) inputs s))
