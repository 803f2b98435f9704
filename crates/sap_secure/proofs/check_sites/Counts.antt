-- What follows from one numbering: the numbers of a program's check sites, and how many there are.
use Rattle.sap_lemmas.proofs.Common.{◌≡◌, ℕ, suc, List, [], ◌∷◌, length, refl, sym, ap, ◌∙◌, map, length-map}
use Rattle.sap_tree.specs.Syntax.{DesignTree}
use Rattle.sap_lattice.specs.Levels.{Levels}
use Rattle.sap_shape.specs.Sites.{check_sites}
use Rattle.sap_check.specs.declared.site.Site.{Site}
use Rattle.sap_check.specs.Sites.{site_of, sites_of}
use Rattle.sap_meaning.specs.Sites.{PlacedStep, placed_sites, site_numbers, program_sites, numbers_from}
use Rattle.sap_resolved.specs.Fill.{program_of}
use Rattle.sap_secure.specs.CheckSites.ProgramSites.{ProgramSite, program_site}
use Rattle.sap_secure.specs.CheckSites.Numbering.{numbered, OneNumbering}

abbrev numbers_of : List ProgramSite → List ℕ
numbers_of ts = map (λ (t : ProgramSite). t.number) ts

numbers_placed : (ks : List PlacedStep) → site_numbers ks ≡ numbers_of (map program_site ks)
numbers_placed [] = refl
numbers_placed (k ∷ ks) = ap (λ (ns : List ℕ). (program_site k).number ∷ ns) (numbers_placed ks)

numbers_numbered : (k : ℕ) (ss : List Site) → numbers_of (numbered k ss) ≡ numbers_from k (length ss)
numbers_numbered k [] = refl
numbers_numbered k (s ∷ ss) = ap (λ (ns : List ℕ). k ∷ ns) (numbers_numbered (suc k) ss)

-- 1, 2, .. up to the count of the design's sites
pub numbers_are : (ls : Levels) (d : DesignTree) → OneNumbering ls d → program_sites (program_of ls d) ≡ numbers_from 1 (length (sites_of d))
numbers_are ls d one =
    numbers_placed (placed_sites (program_of ls d)) ∙ ap (λ (ts : List ProgramSite). numbers_of ts) one ∙ numbers_numbered 1 (sites_of d)

-- there are as many as the walk finds
pub count_is : (d : DesignTree) → length (check_sites d) ≡ length (sites_of d)
count_is d = sym (length-map (check_sites d) site_of)
