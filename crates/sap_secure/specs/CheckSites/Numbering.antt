-- The check sites of a design and those of its program are one list. One walk over the tree finds them (`sap_shape`,
-- `Sites`): the check tells of its list (`sap_check`, `Sites`), and the program's commands are numbered by its length
-- (`sap_resolved`, `Resolve`). That the commands so numbered are the sites that the program itself has, found by
-- walking it, is stated here.
use Rattle.std.specs.Prelude.{◌≡◌, ℕ, suc, List, [], ◌∷◌}
use Rattle.sap_tree.specs.Syntax.{DesignTree}
use Rattle.sap_lattice.specs.Levels.{Levels}
use Rattle.sap_shape.specs.WellFormed.{WellFormed}
use Rattle.sap_check.specs.declared.site.Site.{Site}
use Rattle.sap_check.specs.Sites.{sites_of}
use Rattle.sap_resolved.specs.Fill.{program_of}
use Rattle.sap_secure.specs.CheckSites.ProgramSites.{ProgramSite, sites_in}

-- These sites of a design as those of a program, the first with the number k.
abbrev pub numbered : (k : ℕ) → List Site → List ProgramSite
numbered k [] = []
numbered k (s ∷ ss) = record { number = k; kind = s.kind; entity = s.entity } ∷ numbered (suc k) ss

-- Site k of the program is that of the design, in what it does and in its entity.
abbrev pub OneNumbering : Levels → DesignTree → Type 0
OneNumbering ls d = sites_in (program_of ls d) ≡ numbered 1 (sites_of d)

-- In each well-formed design the check sites of the report are the sites of the program, with the same numbers.
abbrev pub SitesAgree : Type 0
SitesAgree = (ls : Levels) (d : DesignTree) → WellFormed ls d → OneNumbering ls d
