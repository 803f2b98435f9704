-- The check sites of the program of a small design, worked out.
use Rattle.std.specs.Prelude.{◌≡◌, [], ◌∷◌}
use Rattle.sap_check.specs.declared.site.SiteKind.TheVariants as kind
use Rattle.sap_check.specs.Examples.{nested}
use Rattle.sap_lattice.specs.Examples.{low_high}
use Rattle.sap_resolved.specs.Fill.{program_of}
use Rattle.sap_secure.specs.CheckSites.ProgramSites.{sites_in}

-- In `state P enforced low { fall otherwise { goto P; } state S enforced low { goto S; } }` a `fall` is a site of its
-- own state.
abbrev pub NestedSites : Type 0
NestedSites = sites_in (program_of low_high nested)
    ≡ record { number = 1; kind = kind.Fall; entity = 0 }
    ∷ record { number = 2; kind = kind.Goto; entity = 0 }
    ∷ record { number = 3; kind = kind.Goto; entity = 1 }
    ∷ []
