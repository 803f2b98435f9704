-- The check sites of a program, in the order of the text: what each does, and to which entity. The labelled meaning
-- finds them.
use Rattle.std.specs.Prelude.{ℕ, List, map}
use Rattle.sap_check.specs.declared.site.SiteKind.{SiteKind}
use Rattle.sap_check.specs.declared.site.SiteKind.TheVariants as kind
use Rattle.sap_meaning.specs.Program.{Program, Step, assign, write, retag, retag_cell, go_to, fall_to_child}
use Rattle.sap_meaning.specs.Checks.{site_of}
use Rattle.sap_meaning.specs.Sites.{PlacedStep, placed_sites}

-- A site of a program: its number, what kind of step it is, and the entity that it names, for a `fall` the state in
-- whose body it is.
pub record ProgramSite : Type 0 where
  pub number : ℕ
  pub kind : SiteKind
  pub entity : ℕ

-- The kind of the site at which a step stands.
abbrev pub kind_of_step : Step → SiteKind
kind_of_step (assign site x e) = kind.Write
kind_of_step (write site m i e) = kind.Write
kind_of_step (retag site x n) = kind.SetTag
kind_of_step (retag_cell site m j n) = kind.SetTag
kind_of_step (go_to site target) = kind.Goto
kind_of_step (fall_to_child site hang) = kind.Fall

-- The target of a step; for a `fall` the state in whose body it is.
abbrev pub entity_of : (state : ℕ) → Step → ℕ
entity_of s (assign site x e) = x
entity_of s (write site m i e) = m
entity_of s (retag site x n) = x
entity_of s (retag_cell site m j n) = m
entity_of s (go_to site target) = target
entity_of s (fall_to_child site hang) = s

-- The site of a step that stands in a state.
abbrev pub program_site : PlacedStep → ProgramSite
program_site k = record { number = site_of k.step; kind = kind_of_step k.step; entity = entity_of k.state k.step }

-- The sites of a program, in the order of its steps.
abbrev pub sites_in : Program → List ProgramSite
sites_in p = map program_site (placed_sites p)
