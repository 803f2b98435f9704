-- The check sites of a design, as the check, the report and the trace tell of them. The walk that finds them stands in
-- `sap_shape`, `Sites`.
use Rattle.std.specs.Prelude.{ℕ, List, map}
use Rattle.sap_tree.specs.Syntax.{SimpleCommand, assign, write, set_tag, set_cell_tag, go_to, fall_to_child, DesignTree}
pub use Rattle.sap_names.specs.Entities.{entity_number}
pub use Rattle.sap_shape.specs.Paths.{place_of}
use Rattle.sap_shape.specs.Sites.{Surroundings, CheckSite, check_sites}
use Rattle.sap_check.specs.declared.site.Site.{Site}
use Rattle.sap_check.specs.declared.site.SiteKind.{SiteKind}
use Rattle.sap_check.specs.declared.site.SiteKind.TheVariants as kind

-- The kind of the site at which a step stands.
abbrev pub kind_of_command : SimpleCommand → SiteKind
kind_of_command (assign target e) = kind.Write
kind_of_command (write target index e) = kind.Write
kind_of_command (set_tag place target tag) = kind.SetTag
kind_of_command (set_cell_tag place target index tag) = kind.SetTag
kind_of_command (go_to place target) = kind.Goto
kind_of_command (fall_to_child place) = kind.Fall

-- The name that a report and a trace tell with it: its target, and for a `fall` the state in whose body it stands.
abbrev pub target_of : Surroundings → SimpleCommand → List ℕ
target_of h (assign target e) = target.name
target_of h (write target index e) = target.name
target_of h (set_tag place target tag) = target.name
target_of h (set_cell_tag place target index tag) = target.name
target_of h (go_to place target) = target.name
target_of h (fall_to_child place) = h.home.name

-- The report's site for a check site: its place, its kind and its entity.
abbrev pub site_of : CheckSite → Site
site_of s = record {
  place = place_of s.command;
  kind = kind_of_command s.command;
  entity = entity_number s.surroundings.entities (target_of s.surroundings s.command);
}

-- The sites of a design, in the order of its text.
abbrev pub sites_of : DesignTree → List Site
sites_of d = map site_of (check_sites d)
