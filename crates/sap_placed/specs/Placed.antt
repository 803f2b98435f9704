-- The order of a design's check sites, points and entities is that of its text: each stands behind the one before it.
use Rattle.std.specs.Prelude.{◌≡◌, ◌<◌, ◌⊎◌, ℕ, List, [], ◌∷◌, map}
use Rattle.std.specs.List.{AllByRecursion}
use Rattle.sap_check.specs.Points.{points_of}
use Rattle.sap_check.specs.Sites.{sites_of}
use Rattle.sap_check.specs.declared.point.Point.{Point}
use Rattle.sap_check.specs.declared.site.Site.{Site}
use Rattle.sap_names.specs.Entities.{entities_of}
use Rattle.sap_names.specs.declared.entity.Entity.{Entity}
use Rattle.sap_parse.specs.Text.{IsText}
use Rattle.sap_text.specs.declared.place.Place.{Place}
use Rattle.sap_tree.specs.Syntax.{DesignTree}

-- On an earlier line, or on the same line in an earlier column.
abbrev pub LiesBefore : Place → Place → Type 0
LiesBefore p q = (p.line < q.line) ⊎ ((p.line ≡ q.line) × (p.column < q.column))

-- Each lies before all those after it.
abbrev pub Rise : List Place → Type 0
Rise [] = Unit {0}
Rise (p ∷ ps) = AllByRecursion (LiesBefore p) ps × Rise ps

-- Those of the first tokens of the check sites.
abbrev pub SitesRise : Type 0
SitesRise = (text : List ℕ) (design : DesignTree) → IsText text design
    → Rise (map (λ (s : Site). s.place) (sites_of design))

-- Those of the words of the points.
abbrev pub PointsRise : Type 0
PointsRise = (text : List ℕ) (design : DesignTree) → IsText text design
    → Rise (map (λ (p : Point). p.place) (points_of design))

-- Those where the entities' names are declared.
abbrev pub EntitiesRise : Type 0
EntitiesRise = (text : List ℕ) (design : DesignTree) → IsText text design
    → Rise (map (λ (e : Entity). e.name.place) (entities_of design))
