-- The points of a design, as the check and the report tell of them: each by its word and the place of that. The walk
-- that finds them stands in `sap_tree`, `Points`.
use Rattle.std.specs.Prelude.{List, map}
use Rattle.sap_text.specs.declared.place.Place.{Place}
use Rattle.sap_tree.specs.Syntax.{Command, lone, try, if_else, try_then, case_of, DesignTree}
use Rattle.sap_tree.specs.Points as tree
use Rattle.sap_shape.specs.Paths.{place_of}
use Rattle.sap_check.specs.declared.point.Point.{Point}
use Rattle.sap_check.specs.declared.point.PointKind.{PointKind}
use Rattle.sap_check.specs.declared.point.PointKind.TheVariants as kind

-- A point of the report: its kind and its place.
abbrev pub point : PointKind → Place → Point
point k place = record { kind = k; place = place }

-- A command that is a point: its word and the place of that; the only simple one is a `fall`.
abbrev pub word_of : Command → Point
word_of (lone k) = point kind.Fall (place_of k)
word_of (try k place handler) = point kind.Otherwise place
word_of (if_else place condition then_block else_block) = point kind.If place
word_of (try_then k place accepted refused) = point kind.Then place
word_of (case_of place e arms) = point kind.Case place

-- Of commands of one body, and of a design's points.
abbrev pub words_of : List Command → List Point
words_of cs = map word_of cs

-- The points of the report for points of the tree.
abbrev pub words_at : List tree.Point → List Point
words_at ps = map (λ (p : tree.Point). word_of p.command) ps

-- The points of a design, in the order of its text.
abbrev pub points_of : DesignTree → List Point
points_of d = words_at (tree.points_of d)
