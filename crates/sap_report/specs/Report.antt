-- The report of a design: a line for each level, for each point with what hangs on it, and for each check site. Each
-- line ends with LF.
use Rattle.std.specs.Prelude.{ℕ, ◌+◌, List, [], ◌∷◌, ◌++◌, codes, if◌then◌else◌, flat_map}
use Rattle.std.specs.Fmt.{decimal}
use Rattle.sap_lattice.specs.Codes.{code_of}
use Rattle.sap_lattice.specs.Levels.{Levels, order_of}
use Rattle.sap_text.specs.declared.place.Place.{Place}
use Rattle.sap_text.specs.Places.{line_end}
pub use Rattle.sap_text.specs.Places.{place_text}
use Rattle.sap_tree.specs.Syntax.{DesignTree}
use Rattle.sap_names.specs.declared.entity.Entity.{Entity}
use Rattle.sap_names.specs.Entities.{entities_of}
use Rattle.sap_check.specs.declared.point.Point.{Point}
use Rattle.sap_check.specs.declared.point.PointKind.{PointKind}
use Rattle.sap_check.specs.declared.point.PointKind.TheVariants as points
use Rattle.sap_check.specs.declared.site.Site.{Site}
use Rattle.sap_check.specs.Points.{points_of}
use Rattle.sap_check.specs.Sites.{sites_of}
use Rattle.sap_check.specs.SiteTexts.{entity_name, site_target}
use Rattle.sap_hang.specs.Hang.{hangs}

-- `level NAME CODE`, in the order of the file; the first level has the number l.
abbrev pub level_line : (name : List ℕ) → (code : ℕ) → List ℕ
level_line name code = codes "level " ++ name ++ codes " " ++ decimal code ++ line_end

-- The lines of the levels with their codes.
abbrev pub level_lines : Levels → (l : ℕ) → (names : List (List ℕ)) → List ℕ
level_lines ls l [] = []
level_lines ls l (name ∷ names) = level_line name (code_of (order_of ls) l) ++ level_lines ls (l + 1) names

-- The names of the entities that hang on a point, in the order of declaration; the first entity has the number x.
abbrev pub hanging : DesignTree → (point x : ℕ) → List Entity → List (List ℕ)
hanging d p x [] = []
hanging d p x (e ∷ es) = if hangs d p x then e.name.name ∷ hanging d p (x + 1) es else hanging d p (x + 1) es

-- The name of one entity, where it hangs on a point.
abbrev pub where_hung : DesignTree → (point x : ℕ) → List (List ℕ)
where_hung d p x = if hangs d p x then entity_name (entities_of d) x ∷ [] else []

-- Each name after a blank.
abbrev pub each_name : List (List ℕ) → List ℕ
each_name names = flat_map (λ name. codes " " ++ name) names

-- `-` where there is none.
abbrev pub names_text : List (List ℕ) → List ℕ
names_text [] = codes " -"
names_text (name ∷ names) = each_name (name ∷ names)

-- The word for a kind of point.
abbrev pub point_word : PointKind → List ℕ
point_word points.If = codes "if"
point_word points.Otherwise = codes "otherwise"
point_word points.Fall = codes "fall"
point_word points.Then = codes "then"
point_word points.Case = codes "case"

-- `if LINE:COL hangs NAMES`, and alike `otherwise`, `fall`, `then` and `case`; the first point has the number p.
abbrev pub point_line : Point → (names : List (List ℕ)) → List ℕ
point_line q names = point_word q.kind ++ codes " " ++ place_text q.place ++ codes " hangs"
    ++ names_text names ++ line_end

-- The lines of the points with what hangs on each.
abbrev pub point_lines : DesignTree → (p : ℕ) → List Point → List ℕ
point_lines d p [] = []
point_lines d p (q ∷ qs) = point_line q (hanging d p 0 (entities_of d)) ++ point_lines d (p + 1) qs

-- The head of a site's line: its number and its place.
unfoldable pub site_head : (k : ℕ) → Place → List ℕ
site_head k place = codes "site " ++ decimal k ++ codes " " ++ place_text place ++ codes " "

-- `site K LINE:COL KIND NAME`; the first site has the number k.
abbrev pub site_line : List Entity → (k : ℕ) → Site → List ℕ
site_line es k s = site_head k s.place ++ site_target es s ++ line_end

-- The lines of the sites.
abbrev pub site_lines : List Entity → (k : ℕ) → List Site → List ℕ
site_lines es k [] = []
site_lines es k (s ∷ ss) = site_line es k s ++ site_lines es (k + 1) ss

-- The levels, then the points, then the check sites.
abbrev pub report_text : Levels → DesignTree → List ℕ
report_text ls d = level_lines ls 0 ls.names ++ point_lines d 1 (points_of d)
    ++ site_lines (entities_of d) 1 (sites_of d)
