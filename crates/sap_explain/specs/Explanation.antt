-- The comment lines with which a module explains itself: the levels with their codes; for each group of states the
-- register that holds which is current, and their numbers; and for each check site its wire, its place, its kind and
-- its entity. Each line begins with `//` and ends with LF.
use Rattle.std.specs.Prelude.{ℕ, ◌+◌, ◌==◌, List, [], ◌∷◌, ◌++◌, codes, flat_map, if◌then◌else◌}
use Rattle.std.specs.Fmt.{decimal}
use Rattle.sap_lattice.specs.Codes.{code_of}
use Rattle.sap_lattice.specs.Levels.{Levels, order_of}
use Rattle.sap_maps.specs.Maps.{Name}
use Rattle.sap_text.specs.Places.{line_end, place_text}
use Rattle.sap_tree.specs.Syntax.{StateTree, state_node, StateList, no_state, and_state, DesignTree}
use Rattle.sap_names.specs.declared.entity.Entity.{Entity}
use Rattle.sap_names.specs.Entities.{entities_of}
use Rattle.sap_shape.specs.ShapeFaults.{name_of}
use Rattle.sap_check.specs.declared.site.Site.{Site}
use Rattle.sap_check.specs.Sites.{sites_of}
use Rattle.sap_check.specs.SiteTexts.{site_target}
use Rattle.sap_report.specs.Report.{level_line}
use Rattle.sap_net.specs.PortNames.{seat_name, root_seat, refused_name}
use Rattle.sap_linked.specs.Parts.{in_part}
use Rattle.sap_linked.specs.Designs.{NamedDesign}

-- The lines of the levels are those of the report, each behind two slashes; the first level has the number l.
abbrev pub level_comments : Levels → (l : ℕ) → (names : List (List ℕ)) → List ℕ
level_comments ls l [] = []
level_comments ls l (name ∷ names) =
    codes "// " ++ level_line name (code_of (order_of ls) l) ++ level_comments ls (l + 1) names

-- A name of a design's module as it stands in the module itself, and in that of a system, where the design is a part.
-- The empty name stands for no part.
abbrev pub name_in : (part : Name) → Name → Name
name_in [] x = x
name_in (b ∷ part) x = in_part (b ∷ part) x

-- What comes before the number of a state in its group: a blank, and behind another state a comma.
abbrev pub before_child : (n : ℕ) → List ℕ
before_child n = if n == 0 then codes " " else codes ", "

-- `N NAME`, the number and the name of a state, and what comes before them.
abbrev pub child_text : (n : ℕ) → (name : List ℕ) → List ℕ
child_text n name = before_child n ++ decimal n ++ codes " " ++ name

-- `0 A, 1 B`, the numbers and names of states; the first has the number n.
abbrev pub children_text : (n : ℕ) → StateList → List ℕ
children_text n no_state = []
children_text n (and_state s rest) = child_text n (name_of s) ++ children_text (n + 1) rest

-- `s_P: 0 A, 1 B`, the register of a group and its states.
abbrev pub group_line : (seat : Name) → StateList → List ℕ
group_line seat states = codes "// " ++ seat ++ codes ":" ++ children_text 0 states ++ line_end

-- The line of the children of a state; there is none if it has no children.
abbrev pub group_text : (seat : Name) → StateList → List ℕ
group_text seat no_state = []
group_text seat (and_state s rest) = group_line seat (and_state s rest)

-- The lines of the groups below a state, and below some states, in the order of the text.
unfoldable mutual
  pub groups_below : (part : Name) → StateTree → List ℕ
  groups_below part (state_node place name kind body children) =
      group_text (name_in part (seat_name name.name)) children ++ groups_below_all part children

  pub groups_below_all : (part : Name) → StateList → List ℕ
  groups_below_all part no_state = []
  groups_below_all part (and_state s rest) = groups_below part s ++ groups_below_all part rest

-- The lines of the groups of a design, the top-level states first.
abbrev pub group_comments : (part : Name) → DesignTree → List ℕ
group_comments part d = group_text (name_in part root_seat) d.states ++ groups_below_all part d.states

-- `c_K: LINE:COL KIND NAME`, the wire of a check site, and what the report has of it.
abbrev pub site_comment : (part : Name) → List Entity → (k : ℕ) → Site → List ℕ
site_comment part es k s = codes "// " ++ name_in part (refused_name k) ++ codes ": " ++ place_text s.place
    ++ codes " " ++ site_target es s ++ line_end

-- The lines of check sites; the first has the number k.
abbrev pub site_comments : (part : Name) → List Entity → (k : ℕ) → List Site → List ℕ
site_comments part es k [] = []
site_comments part es k (s ∷ ss) = site_comment part es k s ++ site_comments part es (k + 1) ss

-- The groups and the check sites of a design.
abbrev pub design_comments : (part : Name) → DesignTree → List ℕ
design_comments part d = group_comments part d ++ site_comments part (entities_of d) 1 (sites_of d)

-- What explains the module of a design.
abbrev pub explanation : Levels → DesignTree → List ℕ
explanation ls d = level_comments ls 0 ls.names ++ design_comments [] d

-- The groups and the check sites of each part of a system, under the part's name.
abbrev pub part_comments : List NamedDesign → List ℕ
part_comments designs = flat_map (λ (d : NamedDesign). design_comments d.name d.design) designs

-- What explains the module of a system: the levels once, and then its parts.
abbrev pub system_explanation : Levels → List NamedDesign → List ℕ
system_explanation ls designs = level_comments ls 0 ls.names ++ part_comments designs
