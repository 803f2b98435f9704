-- The lines of a trace: one for each refusal of a cycle, `cycle N: site K KIND NAME at LEVEL`, with its LF. NAME is the
-- target, for `fall` the state in whose body it stands; LEVEL is that at which the site is refused.
use Rattle.std.specs.Prelude.{ℕ, ◌-◌, List, [], ◌++◌, codes, Option, Some, None, slice_get, flat_map}
use Rattle.std.specs.Fmt.{decimal}
use Rattle.sap_lattice.specs.Levels.{Levels}
use Rattle.sap_text.specs.Places.{line_end}
use Rattle.sap_tree.specs.Syntax.{DesignTree}
use Rattle.sap_names.specs.declared.entity.Entity.{Entity}
use Rattle.sap_names.specs.Entities.{entities_of}
use Rattle.sap_check.specs.declared.site.Site.{Site}
use Rattle.sap_check.specs.Sites.{sites_of}
use Rattle.sap_meaning.specs.Store.{Refusal, After}
use Rattle.sap_meaning.specs.Cycle.{Tagged}
use Rattle.sap_meaning.specs.State.{labelled_run}
use Rattle.sap_resolved.specs.Fill.{program_of}
use Rattle.sap_check.specs.SiteTexts.{site_target}
use Rattle.sap_sim.specs.Told.{told_from}
use Rattle.sap_sim.specs.Labelled.LabelledRows.{level_name}

-- The head of a line of a trace: the cycle and the site.
unfoldable pub line_head : (cycle k : ℕ) → List ℕ
line_head cycle k = codes "cycle " ++ decimal cycle ++ codes ": site " ++ decimal k ++ codes " "

-- `KIND NAME`.
abbrev pub target_text : List Entity → Option Site → List ℕ
target_text es None = []
target_text es (Some s) = site_target es s

-- The design's site of this number, from 1.
abbrev pub site_at : DesignTree → (k : ℕ) → Option Site
site_at d k = slice_get (sites_of d) (k - 1)

-- The line up to the level.
abbrev pub line_before : DesignTree → (cycle k : ℕ) → List ℕ
line_before d cycle k = line_head cycle k ++ target_text (entities_of d) (site_at d k) ++ codes " at "

-- The line of a refusal at a site.
abbrev pub site_line : DesignTree → (cycle k : ℕ) → (level : List ℕ) → List ℕ
site_line d cycle k level = line_before d cycle k ++ level ++ line_end

-- The line of a refusal.
abbrev pub refusal_line : Levels → DesignTree → (cycle : ℕ) → Refusal → List ℕ
refusal_line ls d cycle r = site_line d cycle r.site (level_name ls r.level)

-- In the order of the list.
abbrev pub refusal_lines : Levels → DesignTree → (cycle : ℕ) → List Refusal → List ℕ
refusal_lines ls d cycle rs = flat_map (refusal_line ls d cycle) rs

-- The lines of a run, from a cycle on.
abbrev pub trace_of_run : Levels → DesignTree → (cycle : ℕ) → List After → List ℕ
trace_of_run ls d = told_from (λ cycle (a : After). refusal_lines ls d cycle a.refused)

-- The lines of a design's labelled run on a stream, its cycles counted from 1.
abbrev pub labelled_trace : Levels → DesignTree → List (List Tagged) → List ℕ
labelled_trace ls d stream = trace_of_run ls d 1 (labelled_run (program_of ls d) stream)
