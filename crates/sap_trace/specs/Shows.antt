-- When a runner shows the refusals of a cycle.
use Rattle.std.specs.Prelude.{◌≡◌, ◌<◌, ℕ, List, [], ◌∷◌, ◌++◌, None, Some, length, option_map, unwrap_or}
use Rattle.std.specs.List.{last_or}
use Rattle.sap_tree.specs.Syntax.{DesignTree}
use Rattle.sap_lattice.specs.Levels.{Levels}
use Rattle.sap_maps.specs.Maps.{Valuation}
use Rattle.sap_meaning.specs.Cycle.{Tagged as Given}
use Rattle.sap_meaning.specs.Store.{After, Store, Refusal}
use Rattle.sap_meaning.specs.State.{InputsFit, StreamFits, labelled_run}
use Rattle.sap_meaning.specs.Sites.{program_sites, refused_sites, Sublist}
use Rattle.sap_net.specs.Net.{Net}
use Rattle.sap_net.specs.Runs.{observed}
use Rattle.sap_net.specs.Runs as net
use Rattle.sap_cycle.specs.Running.{Running, Shows, ShowsNext}
use Rattle.sap_resolved.specs.Fill.{program_of}
use Rattle.sap_resolved.specs.Worlds.{world_of}
use Rattle.sap_interface.specs.StandsFor.{StandsFor}
use Rattle.sap_interface.specs.Designs.{named_of, site_count_of}
use Rattle.sap_sim.specs.Labelled.RunOf.{read_for}
use Rattle.sap_sim.specs.Stepped.{ShowsLast}
use Rattle.sap_trace.specs.Given.{given}
use Rattle.sap_trace.specs.Seen.{HasSiteWires}

-- The runner was stepped, and what it shows stands for a state of the design and these refusals: sites of the design,
-- in the order of the text, as a cycle refuses them.
pub record ShowsRefused (ls : Levels) (d : DesignTree) (r : Running) (rs : List Refusal) : Type 0 where
  pub wires : HasSiteWires ls d r.net
  pub cycle : Valuation
  pub state : Store
  pub shows : Shows r (Some cycle)
  pub stands : StandsFor (named_of ls d) (site_count_of d) (observed r.net cycle) state rs
  pub in_order : Sublist (refused_sites rs) (program_sites (program_of ls d))

-- What the last cycle of a run refuses: nothing, where there is no cycle.
abbrev pub last_refused : List After → List Refusal
last_refused run = unwrap_or (option_map (λ (a : After). a.refused) (last_or None run)) []

-- A runner of this netlist that was loaded and stepped on these lines, which fit the design: on each line its inputs
-- got the numbers, and the codes of the levels.
pub record IsSteppedOn (ls : Levels) (d : DesignTree) (n : Net) (lines : List (List Given)) (r : Running) : Type 0 where
  pub net : r.net ≡ n
  pub fit : StreamFits (world_of ls d) lines
  pub shows : ShowsLast n (given ls) lines r

-- A runner of a netlist that stands for a design, stepped on one line after another, shows what the last cycle of the
-- labelled run on these lines refuses.
pub record StepsShowRefused (ls : Levels) (d : DesignTree) (n : Net) : Type 0 where
  -- what a stimulus gives fits
  pub reads : (bytes : List ℕ) → StreamFits (world_of ls d) (read_for ls d bytes).stream
  -- the inputs take a line that fits
  pub takes : (line : List Given) → InputsFit (world_of ls d) line → net.InputsFit n.inputs (given ls line)
  -- what was loaded was stepped on no line
  pub begins : (r : Running) → r.net ≡ n → Shows r None → IsSteppedOn ls d n [] r
  -- a step is a line more
  pub goes_on : (lines : List (List Given)) (line : List Given) (old new : Running)
      → IsSteppedOn ls d n lines old → InputsFit (world_of ls d) line
      → new.net ≡ old.net → ShowsNext old (given ls line) new → IsSteppedOn ls d n (lines ++ line ∷ []) new
  -- after one line at least, the refusals of the last are shown
  pub gives : (lines : List (List Given)) (r : Running) → 0 < length lines → IsSteppedOn ls d n lines r
      → ShowsRefused ls d r (last_refused (labelled_run (program_of ls d) lines))
