-- The headline. A design compiles exactly when it is well formed; the module written, read by its grammar and clocked
-- on any tagged input stream, has in every cycle the values, tags, active states and refused writes of Sapper's
-- labelled meaning; and for two streams that agree at or below a level, the module's runs agree there in every cycle,
-- timing included.
use Rattle.std.specs.Prelude.{◌≡◌, ◌≢◌, ℕ, List, map, Some}
use Rattle.sap_desk.specs.Desk.{Told}
use Rattle.sap_lattice.specs.Codes.{width_of}
use Rattle.sap_lattice.specs.Levels.{Levels, order_of}
use Rattle.sap_maps.specs.Maps.{Valuation}
use Rattle.sap_meaning.specs.Cycle.{Tagged}
use Rattle.sap_meaning.specs.State.{StreamFits, labelled_run}
use Rattle.sap_tree.specs.Syntax.{DesignTree}
use Rattle.sap_net.specs.Net.{Net}
use Rattle.sap_net.specs.Runs.{IsRun, observed}
use Rattle.sap_vtext.specs.Modules.{IsModule}
use Rattle.sap_interface.specs.Compiled.{CyclesStand, coded_stream}
use Rattle.sap_interface.specs.Designs.{named_of, site_count_of, StartsAsDesign}
use Rattle.sap_interface.specs.Interface.{HasInterface}
use Rattle.sap_interface.specs.StandsFor.{world}
use Rattle.sap_compile.specs.Agree.{RunsAgree, RunsLookAlike}
use Rattle.sap_compile.specs.Runs.{HasOneRunOnStreams}
use Rattle.sap_words.specs.Words.{command_of, compile}
use Rattle.sap_files.specs.Contents.{Has, IsLatticeFile, IsWellFormedText}

-- Take any stream that fits the design, its levels given as codes, and any run of the netlist on it. Each cycle of the
-- run has the values, tags, active states and refused writes of the same cycle of the labelled run.
abbrev pub MeansInEveryCycle : Levels → DesignTree → Net → Type 0
MeansInEveryCycle ls d net =
    (stream : List (List Tagged)) → StreamFits (world (named_of ls d)) stream
    → (vs : List Valuation) → IsRun net (coded_stream (named_of ls d).code stream) vs
    → CyclesStand (named_of ls d) (site_count_of d) (map (observed net) vs)
    (labelled_run (named_of ls d).program stream)

-- A text is the one module that means what a design does: cycle for cycle, with runs that agree where streams do.
pub record MeansDesign (ls : Levels) (d : DesignTree) (text : List ℕ) : Type 0 where
  pub net : Net
  -- By the grammar of modules the text is this module, and no other.
  pub is_module : IsModule text net
  pub no_other : (other : Net) → IsModule text other → other ≡ net
  -- Its interface is the design's.
  pub interface : HasInterface (named_of ls d) (width_of (order_of ls)) (site_count_of d) net
  -- Its numbers before the first cycle stand for the design's first state.
  pub starts : StartsAsDesign ls d net
  -- Clocked on any stream that fits the design it has one run, and that has the design's meaning.
  pub one_run : HasOneRunOnStreams ls d net
  pub means : MeansInEveryCycle ls d net
  -- On streams that agree at or below a level the runs agree there in every cycle: in states and refusals, and in plain
  -- numbers.
  pub agree : RunsAgree ls d net
  pub look_alike : RunsLookAlike ls d net

-- Which answer a `compile` gives, by its files: `t` is what the desk reports before the call, and `n` after it.
pub record CompilesExactly (lattice design out : List ℕ) (answer : ℕ) (t n : Told) : Type 0 where
  -- If it is done, the design is well formed over the lattice, and what is written means it.
  pub only : answer ≡ 0
      → (ls : Levels) × (d : DesignTree) × Has t lattice IsLatticeFile ls × Has t design (IsWellFormedText ls) d
      × ((text : List ℕ) × (n.files out ≡ Some text) × MeansDesign ls d text)
  -- If the design is well formed, it is done, unless a call on the desk fails (6) or memory runs out (7).
  pub always : (ls : Levels) (d : DesignTree) → Has t lattice IsLatticeFile ls → Has t design (IsWellFormedText ls) d
      → answer ≢ 6 → answer ≢ 7 → answer ≡ 0
  -- If no design that its bytes are is well formed, it is refused as a design (1), unless one of these two comes.
  pub refuses : (ls : Levels) (source : List ℕ) → Has t lattice IsLatticeFile ls → t.files design ≡ Some source
      → ((d : DesignTree) → ¬ (IsWellFormedText ls source d)) → answer ≢ 6 → answer ≢ 7 → answer ≡ 1

-- If the arguments are those of a `compile`, it compiles exactly.
abbrev pub Headline : (words : List (List ℕ)) → (answer : ℕ) → Told → Told → Type 0
Headline words answer t n =
    (lattice design out : List ℕ) → command_of words ≡ Some (compile lattice design out)
    → CompilesExactly lattice design out answer t n
