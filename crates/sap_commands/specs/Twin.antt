-- What `twin` asks, and what its steps come to: where two streams first don't agree at a level, and what agreement says
-- of a design's modules.
use Rattle.std.specs.Prelude.{◌≡◌, ◌⊎◌, ℕ, Bool, true, false, List, [], ◌++◌, length, get_or, map, filter, codes, Option, Some, None, Result, Ok, Err}
use Rattle.std.specs.Fmt.{decimal}
use Rattle.std.specs.List.{AllZip}
use Rattle.sap_lattice.specs.Levels.{Levels, level_named, order_of}
use Rattle.sap_lattice.specs.Order.{Order}
use Rattle.sap_latfile.specs.OneLattice.{AreSame}
use Rattle.sap_maps.specs.Maps.{Valuation}
use Rattle.sap_meaning.specs.Agree.{StreamsAgree}
use Rattle.sap_meaning.specs.Cycle.{Tagged}
use Rattle.sap_tree.specs.Syntax.{DesignTree}
use Rattle.sap_names.specs.Entities.{entities_of}
use Rattle.sap_names.specs.declared.entity.Entity.{Entity}
use Rattle.sap_names.specs.declared.kind.Declared.{Declared}
use Rattle.sap_names.specs.declared.kind.Declared.TheVariants as what
use Rattle.sap_stream.specs.Apart.{IsApart}
use Rattle.sap_stream.specs.declared.apart.Apart.{Apart}
use Rattle.sap_stream.specs.declared.apart.Apart.TheVariants.{Lengths, At}
use Rattle.sap_net.specs.Net.{Net}
use Rattle.sap_net.specs.Runs.{IsRun, observed}
use Rattle.sap_interface.specs.Compiled.{coded_stream}
use Rattle.sap_interface.specs.Designs.{named_of, site_count_of}
use Rattle.sap_compile.specs.Agree.{CyclesAgree, CyclesLookAlike}
use Rattle.sap_compile.specs.Compiles.{IsModuleFor, IsNetlistFor}
use Rattle.sap_compile.specs.Runs.{HasOneRun}
use Rattle.sap_files.specs.Ending.{Ending, Refusal, refused, no_memory, level_refused, lengths_apart, inputs_apart, line}
use Rattle.sap_files.specs.Contents.{IsLatticeFile}
use Rattle.sap_files.specs.Kinds.{lattice_file, design_file, stream_file}
use Rattle.sap_files.specs.Asks.{Asks, file, with_the, gives, stops}
use Rattle.sap_files.specs.Steps.{Ends, Moment, ending}
use Rattle.sap_files.specs.declared.failure.Failure.{Failure}

-- Where two streams first don't agree at a level, if they don't.
abbrev pub IsVerdict : Order → (l : ℕ) → (one other : List (List Tagged)) → Option Apart → Type 0
IsVerdict o l one other None = StreamsAgree o l one other
IsVerdict o l one other (Some apart) = IsApart o l one other apart

-- The entity is an input.
abbrev pub is_input : Declared → Bool
is_input (what.Input width) = true
is_input _ = false

-- The names of the inputs, in the order of declaration.
abbrev pub input_names : List Entity → List (List ℕ)
input_names es = map (λ e. e.name.name) (filter (λ e. is_input e.what) es)

-- The name of the input at a place, the places being counted from 0.
abbrev pub input_name : DesignTree → (place : ℕ) → List ℕ
input_name d place = get_or (input_names (entities_of d)) place []

-- The refusal of two streams that don't agree.
abbrev pub difference : DesignTree → Apart → Refusal
difference d (Lengths one other) = lengths_apart one other
difference d (At cycle input) = inputs_apart cycle (input_name d input)

-- The line that `twin` writes of two streams that agree at a level.
abbrev pub agreement_line : (level : List ℕ) → (cycles : ℕ) → List ℕ
agreement_line level cycles = line (codes "agree at " ++ level ++ codes " for " ++ decimal cycles ++ codes " cycles")

-- On two streams, their levels given as codes, a netlist has one run each, the two agree at l in every cycle, and its
-- numbers show it.
pub record RunsAgreeOn (ls : Levels) (d : DesignTree) (l : ℕ) (one other : List (List Tagged))
    (net : Net) : Type 0 where
  pub run : HasOneRun net (coded_stream (named_of ls d).code one)
  pub other_run : HasOneRun net (coded_stream (named_of ls d).code other)
  pub agree : (vs us : List Valuation) → IsRun net (coded_stream (named_of ls d).code one) vs
      → IsRun net (coded_stream (named_of ls d).code other) us
      → AllZip (CyclesAgree (named_of ls d) (site_count_of d) l) (map (observed net) vs) (map (observed net) us)
  pub look_alike : (vs us : List Valuation) → IsRun net (coded_stream (named_of ls d).code one) vs
      → IsRun net (coded_stream (named_of ls d).code other) us
      → AllZip (CyclesLookAlike (named_of ls d) (site_count_of d) l) (map (observed net) vs) (map (observed net) us)

-- The text is the line of two streams that agree at a level; there is a module for the design, and the runs of each on
-- these streams agree there.
pub record IsAgreement (ls : Levels) (d : DesignTree) (l : ℕ) (one other : List (List Tagged))
    (level text : List ℕ) : Type 0 where
  pub is_line : text ≡ agreement_line level (length one)
  pub some_module : (net : Net) × (written : List ℕ) × IsModuleFor ls d net written
  pub every_module : (net : Net) (written : List ℕ) → IsModuleFor ls d net written → RunsAgreeOn ls d l one other net

-- What a command asks once its LEVEL is looked up: it is refused if that names no level, else it goes on with the
-- level.
abbrev pub at_level : (word : List ℕ) → (ℕ → Asks) → Option ℕ → Asks
at_level word rest None = stops (level_refused word)
at_level word rest (Some l) = rest l

-- What a `twin` asks of two streams, by where they first don't agree: it gives its line if they agree, else it is
-- refused.
abbrev pub compared : Levels → DesignTree → (l : ℕ) → (word : List ℕ) → (one other : List (List Tagged))
    → Option Apart → Asks
compared ls d l word one other None = gives (IsAgreement ls d l one other word)
compared ls d l word one other (Some apart) = stops (difference d apart)

-- What a `twin` asks after its design: it reads both stimuli and compares them at the level.
abbrev pub asks_streams : Levels → DesignTree → (first second word : List ℕ) → (l : ℕ) → Asks
asks_streams ls d first second word l =
    file first (stream_file 1 ls d) (λ one. file second (stream_file 2 ls d) (λ other.
    with_the (Option Apart) (IsVerdict (order_of ls) l one other) (compared ls d l word one other)))

-- What `twin` asks: a lattice, a level of it, a design, and two stimuli.
abbrev pub asks_twin : (lattice design first second level : List ℕ) → Asks
asks_twin lattice design first second level =
    file lattice lattice_file (λ ls. with_the (Option ℕ) (λ named. named ≡ level_named ls.names level)
    (at_level level (λ l.
    file design (design_file ls) (λ d. asks_streams ls d first second level l))))

-- The steps of the command.

-- The level of a name; or it names none, and is refused.
abbrev pub IsLevelOf : Levels → (word : List ℕ) → Result ℕ Failure → Type 0
IsLevelOf ls word (Ok l) = Some l ≡ level_named ls.names word
IsLevelOf ls word (Err e) = (None ≡ level_named ls.names word) × (ending e ≡ refused (level_refused word))

-- Streams that don't agree are refused so, or there was no memory for it.
abbrev pub Differ : DesignTree → Apart → Failure → Type 0
Differ d apart e = (ending e ≡ no_memory) ⊎ (ending e ≡ refused (difference d apart))

-- What comparing two streams at a level gives: the line of streams that agree, or where they first don't.
abbrev pub Finds : Levels → DesignTree → (l : ℕ) → (one other : List (List Tagged)) → (word : List ℕ)
    → Result (List ℕ) Failure → Type 0
Finds ls d l one other word (Ok text) = StreamsAgree (order_of ls) l one other
    × (text ≡ agreement_line word (length one))
Finds ls d l one other word (Err e) = (ending e ≡ no_memory)
    ⊎ ((apart : Apart) × IsApart (order_of ls) l one other apart × Differ d apart e)

-- Some file has levels that are the same as these.
abbrev pub AreOfFile : Levels → Type 0
AreOfFile k = (lattice : List ℕ) × (ls : Levels) × IsLatticeFile lattice ls × AreSame k ls

-- Two streams of a design that has a module over the levels `k` are asked for and compared: it ends so, over the levels
-- of a file that are the same.
abbrev pub Compares : Levels → DesignTree → (first second word : List ℕ) → (l : ℕ) → Ending → Moment → Moment → Type 0
Compares k d first second word l e a b =
    (lattice : List ℕ) (ls : Levels) (net : Net) → IsLatticeFile lattice ls → AreSame k ls
    → IsNetlistFor k d net → Ends (asks_streams ls d first second word l) e a b
