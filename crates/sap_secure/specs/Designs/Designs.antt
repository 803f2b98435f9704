-- The laws of the labelled meaning, for every lattice and every design that is well formed over it.
use Rattle.std.specs.Prelude.{◌≡◌, List, [], ◌∷◌}
use Rattle.sap_tree.specs.Syntax.{DesignTree}
use Rattle.sap_lattice.specs.Order.{Laws}
use Rattle.sap_lattice.specs.Levels.{Levels, order_of}
use Rattle.sap_shape.specs.WellFormed.{WellFormed}
use Rattle.sap_meaning.specs.Store.{Store, After}
use Rattle.sap_meaning.specs.Cycle.{Tagged, cycle, cycle_listed, run_from}
use Rattle.sap_meaning.specs.State.{Resting, Fits, InputsFit, first}
use Rattle.sap_meaning.specs.Sites.{RisesFrom, refused_sites}
use Rattle.sap_resolved.specs.Fill.{program_of}
use Rattle.sap_secure.specs.Confinement.{Confines}
use Rattle.sap_secure.specs.Laws.{CyclesAgree, LaterAgree, LabelledAgree}

-- In a context that is not at or below a level, a command of the design changes nothing at or below that level, under
-- the conditions of `Hidden`.
abbrev pub DesignsConfine : Type 0
DesignsConfine = (ls : Levels) (d : DesignTree) → Laws (order_of ls) → WellFormed ls d → Confines (program_of ls d)

-- One cycle of the design from states that agree at a level, with inputs that agree there, gives states and refusals
-- that do.
abbrev pub DesignCyclesAgree : Type 0
DesignCyclesAgree = (ls : Levels) (d : DesignTree) → Laws (order_of ls) → WellFormed ls d
    → CyclesAgree (program_of ls d)

-- From states between cycles that agree at a level, streams that agree there give runs of the design that agree there
-- in every cycle.
abbrev pub LaterRunsOfDesignsAgree : Type 0
LaterRunsOfDesignsAgree = (ls : Levels) (d : DesignTree) → Laws (order_of ls) → WellFormed ls d
    → LaterAgree (program_of ls d)

-- From the first state, streams that agree at a level give runs of the design that agree there in every cycle.
abbrev pub RunsOfDesignsAgree : Type 0
RunsOfDesignsAgree = (ls : Levels) (d : DesignTree) → Laws (order_of ls) → WellFormed ls d
    → LabelledAgree (program_of ls d)

-- In each cycle the refused sites, numbered from 1, rise.
abbrev pub EachRises : List After → Type 0
EachRises [] = Unit {0}
EachRises (a ∷ rest) = RisesFrom 1 (refused_sites a.refused) × EachRises rest

-- In every run of the design no site is refused twice in a cycle, and the refusals of a cycle are in the order of the
-- text.
abbrev pub RefusalsRise : Type 0
RefusalsRise = (ls : Levels) (d : DesignTree) → Laws (order_of ls) → WellFormed ls d
    → (s : Store) (stream : List (List Tagged)) → EachRises (run_from (program_of ls d) s stream)

-- A cycle by the program's lists of what hangs is the cycle, in every design.
abbrev pub ListsServeDesigns : Type 0
ListsServeDesigns = (ls : Levels) (d : DesignTree) (inputs : List Tagged) (s : Store)
    → cycle_listed (program_of ls d) inputs s ≡ cycle (program_of ls d) inputs s

-- The first state of the design is one between cycles, and every cycle leads from such a one to another.
abbrev pub DesignStatesRest : Type 0
DesignStatesRest = (ls : Levels) (d : DesignTree) → Laws (order_of ls) → WellFormed ls d
    → Resting (program_of ls d).world (first (program_of ls d).world)
    × ((inputs : List Tagged) (s : Store) → Resting (program_of ls d).world s
    → Resting (program_of ls d).world (cycle (program_of ls d) inputs s).store)

-- Numbers stay within their widths and levels stay levels, as long as the inputs' do.
abbrev pub DesignNumbersFit : Type 0
DesignNumbersFit = (ls : Levels) (d : DesignTree) → Laws (order_of ls) → WellFormed ls d
    → Fits (program_of ls d).world (first (program_of ls d).world)
    × ((inputs : List Tagged) (s : Store) → InputsFit (program_of ls d).world inputs → Fits (program_of ls d).world s
    → Fits (program_of ls d).world (cycle (program_of ls d) inputs s).store)
