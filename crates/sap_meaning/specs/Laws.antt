-- Laws of the labelled meaning.
use Rattle.std.specs.Prelude.{◌≡◌, ℕ, ◌<◌, true, List}
use Rattle.sap_meaning.specs.Program.{World, Program, children, place, Command, Group}
use Rattle.sap_meaning.specs.Store.{Store, After}
use Rattle.sap_meaning.specs.Checks.{Home}
use Rattle.sap_meaning.specs.Touches.{among}
use Rattle.sap_meaning.specs.Does.{Action, within, does}
use Rattle.sap_meaning.specs.Cycle.{Tagged, cycle, cycle_listed}
use Rattle.sap_meaning.specs.State.{Holds, Resting, first, Fits, InputsFit}
use Rattle.sap_meaning.specs.Fine.{FineProgram, FineCommand, ExactProgram}
use Rattle.sap_meaning.specs.Sized.{SizedProgram}
use Rattle.sap_meaning.specs.Sites.{program_sites, refused_sites, Sublist, RisesFrom}
use Rattle.sap_meaning.specs.Walks.{Every}

-- Where the lists in a program are exact, a cycle by them is the cycle.
abbrev pub ListsServe : Type 0
ListsServe = (p : Program) → ExactProgram p → (inputs : List Tagged) (s : Store)
    → cycle_listed p inputs s ≡ cycle p inputs s

-- A function from stores to results keeps what every state keeps.
abbrev pub Keeps : World → (Store → After) → Type 0
Keeps w f = (s : Store) → Holds w s → Holds w (f s).store

-- Every command in the body of a state of the group q keeps what every state keeps, if what the children do keeps it.
-- Each state of q has a place among the parent's children.
abbrev pub CommandsKeep : Type 0
CommandsKeep = (w : World) (at : Home) (q : Group) → ((s : ℕ) → among q s ≡ true → place w s < children w at.parent)
    → (enter : ℕ → Action) → ((n pc : ℕ) → Keeps w (enter n pc))
    → (c : Command) → Every (FineCommand w q at.children) c → (pc : ℕ) → Keeps w (does (within w at enter) c pc)

-- The first state is one between cycles, and every cycle leads from such a state to another.
abbrev pub StatesRest : Type 0
StatesRest = (p : Program) → FineProgram p
    → Resting p.world (first p.world) × ((inputs : List Tagged) (s : Store) → Resting p.world s
    → Resting p.world (cycle p inputs s).store)

-- From the first state on numbers stay within their widths and levels stay levels, as long as those of the inputs do.
abbrev pub NumbersFit : Type 0
NumbersFit = (p : Program) → FineProgram p → SizedProgram p
    → Fits p.world (first p.world)
    × ((inputs : List Tagged) (s : Store) → InputsFit p.world inputs → Fits p.world s
    → Fits p.world (cycle p inputs s).store)

-- The sites that a cycle refuses are check sites of the program, in the order of the text. If the numbers of the check
-- sites rise, so do those of the refused ones, and no site is refused twice.
abbrev pub SitesInOrder : Type 0
SitesInOrder = (p : Program) → FineProgram p → (inputs : List Tagged) (s : Store)
    → Sublist (refused_sites (cycle p inputs s).refused) (program_sites p)
    × ((n : ℕ) → RisesFrom n (program_sites p) → RisesFrom n (refused_sites (cycle p inputs s).refused))
