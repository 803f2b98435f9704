-- Two runs of one program: what agrees at a level before, agrees there after.
use Rattle.std.specs.Prelude.{ℕ, List}
use Rattle.sap_meaning.specs.Program.{Program}
use Rattle.sap_meaning.specs.Store.{Store}
use Rattle.sap_meaning.specs.Cycle.{Tagged, cycle, run_from}
use Rattle.sap_meaning.specs.State.{Resting, labelled_run}
use Rattle.sap_meaning.specs.Agree.{InputsAgree, StatesAgree, StreamsAgree, RefusalsAgree, RunsAgree}
use Rattle.sap_meaning.specs.Fine.{FineProgram}

-- From any two states between cycles that agree at a level, inputs that agree there give states and refusals that
-- agree there.
abbrev pub CyclesAgree : Program → Type 0
CyclesAgree p = (l : ℕ) (s t : Store) → Resting p.world s → Resting p.world t → StatesAgree p l s t
    → (a b : List Tagged) → InputsAgree p.world.order l a b
    → StatesAgree p l (cycle p a s).store (cycle p b t).store
    × RefusalsAgree p.world.order l (cycle p a s).refused (cycle p b t).refused

-- From states between cycles that agree at a level, streams that agree there give runs that agree there in every cycle.
abbrev pub LaterAgree : Program → Type 0
LaterAgree p = (l : ℕ) (s t : Store) → Resting p.world s → Resting p.world t → StatesAgree p l s t
    → (a b : List (List Tagged)) → StreamsAgree p.world.order l a b → RunsAgree p l (run_from p s a) (run_from p t b)

-- From the first state, streams that agree at a level give runs that agree there in every cycle.
abbrev pub LabelledAgree : Program → Type 0
LabelledAgree p = (l : ℕ) (a b : List (List Tagged)) → StreamsAgree p.world.order l a b
    → RunsAgree p l (labelled_run p a) (labelled_run p b)

-- In each fine program, from states between cycles that agree at a level, inputs that agree there give states and
-- refusals that agree there.
abbrev pub OneCycle : Type 0
OneCycle = (p : Program) → FineProgram p → CyclesAgree p

-- In each fine program, from states between cycles that agree at a level, streams that agree there give runs that agree
-- there in every cycle.
abbrev pub LaterRunsAgree : Type 0
LaterRunsAgree = (p : Program) → FineProgram p → LaterAgree p

-- In each fine program, labelled runs on streams that agree at or below a level agree there in every cycle.
abbrev pub LabelledRunsAgree : Type 0
LabelledRunsAgree = (p : Program) → FineProgram p → LabelledAgree p
