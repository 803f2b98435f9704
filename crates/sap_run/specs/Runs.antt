-- What the code's parts do, in the words of the labelled meaning.
use Rattle.std.specs.Prelude.{ℕ, ◌<◌, ◌≤◌, List, [], ◌∷◌, Option, Some, find, option_map, slice_set}
use Rattle.std.specs.Option.{unwrap_or}
use Rattle.sap_meaning.specs.Program.{root, listed, last_arm}
use Rattle.sap_meaning.specs.Program as program
use Rattle.sap_meaning.specs.Store.{Store, raise, Refusal, After, stay}
use Rattle.sap_meaning.specs.Does.{within, effect, attempt_then, select, branch, is_constant}
use Rattle.sap_meaning.specs.Runs.{run, run_block, run_state, run_child}
use Rattle.sap_program.specs.Hangs.{flags}
use Rattle.sap_program.specs.Views.{term_of, step_of, command_of, block_of, constants_of, commands_in, arms_before, state_of, group_of}
use Rattle.sap_program.specs.declared.program.Number.{Number}
use Rattle.sap_program.specs.declared.program.Arm.{Arm}
use Rattle.sap_program.specs.declared.program.Command.{Command}
use Rattle.sap_program.specs.declared.program.State.{State}
use Rattle.sap_program.specs.declared.program.Step.{Step}
use Rattle.sap_program.specs.declared.program.Step.TheVariants as step
use Rattle.sap_store.specs.declared.environment.Environment.{Environment}
use Rattle.sap_program.specs.declared.home.Home.{Home}
use Rattle.sap_run.specs.declared.effects.Situation.{Situation}
use Rattle.sap_store.specs.Able.{AbleCommand, AbleArms, AbleBlock, AbleState, AbleGroup}
use Rattle.sap_store.specs.Code.{world_in, entities_in, home_in}

-- What hangs is raised.
abbrev pub raised_by : Environment → Situation → Store → Store
raised_by d here s = raise (world_in d).order (listed (flags (entities_in d) here.hang.now)) here.level s

-- The store that a step leaves which enters no child, behind what is raised; its site doesn't count.
abbrev pub acted : Environment → Situation → program.Step → Store → Store
acted d here k s = (effect (within (world_in d) (home_in d here.at.now) (λ n pc t. stay t)) k here.context s
    (raised_by d here s)).store

-- Every step but a fall.
abbrev pub IsEffect : Step → Type 0
IsEffect (step.Set k x e) = Unit {0}
IsEffect (step.Write k m i e) = Unit {0}
IsEffect (step.Retag k x n) = Unit {0}
IsEffect (step.RetagCell k m j n) = Unit {0}
IsEffect (step.Goto k s) = Unit {0}
IsEffect (step.Fall k hang) = ⊥

-- What sites were refused at, with those of a list.
abbrev pub marked : List Refusal → List (Option ℕ) → List (Option ℕ)
marked [] m = m
marked (r ∷ rs) m = marked rs (slice_set m r.site (Some r.level))

-- runs of the code's commands and states

-- What a `fall` into these children does.
unfoldable pub entered : Environment → (parent : ℕ) → List State → ℕ → ℕ → Store → After
entered d p kids = run_child (world_in d) (group_of (entities_in d) kids) p

-- What a list of commands does.
unfoldable pub block_run : Environment → Home → List Command → ℕ → Store → After
block_run d at cs = run_block (within (world_in d) (home_in d at) (entered d at.state at.children.now))
    (block_of (entities_in d) cs)

-- What a command does.
unfoldable pub command_run : Environment → Home → Command → ℕ → Store → After
command_run d at c = run (within (world_in d) (home_in d at) (entered d at.state at.children.now)) (command_of (entities_in d) c)

-- The effect of a step, behind the raises.
unfoldable pub taken : Environment → Situation → Step → Store → After
taken d here k s =
    let at = here.at.now in
    effect (within (world_in d) (home_in d at) (entered d at.state at.children.now)) (step_of (entities_in d) k)
    here.context s (raised_by d here s)

-- A step, and what follows it where it is accepted and where it is refused.
unfoldable pub attempt_run : Environment → Home → (hang : List ℕ) → Step
    → (accepted refused : List Command) → ℕ → Store → After
attempt_run d at hang k accepted refused =
    attempt_then (within (world_in d) (home_in d at) (entered d at.state at.children.now)) (step_of (entities_in d) k)
    (listed (flags (entities_in d) hang)) (block_run d at accepted) (block_run d at refused)

-- What an `if` does.
unfoldable pub select_run : Environment → Home → (hang : List ℕ) → Number
    → (then_part else_part : List Command) → ℕ → Store → After
select_run d at hang e a b =
    select (world_in d) (term_of e) (listed (flags (entities_in d) hang)) (branch (block_run d at a) (block_run d at b))

-- The commands of the first arm that has the number, and the last ones where none has.
abbrev pub picked_in : List Arm → (last : List Command) → ℕ → List Command
picked_in arms last n = unwrap_or (option_map commands_in (find (λ arm. is_constant (constants_of arm) n) arms)) last

-- What a `case` does.
unfoldable pub choose_run : Environment → Home → (hang : List ℕ) → Number → List Arm
    → (last : List Command) → ℕ → Store → After
choose_run d at hang e arms last =
    select (world_in d) (term_of e) (listed (flags (entities_in d) hang)) (λ n. block_run d at (picked_in arms last n))

-- What a state's body does.
unfoldable pub state_run : Environment → (parent : ℕ) → State → ℕ → Store → After
state_run d p k = run_state (world_in d) (state_of (entities_in d) k) p

-- what they need

-- A command of the code can be run.
unfoldable pub CommandAble : Environment → Command → Type 0
CommandAble d c = AbleCommand (world_in d) (command_of (entities_in d) c)

-- A list of commands of the code can be run.
unfoldable pub BlockAble : Environment → List Command → Type 0
BlockAble d cs = AbleBlock (world_in d) (block_of (entities_in d) cs)

-- Arms of the code can be run.
unfoldable pub ArmsAble : Environment → List Arm → (last : List Command) → Type 0
ArmsAble d arms last = AbleArms (world_in d)
    (arms_before (entities_in d) arms (last_arm (block_of (entities_in d) last)))

-- A state of the code can be run.
unfoldable pub StateAble : Environment → State → Type 0
StateAble d k = AbleState (world_in d) (state_of (entities_in d) k)

-- A group of states of the code can be run.
unfoldable pub GroupAble : Environment → List State → Type 0
GroupAble d kids = AbleGroup (world_in d) (group_of (entities_in d) kids)

-- A state with its parent, an entity or the root, and with children that can run.
pub record HomeAble (d : Environment) (at : Home) : Type 0 where
  pub state : at.state < root (world_in d)
  pub parent : at.parent ≤ root (world_in d)
  pub children : GroupAble d at.children.now
