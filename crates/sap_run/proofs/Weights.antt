-- Weights of the code's trees, which fall with each call of a run.
use Rattle.std.proofs.Common.{◌≡◌, ℕ, zero, suc, ◌+◌, ◌<◌, ◌≤◌, List, [], ◌∷◌, length, get_or, refl, arith, inl, inr}
use Rattle.std.proofs.lemmas.Bool.{cases_Bool}
use Rattle.std.specs.declared.vec.Vec.{Vec}
use Rattle.std.specs.declared.alloc.Global.{Global}
use Rattle.sap_meaning.specs.Prelude.{Command, lone, try, if_else, try_then, case_of, Arms, last_arm, and_arm, Block, end_block, command_then, State, state_node, Group, no_node, and_node, is_constant}
use Rattle.sap_program.specs.Views.{command_of, block_of, arms_before, constants_of, state_of, group_of}
use Rattle.sap_program.specs.declared.program.Number.{Number}
use Rattle.sap_program.specs.declared.program.Step.{Step}
use Rattle.sap_program.specs.declared.program.Arm.{Arm as ArmCode}
use Rattle.sap_program.specs.declared.program.Command.{Command as CommandCode}
use Rattle.sap_program.specs.declared.program.State.{State as StateCode, out-State}
use Rattle.sap_program.specs.declared.program.Command.TheVariants as command
use Rattle.sap_program.specs.declared.program.Command.TheViews as shown
use Rattle.sap_run.specs.Runs.{picked_in}
use Rattle.sap_program.proofs.Shown.{command_of-do, command_of-try, command_of-if, command_of-then, command_of-case, state_of-out}

unfoldable mutual
  pub of_command : Command → ℕ
  of_command (lone k) = 3
  of_command (try k hang h) = of_block h + 3
  of_command (if_else hang e a b) = of_block a + of_block b + 3
  of_command (try_then k hang a b) = of_block a + of_block b + 3
  of_command (case_of hang e arms) = of_arms arms + 3

  pub of_arms : Arms → ℕ
  of_arms (last_arm b) = of_block b
  of_arms (and_arm constants b arms) = of_block b + of_arms arms

  pub of_block : Block → ℕ
  of_block end_block = 0
  of_block (command_then c cs) = of_command c + of_block cs + 1

unfoldable mutual
  pub of_state : State → ℕ
  of_state (state_node s b g) = of_block b + of_group g + 1

  pub of_group : Group → ℕ
  of_group no_node = 0
  of_group (and_node t g) = of_state t + of_group g + 1

-- what hangs does not count
pub command_weight : CommandCode → ℕ
command_weight c = of_command (command_of 0 c)

pub commands_weight : List CommandCode → ℕ
commands_weight cs = of_block (block_of 0 cs)

pub arms_weight : List ArmCode → List CommandCode → ℕ
arms_weight arms last = of_arms (arms_before 0 arms (last_arm (block_of 0 last)))

pub state_weight : StateCode → ℕ
state_weight k = of_state (state_of 0 k)

pub states_weight : List StateCode → ℕ
states_weight kids = of_group (group_of 0 kids)

pub commands_weight-none : commands_weight [] ≡ 0
unfolding commands_weight of_block block_of
commands_weight-none = refl

pub command_weight-do : (k : Step) → command_weight (command.Do k) ≡ 3
unfolding command_weight of_command
command_weight-do k = rw (command_of-do 0 k) refl

pub command_weight-try : (k : Step) (hang : List ℕ) (h : Vec CommandCode Global) → command_weight (shown.Try k hang h) ≡ commands_weight h.items + 3
unfolding command_weight commands_weight of_command
command_weight-try k hang h = rw (command_of-try 0 k hang h) refl

pub command_weight-if : (hang : List ℕ) (e : Number) (a b : Vec CommandCode Global) → command_weight (shown.If hang e a b) ≡ commands_weight a.items + commands_weight b.items + 3
unfolding command_weight commands_weight of_command
command_weight-if hang e a b = rw (command_of-if 0 hang e a b) refl

pub command_weight-then : (k : Step) (hang : List ℕ) (a b : Vec CommandCode Global)
    → command_weight (shown.TryThen k hang a b) ≡ commands_weight a.items + commands_weight b.items + 3
unfolding command_weight commands_weight of_command
command_weight-then k hang a b = rw (command_of-then 0 k hang a b) refl

pub command_weight-case : (hang : List ℕ) (e : Number) (arms : Vec ArmCode Global) (last : Vec CommandCode Global)
    → command_weight (shown.Case hang e arms last) ≡ arms_weight arms.items last.items + 3
unfolding command_weight arms_weight of_command
command_weight-case hang e arms last = rw (command_of-case 0 hang e arms last) refl

-- what is picked among arms weighs no more than they
pub picked_weight : (arms : List ArmCode) (last : List CommandCode) (n : ℕ) → commands_weight (picked_in arms last n) ≤ arms_weight arms last
unfolding commands_weight arms_weight of_arms arms_before
picked_weight [] last n = omega arith
picked_weight (arm ∷ arms) last n = elim (cases_Bool (is_constant (constants_of arm) n)) [
  | inl e ↦ rw e (omega arith)
  | inr e ↦ rw e (let r = picked_weight arms last n in omega (arith, r))
]

pub command_weight-in : (cs : List CommandCode) (n : ℕ) (d : CommandCode) → n < length cs → command_weight (get_or cs n d) < commands_weight cs
unfolding command_weight commands_weight of_block block_of
command_weight-in [] n d h = absurd (omega (arith, h))
command_weight-in (c ∷ cs) zero d h = omega arith
command_weight-in (c ∷ cs) (suc n) d h = let r = command_weight-in cs n d (omega (arith, h)) in omega (arith, r)

pub state_weight-in : (kids : List StateCode) (n : ℕ) (d : StateCode) → n < length kids → state_weight (get_or kids n d) < states_weight kids
unfolding state_weight states_weight of_group group_of
state_weight-in [] n d h = absurd (omega (arith, h))
state_weight-in (c ∷ cs) zero d h = omega arith
state_weight-in (c ∷ cs) (suc n) d h = let r = state_weight-in cs n d (omega (arith, h)) in omega (arith, r)

pub state_weight-out : (k : StateCode) → state_weight k ≡ commands_weight (out-State k).body.items + states_weight (out-State k).children.items + 1
unfolding state_weight of_state commands_weight states_weight
state_weight-out k = rw (state_of-out 0 k) refl

pub ruleset weights = (
  commands_weight-none,
  command_weight-do,
  command_weight-try,
  command_weight-if,
  command_weight-then,
  command_weight-case,
  command_weight-in,
  state_weight-in,
  state_weight-out,
)
