-- Commands and states in lists: how many wires they have, that their widths are in range, that their cases have few
-- arms.
use Rattle.std.specs.Prelude.{ℕ, List}
use Rattle.sap_meaning.specs.Program.{last_arm, end_block}
use Rattle.sap_resolved.specs.Sized.Ranges.{Ranged, RangedArms, RangedBlock, RangedState, RangedGroup}
use Rattle.sap_program.specs.declared.program.Arm.{Arm}
use Rattle.sap_program.specs.declared.program.Command.{Command}
use Rattle.sap_program.specs.declared.program.State.{State}
use Rattle.sap_program.specs.Views.{command_of, block_of, arms_before, state_of, group_of}
use Rattle.sap_tagged.specs.Commands.{wires, wires_arms, wires_block}
use Rattle.sap_tagged.specs.Few.{Few, FewArms, FewBlock, FewState, FewGroup}
use Rattle.sap_tagged.specs.States.{wires_state, wires_group}
use Rattle.sap_tags_terms.specs.Code.{world_in, entities_in}
use Rattle.sap_tags_terms.specs.declared.setting.Setting.{Setting}

-- how many wires they have

-- How many helping wires a stored command takes.
unfoldable pub command_wires : Command → ℕ
command_wires c = wires (command_of 0 c)

-- How many helping wires stored commands take.
unfoldable pub commands_wires : List Command → ℕ
commands_wires cs = wires_block (block_of 0 cs)

-- How many helping wires stored arms take.
unfoldable pub arm_wires : List Arm → ℕ
arm_wires arms = wires_arms (arms_before 0 arms (last_arm end_block))

-- How many helping wires a stored state takes, with all states below it.
unfoldable pub state_wires : State → ℕ
state_wires t = wires_state (state_of 0 t)

-- How many helping wires stored states take, with all states below them.
unfoldable pub states_wires : List State → ℕ
states_wires ts = wires_group (group_of 0 ts)

-- their widths are from 1 to 64

-- The entities and children that a stored command names are there.
unfoldable pub CommandRanged : Setting → Command → Type 0
CommandRanged s c = Ranged (world_in s) (command_of (entities_in s) c)

-- The entities and children that stored commands name are there.
unfoldable pub CommandsRanged : Setting → List Command → Type 0
CommandsRanged s cs = RangedBlock (world_in s) (block_of (entities_in s) cs)

-- The entities and children that stored arms name are there.
unfoldable pub ArmsRanged : Setting → List Arm → Type 0
ArmsRanged s arms = RangedArms (world_in s) (arms_before (entities_in s) arms (last_arm end_block))

-- The entities and children that a stored state's bodies name are there.
unfoldable pub StateRanged : Setting → State → Type 0
StateRanged s t = RangedState (world_in s) (state_of (entities_in s) t)

-- The entities and children that stored states' bodies name are there.
unfoldable pub StatesRanged : Setting → List State → Type 0
StatesRanged s ts = RangedGroup (world_in s) (group_of (entities_in s) ts)

-- their cases have few arms

-- Each `case` within a stored command has few arms, each with a constant.
unfoldable pub CommandFew : Command → Type 0
CommandFew c = Few (command_of 0 c)

-- Each `case` within stored commands has few arms, each with a constant.
unfoldable pub CommandsFew : List Command → Type 0
CommandsFew cs = FewBlock (block_of 0 cs)

-- Each `case` within stored arms has few arms, each with a constant.
unfoldable pub ArmsFew : List Arm → Type 0
ArmsFew arms = FewArms (arms_before 0 arms (last_arm end_block))

-- Each `case` within a stored state's bodies has few arms, each with a constant.
unfoldable pub StateFew : State → Type 0
StateFew t = FewState (state_of 0 t)

-- Each `case` within stored states' bodies has few arms, each with a constant.
unfoldable pub StatesFew : List State → Type 0
StatesFew ts = FewGroup (group_of 0 ts)
