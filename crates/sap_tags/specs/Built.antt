-- Lists of commands and of states, and what becomes of them.
use Rattle.std.specs.Prelude.{ℕ, ◌+◌, List, [], ◌∷◌, if◌then◌else◌}
use Rattle.sap_meaning.specs.Program.{Step, no_node, and_node}
use Rattle.sap_meaning.specs.Checks as checks
use Rattle.sap_ir.specs.Plain.Nested.{Body, stop, cases, Forest}
use Rattle.sap_ir.specs.Plain.Views.{follow}
use Rattle.sap_program.specs.declared.program.Arm.{Arm}
use Rattle.sap_program.specs.declared.program.Command.{Command}
use Rattle.sap_program.specs.declared.program.State.{State}
use Rattle.sap_program.specs.Hangs.{flags}
use Rattle.sap_program.specs.Views.{command_of, block_of, arm_block, state_of, group_of}
use Rattle.sap_meaning.specs.Program as program
use Rattle.sap_tagged.specs.Keys.{wire_key}
use Rattle.sap_tagged.specs.Setting as pass
use Rattle.sap_tagged.specs.Levels.{var, always}
use Rattle.sap_tagged.specs.Commands.{effect_of, wires_block, command_plain, block_plain}
use Rattle.sap_tagged.specs.States.{group_plain, top_plain}
use Rattle.sap_tags_terms.specs.Code.{setting_in, entities_in, home_in}
use Rattle.sap_tags_terms.specs.declared.setting.Setting.{Setting}
use Rattle.sap_program.specs.declared.home.Home.{Home}

-- what they become; a state has none behind it

-- The plain commands of a stored command.
unfoldable pub command_body : Setting → Home → (p k : ℕ) → Command → Body
command_body s at p k c = command_plain (setting_in s) (home_in s at) p k (command_of (entities_in s) c)

-- The plain commands of stored commands.
unfoldable pub commands_body : Setting → Home → (p k : ℕ) → List Command → Body
commands_body s at p k cs = block_plain (setting_in s) (home_in s at) p k (block_of (entities_in s) cs)

-- The blocks of arms.
unfoldable pub arm_bodies : Setting → Home → (p k : ℕ) → List Arm → List Body
arm_bodies s at p k [] = []
arm_bodies s at p k (arm ∷ arms) =
    block_plain (setting_in s) (home_in s at) p k (arm_block (entities_in s) arm)
    ∷ arm_bodies s at p (k + wires_block (arm_block 0 arm)) arms

-- The plain states of a stored state.
unfoldable pub state_forest : Setting → (parent k : ℕ) → State → Forest
state_forest s parent k t = group_plain (setting_in s) parent k (and_node (state_of (entities_in s) t) no_node)

-- The plain states of stored states.
unfoldable pub states_forest : Setting → (parent k : ℕ) → List State → Forest
states_forest s parent k ts = group_plain (setting_in s) parent k (group_of (entities_in s) ts)

-- Of a top-level state.
unfoldable pub top_forest : Setting → (k : ℕ) → State → Forest
top_forest s k t =
    top_plain (setting_in s) (program.listed (flags (entities_in s) s.program.now.hang)) k
    (and_node (state_of (entities_in s) t) no_node)

-- The plain states of the root's children.
unfoldable pub tops_forest : Setting → (k : ℕ) → List State → Forest
tops_forest s k ts =
    top_plain (setting_in s) (program.listed (flags (entities_in s) s.program.now.hang)) k (group_of (entities_in s) ts)

-- What comes behind the raises of a step, where `accepted` comes behind its effect, and `refused` is what a refusal
-- does.
unfoldable pub decided : pass.Setting → checks.Home → (k : ℕ) → Step → (accepted refused : Body) → Body
decided d at k s accepted refused =
    if always d.world at s then follow (effect_of d at k s) accepted
    else cases (var d (wire_key k)) (follow (effect_of d at k s) accepted) refused stop
