-- The texts of lists of commands and of states, as the code has them.
use Rattle.std.specs.Prelude.{List, [], ◌∷◌, ◌++◌, ℕ, codes}
use Rattle.sap_tree.specs.Trees.{arm_block_of, commands_of, constants_of, states_of}
use Rattle.sap_tree.specs.declared.syntax.Arm.{Arm}
use Rattle.sap_tree.specs.declared.syntax.Cmd.{Cmd}
use Rattle.sap_tree.specs.declared.syntax.State.{State}
use Rattle.sap_show.specs.Canonical.{block_text, commands_text, parts_text, states_text}

-- How stored commands are written.
unfoldable pub list_text : List ℕ → List Cmd → List ℕ
list_text margin commands = commands_text margin (commands_of commands)

-- How stored states are written.
unfoldable pub group_text : List ℕ → List State → List ℕ
group_text margin states = states_text margin (states_of states)

-- The arms of a `case`, without the block after `else`.
unfoldable pub list_arms_text : List ℕ → List Arm → List ℕ
list_arms_text margin [] = []
list_arms_text margin (arm ∷ arms) =
    margin ++ (parts_text (constants_of arm)
    ++ (codes ":" ++ (block_text margin (arm_block_of arm) ++ (codes "\n" ++ list_arms_text margin arms))))
