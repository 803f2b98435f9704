-- The faults and the entities of lists of parts.
use Rattle.std.specs.Prelude.{List, [], ◌∷◌, ◌++◌, ℕ, Bool, true, not, Option, Some, None, eqb}
use Rattle.sap_tree.specs.declared.syntax.Arm.{Arm}
use Rattle.sap_tree.specs.declared.syntax.Cmd.{Cmd}
use Rattle.sap_tree.specs.declared.syntax.Expr.{Expr}
use Rattle.sap_tree.specs.declared.syntax.State.{State}
use Rattle.sap_tree.specs.declared.syntax.TagExpr.{TagExpr}
use Rattle.sap_tree.specs.Trees.{arm_block_of, constants_of, expressions_of, tags_of, commands_of, states_of}
use Rattle.sap_names.specs.Entities.{Entity, Lookup, group_entities, number_of}
use Rattle.sap_names.specs.declared.fault.Fault.{Fault}
use Rattle.sap_names.specs.NameFaults as faults

-- The faults of names and widths in a list of tag expressions.
unfoldable pub tags_faults : List (List ℕ) → Lookup → List TagExpr → List Fault
tags_faults levels what ts = faults.tags_faults levels what (tags_of ts)

-- The faults of names and widths in a list of commands.
unfoldable pub commands_faults : List (List ℕ) → Lookup → List Cmd → List Fault
commands_faults levels what cs = faults.commands_faults levels what (commands_of cs)

-- The faults of names and widths in a list of constants.
unfoldable pub constants_faults : Lookup → (asked : Option ℕ) → List Expr → List Fault
constants_faults what asked es = faults.constants_faults what asked (expressions_of es)

-- The arms of a `case`, without the block after `else`.
unfoldable pub arms_faults : List (List ℕ) → Lookup → (asked : Option ℕ) → List Arm → List Fault
arms_faults levels what asked [] = []
arms_faults levels what asked (arm ∷ arms) =
    faults.constants_faults what asked (constants_of arm)
    ++ faults.block_faults levels what (arm_block_of arm) ++ arms_faults levels what asked arms

-- The faults of names and widths in a list of states.
unfoldable pub states_faults : List (List ℕ) → (ℕ → ℕ → Bool) → Lookup → List State → List Fault
states_faults levels le what ss = faults.states_faults levels le what (states_of ss)

-- The entities that a list of states declares.
unfoldable pub states_entities : List State → List Entity
states_entities ss = group_entities (states_of ss)

-- Whether the first entity of a name is another than the one with this number.
abbrev pub differs : Option ℕ → ℕ → Bool
differs None number = true
differs (Some first) number = not (eqb first number)

-- The name has an earlier entity than that of this number.
abbrev pub is_later : List Entity → List ℕ → ℕ → Bool
is_later es name number = differs (number_of es name) number
