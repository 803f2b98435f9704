use Rattle.std.proofs.Common.{◌≡◌, ◌+◌, drop, length}
use Rattle.sap_tree.proofs.Weights.{arm_list_weight, command_weight, commands_weight, else_weight}
use Rattle.sap_tree.specs.Trees.{command_of, commands_of, else_of}
use Rattle.sap_meaning.specs.Program.{Block, end_block}
use Rattle.sap_resolve.specs.Surroundings.{surroundings_of, rows_of}
use Rattle.sap_resolve.specs.Lists.{arms_from, arms_site_count, list_from, list_site_count}
use Rattle.sap_resolve.specs.Rows.{arms_points, arms_with, block_points, block_with}
use Rattle.sap_program.specs.Views.{arms_before, block_of, followed}
use Rattle.sap_resolve.proofs.commands.+body.Given as goal

-- with those of what is left
abbrev pub invariant-commands-loop-c : goal.invariant-commands-loop-c
invariant-commands-loop-c l =
    (followed (block_of (length l.standing.names.now) l.made.items)
    (block_with (rows_of l.standing) l.point (list_from l.standing.lattice.now (surroundings_of l.standing) l.next (drop l.c-index l.list)))
    ≡ block_with (rows_of l.standing) l.initial.point (list_from l.standing.lattice.now (surroundings_of l.standing) l.initial.next l.list))
    × (l.next + list_site_count (surroundings_of l.standing) (drop l.c-index l.list) ≡ l.initial.next + list_site_count (surroundings_of l.standing) l.list)
    × (l.point + block_points (list_from l.standing.lattice.now (surroundings_of l.standing) l.next (drop l.c-index l.list))
    ≡ l.initial.point + block_points (list_from l.standing.lattice.now (surroundings_of l.standing) l.initial.next l.list))

abbrev pub invariant-arms-loop-arm : goal.invariant-arms-loop-arm
invariant-arms-loop-arm l =
    ((last : Block) → arms_before (length l.standing.names.now) l.made.items
    (arms_with (rows_of l.standing) l.point (arms_from l.standing.lattice.now (surroundings_of l.standing) l.next (drop l.arm-index l.list) last))
    ≡ arms_with (rows_of l.standing) l.initial.point (arms_from l.standing.lattice.now (surroundings_of l.standing) l.initial.next l.list last))
    × (l.next + arms_site_count (surroundings_of l.standing) (drop l.arm-index l.list) ≡ l.initial.next + arms_site_count (surroundings_of l.standing) l.list)
    × (l.point + arms_points (arms_from l.standing.lattice.now (surroundings_of l.standing) l.next (drop l.arm-index l.list) end_block)
    ≡ l.initial.point + arms_points (arms_from l.standing.lattice.now (surroundings_of l.standing) l.initial.next l.list end_block))

abbrev pub decreases-arms : goal.decreases-arms
decreases-arms l = arm_list_weight l.list.now

abbrev pub decreases-command : goal.decreases-command
decreases-command l = command_weight (command_of l.c.now)

abbrev pub decreases-otherwise : goal.decreases-otherwise
decreases-otherwise l = else_weight (else_of l.other.now) + 1

abbrev pub decreases-commands : goal.decreases-commands
decreases-commands l = commands_weight (commands_of l.list.now)
