use Rattle.std.proofs.Common.{◌≡◌, ◌++◌, drop}
use Rattle.sap_check.specs.Lists.{arms_points, list_points}
use Rattle.sap_check.proofs.points.+body.Given as goal

-- with those of what is left
abbrev pub invariant-add_list-loop-command : goal.invariant-add_list-loop-command
invariant-add_list-loop-command l =
    l.points.items ++ list_points (drop l.command-index l.commands) ≡ l.initial.points.items ++ list_points l.commands

abbrev pub invariant-add_arms-loop-arm : goal.invariant-add_arms-loop-arm
invariant-add_arms-loop-arm l = l.points.items ++ arms_points (drop l.arm-index l.arms) ≡ l.initial.points.items ++ arms_points l.arms
