use Rattle.std.proofs.Common.{◌≡◌, drop}
use Rattle.sap_shape.specs.Lists.{falls_arms, falls_list}
use Rattle.sap_shape.proofs.falls.+falls.Given as goal

-- what is left tells of all
abbrev pub invariant-has_fall-loop-command : goal.invariant-has_fall-loop-command
invariant-has_fall-loop-command l = falls_list (drop l.command-index l.commands) ≡ falls_list l.commands

abbrev pub invariant-arms_fall-loop-arm : goal.invariant-arms_fall-loop-arm
invariant-arms_fall-loop-arm l = falls_arms (drop l.arm-index l.arms) ≡ falls_arms l.arms
