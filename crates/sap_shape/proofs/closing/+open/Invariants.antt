use Rattle.std.proofs.Common.{◌≡◌, drop}
use Rattle.sap_names.specs.Best.{best_of}
use Rattle.sap_shape.specs.Lists.{open_arms, open_list}
use Rattle.sap_shape.proofs.closing.+open.Given as goal

-- what is left gives the first of all
abbrev pub invariant-open_list-loop-command : goal.invariant-open_list-loop-command
invariant-open_list-loop-command l = best_of l.best (open_list (drop l.command-index l.commands)) ≡ best_of l.initial.best (open_list l.commands)

abbrev pub invariant-open_arms-loop-arm : goal.invariant-open_arms-loop-arm
invariant-open_arms-loop-arm l = best_of l.best (open_arms (drop l.arm-index l.arms)) ≡ best_of l.initial.best (open_arms l.arms)
