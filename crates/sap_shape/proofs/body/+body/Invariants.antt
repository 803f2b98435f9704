use Rattle.std.proofs.Common.{◌≡◌, drop}
use Rattle.sap_names.specs.Best.{best_of}
use Rattle.sap_shape.specs.Positions.{body_of}
use Rattle.sap_shape.specs.Lists.{arms_shape, list_shape}
use Rattle.sap_shape.proofs.body.+body.Given as goal

-- what is left gives the first of all
abbrev pub invariant-list_shape-loop-command : goal.invariant-list_shape-loop-command
invariant-list_shape-loop-command l =
    best_of l.best (list_shape l.names (body_of l.position) (drop l.command-index l.commands)) ≡ best_of l.initial.best (list_shape l.names (body_of l.position) l.commands)

abbrev pub invariant-arms_shape-loop-arm : goal.invariant-arms_shape-loop-arm
invariant-arms_shape-loop-arm l =
    best_of l.best (arms_shape l.names (body_of l.position) (drop l.arm-index l.arms)) ≡ best_of l.initial.best (arms_shape l.names (body_of l.position) l.arms)
