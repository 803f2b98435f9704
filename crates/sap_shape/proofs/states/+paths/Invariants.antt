use Rattle.std.proofs.Common.{◌≡◌, drop}
use Rattle.sap_names.specs.Best.{best_of}
use Rattle.sap_shape.specs.Lists.{written_in, second_states}
use Rattle.sap_shape.proofs.states.+paths.Given as goal

-- what is left gives the first of all
abbrev pub invariant-group_paths-loop-state : goal.invariant-group_paths-loop-state
invariant-group_paths-loop-state l =
    best_of l.best (second_states (drop l.state-index l.states) (written_in l.entered)) ≡ best_of l.initial.best (second_states l.states (written_in l.entered))
