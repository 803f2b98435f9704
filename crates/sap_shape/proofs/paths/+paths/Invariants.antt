use Rattle.std.proofs.Common.{◌≡◌, drop}
use Rattle.sap_names.specs.Best.{best_of}
use Rattle.sap_shape.specs.Lists.{written_in, found_in_list, found_in_arms}
use Rattle.sap_shape.specs.Walk.{either}
use Rattle.sap_shape.proofs.paths.+paths.Given as goal

-- what is left gives all
abbrev pub invariant-list_paths-loop-command : goal.invariant-list_paths-loop-command
invariant-list_paths-loop-command l = record {
  past : (found_in_list (drop l.command-index l.commands) (written_in l.here)).past ≡ (found_in_list l.commands (written_in l.initial.here)).past;
  entering : either (written_in l.entered) (found_in_list (drop l.command-index l.commands) (written_in l.here)).entering
      ≡ either (written_in l.initial.entered) (found_in_list l.commands (written_in l.initial.here)).entering;
  second : best_of l.best (found_in_list (drop l.command-index l.commands) (written_in l.here)).again
      ≡ best_of l.initial.best (found_in_list l.commands (written_in l.initial.here)).again;
}

-- each arm begins at the start
abbrev pub invariant-arms_paths-loop-arm : goal.invariant-arms_paths-loop-arm
invariant-arms_paths-loop-arm l = record {
  past : either (written_in l.past) (found_in_arms (drop l.arm-index l.arms) (written_in l.start)).past
      ≡ either (written_in l.initial.past) (found_in_arms l.arms (written_in l.start)).past;
  entering : either (written_in l.entered) (found_in_arms (drop l.arm-index l.arms) (written_in l.start)).entering
      ≡ either (written_in l.initial.entered) (found_in_arms l.arms (written_in l.start)).entering;
  second : best_of l.best (found_in_arms (drop l.arm-index l.arms) (written_in l.start)).again
      ≡ best_of l.initial.best (found_in_arms l.arms (written_in l.start)).again;
}
