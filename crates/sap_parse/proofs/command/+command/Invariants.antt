-- What the loop keeps, and why the calls end.
use Rattle.std.proofs.Common.{◌≡◌, ◌≤◌, length, ◌+◌, ◌*◌}
use Rattle.sap_parse.specs.Grammar as g
use Rattle.sap_parse.specs.Joining.{join_commands}
use Rattle.sap_parse.specs.Reading.{reads}
use Rattle.sap_parse.specs.Stages.{Stage}
use Rattle.sap_parse.specs.Table as s
use Rattle.sap_tree.specs.Prelude.{Arms, CommandList, arms_before, commands_of}
use Rattle.sap_parse.proofs.command.+command.Given as goal

abbrev pub decreases-commands : goal.decreases-commands
decreases-commands l = 6 * length l.tokens.now.left + 5

abbrev pub decreases-command : goal.decreases-command
decreases-command l = 6 * length l.tokens.now.left + 4

abbrev pub decreases-ending : goal.decreases-ending
decreases-ending l = 6 * length l.tokens.now.left + 2

abbrev pub decreases-behind : goal.decreases-behind
decreases-behind l = 6 * length l.tokens.now.left + 1

abbrev pub decreases-branch : goal.decreases-branch
decreases-branch l = 6 * length l.tokens.now.left + 3

abbrev pub decreases-otherwise : goal.decreases-otherwise
decreases-otherwise l = 6 * length l.tokens.now.left + 2

abbrev pub decreases-block : goal.decreases-block
decreases-block l = 6 * length l.tokens.now.left

abbrev pub invariant-commands-commands : goal.invariant-commands-commands
invariant-commands-commands l = record {
  goes : reads (s.cmds l.depth) l.fn.tokens ≡ reads (s.cmds l.depth) l.tokens;
  tree : (ys : CommandList) (q : Stage) → g.Cmds l.depth l.tokens ys q → g.Cmds l.depth l.fn.tokens (join_commands (commands_of l.list.items) ys) q;
  no_longer : length l.tokens.left ≤ length l.fn.tokens.left;
}

abbrev pub decreases-commands-commands : goal.decreases-commands-commands
decreases-commands-commands l = length l.tokens.left

abbrev pub decreases-case : goal.decreases-case
decreases-case l = 6 * length l.tokens.now.left + 3

abbrev pub decreases-arms : goal.decreases-arms
decreases-arms l = 6 * length l.tokens.now.left + 2

abbrev pub decreases-more_arms : goal.decreases-more_arms
decreases-more_arms l = 6 * length l.tokens.now.left + 2

abbrev pub decreases-arm : goal.decreases-arm
decreases-arm l = 6 * length l.tokens.now.left + 1

-- the arms that were added, and what is left
abbrev pub invariant-more_arms-arms : goal.invariant-more_arms-arms
invariant-more_arms-arms l = record {
  goes : reads (s.arms l.depth) l.fn.tokens ≡ reads (s.arms l.depth) l.tokens;
  tree : (ys : Arms) (q : Stage) → g.Arms l.depth l.tokens ys q → (xs : Arms) × (arms_before l.arms.items ys ≡ arms_before l.fn.arms.items xs) × g.Arms l.depth l.fn.tokens xs q;
  no_longer : length l.tokens.left ≤ length l.fn.tokens.left;
}

abbrev pub decreases-more_arms-arms : goal.decreases-more_arms-arms
decreases-more_arms-arms l = length l.tokens.left
