use Rattle.std.proofs.Common.{length}
use Rattle.sap_tags_guards.proofs.steps.+child_enters.Given as goal

abbrev pub decreases-child_enters : goal.decreases-child_enters
decreases-child_enters l = length l.children.now
