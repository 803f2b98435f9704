use Rattle.std.proofs.Common.{length}
use Rattle.sap_tags_guards.proofs.steps.+child_tag.Given as goal

abbrev pub decreases-child_tag : goal.decreases-child_tag
decreases-child_tag l = length l.children.now
