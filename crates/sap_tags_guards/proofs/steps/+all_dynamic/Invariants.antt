use Rattle.std.proofs.Common.{length}
use Rattle.sap_tags_guards.proofs.steps.+all_dynamic.Given as goal

abbrev pub decreases-all_dynamic : goal.decreases-all_dynamic
decreases-all_dynamic l = length l.children.now
