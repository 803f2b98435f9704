use Rattle.std.proofs.Common.{◌+◌, ◌*◌}
use Rattle.sap_tree.specs.Trees.{expression_of, expressions_of}
use Rattle.sap_tree.proofs.Weights.{weight, parts_weight}
use Rattle.sap_show.proofs.expression.+expression.Given as goal

abbrev pub decreases-expression : goal.decreases-expression
decreases-expression l = 2 * weight (expression_of l.x.now)

abbrev pub decreases-operand : goal.decreases-operand
decreases-operand l = 2 * weight (expression_of l.x.now) + 1

abbrev pub decreases-parts : goal.decreases-parts
decreases-parts l = 2 * parts_weight (expressions_of l.list.now)

abbrev pub decreases-more_parts : goal.decreases-more_parts
decreases-more_parts l = 2 * parts_weight (expressions_of l.list.now)
