use Rattle.sap_tree.specs.Trees.{expression_of, expressions_of}
use Rattle.sap_tree.proofs.Weights.{weight, parts_weight}
use Rattle.sap_names.proofs.expression.+faults.Given as goal

abbrev pub decreases-expression_faults : goal.decreases-expression_faults
decreases-expression_faults l = weight (expression_of l.e.now)

abbrev pub decreases-parts_faults : goal.decreases-parts_faults
decreases-parts_faults l = parts_weight (expressions_of l.parts.now)
