use Rattle.sap_tree.specs.Trees.{expression_of, expressions_of}
use Rattle.sap_tree.proofs.Weights.{weight, parts_weight}
use Rattle.sap_resolve.proofs.numbers.+number.Given as goal

abbrev pub decreases-number : goal.decreases-number
decreases-number l = weight (expression_of l.e.now)

abbrev pub decreases-joined : goal.decreases-joined
decreases-joined l = parts_weight (expressions_of l.parts.now)
