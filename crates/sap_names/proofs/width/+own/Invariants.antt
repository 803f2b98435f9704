use Rattle.sap_tree.specs.Trees.{expression_of, expressions_of}
use Rattle.sap_tree.proofs.Weights.{weight, parts_weight}
use Rattle.sap_names.proofs.width.+own.Given as goal

abbrev pub decreases-own : goal.decreases-own
decreases-own l = weight (expression_of l.e.now)

abbrev pub decreases-own_parts : goal.decreases-own_parts
decreases-own_parts l = parts_weight (expressions_of l.parts.now)
