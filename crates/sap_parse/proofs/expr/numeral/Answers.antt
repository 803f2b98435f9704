use Rattle.std.proofs.Common.{ap}
use Rattle.sap_tree.specs.declared.syntax.Numeral.{Numeral}
use Rattle.sap_parse.proofs.Makes.{number_tree}
use Rattle.sap_parse.proofs.expr.numeral.Goals as goal

pub returns-clause-tree : goal.returns-clause-tree
returns-clause-tree c = number_tree c.in_ok-n.ensures.tree (ap (λ (n : Numeral). n.place) c.in_ok-n.ensures.place) c.spot.ensures c.number-2.ensures
