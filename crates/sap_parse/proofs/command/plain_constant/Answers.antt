use Rattle.std.proofs.Common.{ap}
use Rattle.sap_tree.specs.declared.syntax.Numeral.{Numeral}
use Rattle.sap_parse.proofs.CommandMakes.{plain_constant_tree}
use Rattle.sap_parse.proofs.command.plain_constant.Goals as goal

pub returns-clause-tree : goal.returns-clause-tree
returns-clause-tree c = plain_constant_tree c.in_ok-n.ensures.tree (ap (λ (n : Numeral). n.place) c.in_ok-n.ensures.place) c.spot.ensures c.number-2.ensures
