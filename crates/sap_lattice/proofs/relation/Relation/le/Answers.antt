use Rattle.std.proofs.Common.{sym, ◌∙◌}
use Rattle.sap_lattice.proofs.RowLemmas.{order_in-le}
use Rattle.sap_lattice.proofs.relation.Relation.le.Goals as goal

pub returns : goal.returns
returns c = c.tells.ensures ∙ sym (order_in-le c.args.self.now c.args.x c.args.y c.requires.left c.requires.right)
