use Rattle.std.proofs.Common.{ap}
use Rattle.sap_tree.specs.Trees.{simple_of}
use Rattle.sap_hang.specs.Walks.{declared_in, entities_in, home_of}
use Rattle.sap_hang.proofs.Simples.{fall_row}
use Rattle.sap_hang.proofs.simple.add_fall.Goals as goal

pub returns-in_ok-push : goal.returns-in_ok-push
returns-in_ok-push c =
    fall_row (entities_in c.args.standing.now) (declared_in c.args.standing.now) (home_of c.args.standing.now)
    (simple_of c.args.command.now) _ c.args.standing.now.falls.now c.new-here.result c.union.new.self
    c.args.rows.now.items c.push.new.self.items (ap simple_of c.in-Fall.is) c.requires.1 c.new-here.ensures c.in_ok-union.ensures c.in_ok-push.ensures.items
