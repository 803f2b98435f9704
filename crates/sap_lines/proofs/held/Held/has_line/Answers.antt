use Rattle.sap_lines.proofs.Ended.{has_end}
use Rattle.sap_lines.proofs.held.Held.has_line.Goals as goal

pub returns : goal.returns
returns c = has_end c.self.inside.start c.self.inside.ended c.self.inside.bytes.items c.args.self.now c.self.invariant.2 c.self.invariant.0 c.self.view_is
