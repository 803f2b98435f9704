use Rattle.sap_stream.specs.Spans.{cycles_of}
use Rattle.sap_stream.proofs.Spans.{past}
use Rattle.sap_stream.proofs.apart.Ahead.skip.Goals as goal

pub returns : goal.returns
returns c = past c.args.count c.args.self.now.left c.args.self.now.inputs.now (cycles_of c.args.self.now.behind.now) c.requires
