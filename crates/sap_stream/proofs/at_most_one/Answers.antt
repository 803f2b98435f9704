use Rattle.sap_stream.proofs.Agreeing.{at_most_one}
use Rattle.sap_stream.proofs.at_most_one.Goals as goal

pub returns : goal.returns
returns c = at_most_one
