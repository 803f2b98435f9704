use Rattle.sap_resolved.specs.Fill.{program_of}
use Rattle.sap_secure.proofs.designs.lists_serve.Goals as goal

pub returns : goal.returns
returns c = λ ls d. c.lists_serve.ensures (program_of ls d) (c.well_formed_serves.ensures.exact ls d)
