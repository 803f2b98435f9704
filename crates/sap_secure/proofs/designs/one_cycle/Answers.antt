use Rattle.sap_resolved.specs.Fill.{program_of}
use Rattle.sap_secure.proofs.designs.one_cycle.Goals as goal

pub returns : goal.returns
returns c = λ ls d laws formed. c.one_cycle.ensures (program_of ls d) (c.well_formed_serves.ensures.fine ls d laws formed)
