use Rattle.sap_resolved.specs.Fill.{program_of}
use Rattle.sap_secure.proofs.designs.runs_agree.Goals as goal

pub returns : goal.returns
returns c = record {
  later = λ ls d laws formed. c.runs_agree.ensures.later (program_of ls d) (c.well_formed_serves.ensures.fine ls d laws formed);
  first = λ ls d laws formed. c.runs_agree.ensures.first (program_of ls d) (c.well_formed_serves.ensures.fine ls d laws formed);
}
