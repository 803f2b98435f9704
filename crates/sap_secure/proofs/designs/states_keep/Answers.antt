use Rattle.sap_resolved.specs.Fill.{program_of}
use Rattle.sap_secure.proofs.designs.states_keep.Goals as goal

pub returns : goal.returns
returns c = record {
  rest = λ ls d laws formed. c.states_keep.ensures.cycles (program_of ls d) (c.well_formed_serves.ensures.fine ls d laws formed);
  fit = λ ls d laws formed. c.numbers_fit.ensures (program_of ls d) (c.well_formed_serves.ensures.fine ls d laws formed) (c.sizes_fit.ensures ls d laws formed.names);
}
