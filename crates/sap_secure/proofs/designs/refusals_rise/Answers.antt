use Rattle.sap_resolved.specs.Fill.{program_of}
use Rattle.sap_secure.proofs.designs.Rising.{each_rises}
use Rattle.sap_secure.proofs.designs.refusals_rise.Goals as goal

pub returns : goal.returns
returns c = λ ls d laws formed.
    each_rises (program_of ls d) (λ inputs s.
    (c.refusals_in_order.ensures (program_of ls d) (c.well_formed_serves.ensures.fine ls d laws formed) inputs s).1 1 (c.well_formed_serves.ensures.sites ls d formed))
