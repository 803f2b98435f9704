use Rattle.sap_resolved.specs.Fill.{program_of}
use Rattle.sap_secure.proofs.check_sites.InTurn.{in_turn, once}
use Rattle.sap_secure.proofs.check_sites.Refused.{refused_met}
use Rattle.sap_secure.proofs.check_sites.each_site_once.Goals as goal

pub returns : goal.returns
returns c = record {
  turn = λ ls d laws formed. in_turn ls d (c.well_formed_serves.ensures.fine ls d laws formed) formed;
  once = λ ls d laws formed. once ls d (c.well_formed_serves.ensures.fine ls d laws formed) formed;
  refused = λ ls d laws formed inputs s. refused_met (program_of ls d) inputs s
      ((c.refusals_in_order.ensures (program_of ls d) (c.well_formed_serves.ensures.fine ls d laws formed) inputs s).1 1 (c.well_formed_serves.ensures.sites ls d formed));
}
