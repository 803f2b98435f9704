use Rattle.sap_resolved.proofs.premises.Lists.{exact}
use Rattle.sap_resolved.proofs.premises.Programs.{fine_law, sites_law}
use Rattle.sap_resolved.proofs.premises.well_formed_serves.Goals as goal

pub returns : goal.returns
returns c = record { fine = fine_law c.names_fit.ensures; exact = exact; sites = sites_law }
