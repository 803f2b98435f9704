use Rattle.sap_secure.proofs.check_sites.Designs.{sites_agree_law}
use Rattle.sap_secure.proofs.check_sites.sites_agree.Goals as goal

pub returns : goal.returns
returns c = sites_agree_law
