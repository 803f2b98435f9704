use Rattle.sap_placed.proofs.Designs.{entities_rise, points_rise, sites_rise}
use Rattle.sap_placed.proofs.places_rise.Goals as goal

pub returns-clause-sites : goal.returns-clause-sites
returns-clause-sites c = sites_rise

pub returns-clause-points : goal.returns-clause-points
returns-clause-points c = points_rise

pub returns-clause-entities : goal.returns-clause-entities
returns-clause-entities c = entities_rise
