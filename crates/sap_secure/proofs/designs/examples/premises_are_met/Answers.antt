use Rattle.sap_lattice.specs.Examples.{low_high}
use Rattle.sap_secure.specs.Designs.Examples.{sample}
use Rattle.sap_secure.proofs.designs.Sampled.{formed}
use Rattle.sap_secure.proofs.designs.examples.premises_are_met.Goals as goal

pub returns : goal.returns
returns c = record {
  lawful = c.premises_are_met.ensures.lawful;
  formed = formed;
  meets = c.well_formed_serves.ensures.fine low_high sample c.premises_are_met.ensures.lawful formed;
}
