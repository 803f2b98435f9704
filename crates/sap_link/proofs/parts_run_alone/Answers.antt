use Rattle.sap_link.proofs.Receiving.{parts_alone}
use Rattle.sap_link.proofs.Fitting.{streams_of_parts_fit}
use Rattle.sap_link.proofs.parts_run_alone.Goals as goal

pub returns : goal.returns
returns c = record { alone = parts_alone; fit = streams_of_parts_fit c.numbers_fit.ensures }
