use Rattle.sap_link.proofs.Serving.{designs_serve}
use Rattle.sap_link.proofs.designs.linked_designs_serve.Goals as goal

pub returns : goal.returns
returns c = designs_serve c.well_formed_serves.ensures.fine c.sizes_fit.ensures
