use Rattle.sap_link.proofs.Composites.{composites_rest}
use Rattle.sap_link.proofs.Fitting.{composites_fit}
use Rattle.sap_link.proofs.states_keep.Goals as goal

pub returns : goal.returns
returns c = record { rest = composites_rest c.states_keep.ensures.cycles; fit = composites_fit c.numbers_fit.ensures }
