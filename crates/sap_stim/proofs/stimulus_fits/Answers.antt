use Rattle.sap_stim.proofs.Fitting.{fits}
use Rattle.sap_stim.proofs.stimulus_fits.Goals as goal

pub returns : goal.returns
returns c = fits
