use Rattle.std.proofs.Common.{length}
use Rattle.sap_words.proofs.fits.+fit.Given as goal

abbrev pub decreases-fit : goal.decreases-fit
decreases-fit l = length l.operands.now
