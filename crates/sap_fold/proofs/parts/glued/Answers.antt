use Rattle.std.proofs.Common.{◌∙◌, sym, arith}
use Rattle.sap_fold.proofs.Parting.{front_below}
use Rattle.sap_fold.proofs.parts.glued.Goals as goal

pub concat-requires-clause-front : goal.concat-requires-clause-front
concat-requires-clause-front c =
    front_below c.in-Constant.width c.in-Constant-b.width_behind c.in-Constant.value (sym c.fits.ensures ∙ c.if-not-fits.false) (omega (arith, c.if-width-width_behind-gt64.false))
