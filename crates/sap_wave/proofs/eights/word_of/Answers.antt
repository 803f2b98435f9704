use Rattle.sap_wave.proofs.EightDigits.{word_is}
use Rattle.sap_wave.proofs.eights.word_of.Goals as goal

pub returns : goal.returns
returns c = word_is c.args.number c.requires
