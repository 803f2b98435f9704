use Rattle.std.proofs.Common.{◌∙◌, map, string_bytes}
use Rattle.sap_words.specs.Headings.{texts}
use Rattle.sap_words.proofs.Headings.{named_fits, unnamed}
use Rattle.sap_words.proofs.fits.is_row.Goals as goal

pub returns-in-Some : goal.returns-in-Some
returns-in-Some c = c.are_operands_of.ensures ∙ named_fits string_bytes c.args.name.now (texts c.in-Some.operands) c.args.words.now c.in-Some.ensures

pub returns-in-None : goal.returns-in-None
returns-in-None c = unnamed c.args.name.now (map string_bytes c.args.words.now) c.in-None.ensures
