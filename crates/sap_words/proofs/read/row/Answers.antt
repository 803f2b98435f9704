use Rattle.clap.specs.Words.{first_value, found_of}
use Rattle.sap_words.proofs.Headings.{none_found}
use Rattle.sap_words.proofs.read.row.Goals as goal

pub returns-in-None : goal.returns-in-None
returns-in-None c = none_found c.args.name.now (first_value (found_of c.args.matches.now)) c.in-None.ensures
