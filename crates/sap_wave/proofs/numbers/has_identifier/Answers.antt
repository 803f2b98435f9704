use Rattle.sap_wave.proofs.Stepping.{not_identified, same_identifiers}
use Rattle.sap_wave.proofs.numbers.has_identifier.Goals as goal

pub returns-in-Some : goal.returns-in-Some
returns-in-Some c = same_identifiers c.args.id.now c.in-Some.place c.args.number c.in-Some.ensures.is

pub returns-in-None : goal.returns-in-None
returns-in-None c = not_identified c.args.id.now c.args.number c.in-None.ensures.none
