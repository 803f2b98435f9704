use Rattle.sap_hang.proofs.Sets.{has_word, has_beyond}
use Rattle.sap_hang.proofs.set.Set.has.Goals as goal

pub returns-in-Some : goal.returns-in-Some
returns-in-Some c =
    has_word c.args.self.now c.deref.result.now c.args.number c.in-Some.word.now c.deref.ensures.value c.in-Some.ensures.lookup.0 c.in-Some.ensures.lookup.1

pub returns-in-None : goal.returns-in-None
returns-in-None c = has_beyond c.args.self.now c.deref.result.now c.args.number c.deref.ensures.value c.in-None.ensures.lookup.0
