use Rattle.std.proofs.Common.{refl}
use Rattle.sap_vparse.proofs.Fronts.{some_head}
use Rattle.sap_vparse.proofs.Single.{word_is, word_read, word_refused}
use Rattle.sap_vparse.proofs.cursor.Cursor.word.Goals as goal

pub returns-then-not-at_word-clause-goes : goal.returns-then-not-at_word-clause-goes
returns-then-not-at_word-clause-goes c = λ known. word_refused c.args.self.now _ (c.if-not-at_word.ensures.no refl)

pub pass-requires : goal.pass-requires
pass-requires c = some_head c.args.self.now _ (c.if-not-at_word.ensures.yes refl) (λ h. absurd (cc))

pub returns-clause-goes : goal.returns-clause-goes
returns-clause-goes c = word_read c.args.self.now c.pass.new.self c.pass.result _ (c.if-not-at_word.ensures.yes refl) c.pass.ensures

pub returns-clause-tree : goal.returns-clause-tree
returns-clause-tree c = record { place = c.pass.result; is = word_is c.args.self.now c.pass.new.self c.pass.result _ (c.if-not-at_word.ensures.yes refl) c.pass.ensures }

pub returns-clause-there : goal.returns-clause-there
returns-clause-there c = word_is c.args.self.now c.pass.new.self c.pass.result _ (c.if-not-at_word.ensures.yes refl) c.pass.ensures
