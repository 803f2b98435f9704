use Rattle.std.proofs.Common.{refl}
use Rattle.sap_parse.proofs.Single.{word_goes, word_is, word_refused, token_tree}
use Rattle.sap_parse.proofs.cursor.Cursor.word.Goals as goal

pub returns-then-at_word-clause-goes : goal.returns-then-at_word-clause-goes
returns-then-at_word-clause-goes c =
    word_goes c.pass.result c.args.self.now c.pass.new.self c.args.role c.args.word (c.if-at_word.ensures.yes refl) c.pass.ensures.passes c.pass.ensures.breaks

pub returns-then-at_word-clause-tree : goal.returns-then-at_word-clause-tree
returns-then-at_word-clause-tree c =
    token_tree c.pass.result c.args.self.now c.pass.new.self c.args.role
    _ (λ t. word_is c.args.self.now c.pass.new.self c.args.role c.args.word t (c.if-at_word.ensures.yes refl)) c.pass.ensures.passes

pub returns-else-at_word-clause-goes : goal.returns-else-at_word-clause-goes
returns-else-at_word-clause-goes c = word_refused c.args.self.now c.args.role c.args.word (c.if-at_word.ensures.no refl)
