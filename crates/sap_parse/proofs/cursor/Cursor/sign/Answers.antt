use Rattle.std.proofs.Common.{refl}
use Rattle.sap_parse.proofs.Single.{sign_goes, sign_is, sign_refused, token_tree}
use Rattle.sap_parse.proofs.cursor.Cursor.sign.Goals as goal

pub returns-then-at_sign-clause-goes : goal.returns-then-at_sign-clause-goes
returns-then-at_sign-clause-goes c =
    sign_goes c.pass.result c.args.self.now c.pass.new.self c.args.role c.args.sign (c.if-at_sign.ensures.yes refl) c.pass.ensures.passes c.pass.ensures.breaks

pub returns-then-at_sign-clause-tree : goal.returns-then-at_sign-clause-tree
returns-then-at_sign-clause-tree c =
    token_tree c.pass.result c.args.self.now c.pass.new.self c.args.role
    _ (λ t. sign_is c.args.self.now c.pass.new.self c.args.role c.args.sign t (c.if-at_sign.ensures.yes refl)) c.pass.ensures.passes

pub returns-else-at_sign-clause-goes : goal.returns-else-at_sign-clause-goes
returns-else-at_sign-clause-goes c = sign_refused c.args.self.now c.args.role c.args.sign (c.if-at_sign.ensures.no refl)
