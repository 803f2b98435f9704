use Rattle.std.proofs.Common.{refl}
use Rattle.sap_vparse.proofs.Fronts.{some_head}
use Rattle.sap_vparse.proofs.Single.{sign_is, sign_read, sign_refused}
use Rattle.sap_vparse.proofs.cursor.Cursor.sign.Goals as goal

pub returns-then-not-at_sign-clause-goes : goal.returns-then-not-at_sign-clause-goes
returns-then-not-at_sign-clause-goes c = λ known. sign_refused c.args.self.now _ (c.if-not-at_sign.ensures.no refl)

pub pass-requires : goal.pass-requires
pass-requires c = some_head c.args.self.now _ (c.if-not-at_sign.ensures.yes refl) (λ h. absurd (cc))

pub returns-clause-goes : goal.returns-clause-goes
returns-clause-goes c = sign_read c.args.self.now c.pass.new.self c.pass.result _ (c.if-not-at_sign.ensures.yes refl) c.pass.ensures

pub returns-clause-tree : goal.returns-clause-tree
returns-clause-tree c = record { place = c.pass.result; is = sign_is c.args.self.now c.pass.new.self c.pass.result _ (c.if-not-at_sign.ensures.yes refl) c.pass.ensures }
