use Rattle.std.proofs.Common.{◌≡◌, OnOk, subst}
use Rattle.sap_ir.specs.Prelude.{Body, body_of}
use Rattle.sap_tags_effects.proofs.Pushed.{empty, fresh}
use Rattle.sap_tags.proofs.Commanded.{attempt_made}
use Rattle.sap_tags.proofs.commands.attempt.Goals as goal

pub returns : goal.returns
returns c =
    subst (λ (b : Body). OnOk c.decide.result (body_of c.decide.new.out.items ≡ b))
    (attempt_made c.args.setting.now c.args.at.now c.args.p c.args.k c.args.step.now (body_of c.args.out.now.items)
    (body_of c.look.new.out.items) (body_of c.raise_alone.new.out.items) (body_of c.new-accepted.result.items)
    (body_of c.refuse.new.out.items) (empty c.new-accepted.result.items c.new-accepted.ensures.items)
    (fresh c.new-refused.result.items _ _ c.new-refused.ensures.items c.in_ok-refuse.ensures) c.in_ok-look.ensures c.in_ok-raise_alone.ensures)
    c.decide.ensures
