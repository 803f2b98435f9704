use Rattle.std.proofs.Common.{◌≡◌, OnOk, subst}
use Rattle.sap_ir.specs.Prelude.{Body, body_of}
use Rattle.sap_tags_terms.specs.Code.{entities_in, setting_in, home_in}
use Rattle.sap_tags_effects.proofs.Pushed.{goto_effect}
use Rattle.sap_tags_effects.proofs.outcomes.effect.Goals as goal

pub returns-in_ok-follow_wire-in-Goto : goal.returns-in_ok-follow_wire-in-Goto
returns-in_ok-follow_wire-in-Goto c =
    let s = c.args.setting.now in
    subst (λ (b : Body). OnOk c.go.result (body_of c.go.new.out.items ≡ b))
    (goto_effect (setting_in s) (home_in s c.args.at.now) (entities_in s) c.args.k c.args.step.now c.in-Goto.site c.in-Goto.target
    (body_of c.args.out.now.items) (body_of c.reset_below.new.out.items) (body_of c.follow_wire-in-Goto.new.out.items) c.in-Goto.is
    c.in_ok-reset_below-in-Goto.ensures c.in_ok-follow_wire-in-Goto.ensures)
    c.go.ensures
