use Rattle.std.proofs.Common.{◌≡◌, ◌∙◌, OnOk, refl, sym, subst}
use Rattle.sap_ir.specs.Prelude.{Body, body_of, follow}
use Rattle.sap_tags_terms.specs.Code.{entities_in, setting_in, home_in}
use Rattle.sap_tags_effects.proofs.Raised.{goto_dynamic, goto_enforced, quiet, entities_count}
use Rattle.sap_tags_effects.proofs.raises.raise_alone.Goals as goal

pub returns-then-is_dynamic : goal.returns-then-is_dynamic
returns-then-is_dynamic c =
    let s = c.args.setting.now in
    subst (λ (b : Body). OnOk c.raise_entity.result (body_of c.raise_entity.new.out.items ≡ follow (body_of c.args.out.now.items) b))
    (goto_dynamic (setting_in s) (home_in s c.args.at.now) c.args.wire (entities_in s) c.args.step.now c.in-Goto.site c.in-Goto.target
    c.in-Goto.is (entities_count s.program.now.entities.items) (sym c.is_dynamic.ensures ∙ c.if-is_dynamic.true))
    c.raise_entity.ensures

pub returns-else-is_dynamic : goal.returns-else-is_dynamic
returns-else-is_dynamic c =
    let s = c.args.setting.now in
    goto_enforced (setting_in s) (home_in s c.args.at.now) c.args.wire (entities_in s) c.args.step.now c.in-Goto.site c.in-Goto.target
    (body_of c.args.out.now.items) c.in-Goto.is (sym c.is_dynamic.ensures ∙ c.if-is_dynamic.false)

pub returns-in-Set : goal.returns-in-Set
returns-in-Set c =
    let s = c.args.setting.now in
    quiet (setting_in s) (home_in s c.args.at.now) c.args.wire (entities_in s) c.args.step.now (body_of c.args.out.now.items) (λ x. rw c.in-Set.is refl)

pub returns-in-Write : goal.returns-in-Write
returns-in-Write c =
    let s = c.args.setting.now in
    quiet (setting_in s) (home_in s c.args.at.now) c.args.wire (entities_in s) c.args.step.now (body_of c.args.out.now.items) (λ x. rw c.in-Write.is refl)

pub returns-in-Retag : goal.returns-in-Retag
returns-in-Retag c =
    let s = c.args.setting.now in
    quiet (setting_in s) (home_in s c.args.at.now) c.args.wire (entities_in s) c.args.step.now (body_of c.args.out.now.items) (λ x. rw c.in-Retag.is refl)

pub returns-in-RetagCell : goal.returns-in-RetagCell
returns-in-RetagCell c =
    let s = c.args.setting.now in
    quiet (setting_in s) (home_in s c.args.at.now) c.args.wire (entities_in s) c.args.step.now (body_of c.args.out.now.items) (λ x. rw c.in-RetagCell.is refl)
