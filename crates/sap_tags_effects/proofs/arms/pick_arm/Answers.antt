use Rattle.std.proofs.Common.{get_or, ◌∙◌, ap, ap₂, arith}
use Rattle.sap_bits.specs.declared.Op2.TheVariants.{Eq}
use Rattle.sap_maps.specs.Prelude.{Name, Term, constant, two, choose}
use Rattle.sap_ir.specs.Plain.Views.{body_of}
use Rattle.sap_tags_terms.specs.Code.{setting_in}
use Rattle.sap_tags_effects.proofs.Picked.{constants_step, constants_rest}
use Rattle.sap_tags_effects.proofs.arms.pick_arm.Goals as goal

pub loop-constant-preserved : goal.loop-constant-preserved
loop-constant-preserved c =
    let n = c.args.number.now in
    let p = c.args.pick.now in
    let t = c.in_ok-value.ensures ∙ ap₂ (λ (a b : Term Name). choose a (constant p.width c.args.block) b) (c.in_ok-test.ensures
    ∙ ap (λ (a : Term Name). two Eq a (constant n.width (get_or c.args.constants.now c.loop-constant.constant-index 0)))
    c.wire_variable-seen.ensures) c.wire_variable-before.ensures in
    constants_step (setting_in c.args.setting.now) n.width n.wire p.width p.wire c.args.block c.args.constants.now
    c.loop-constant.constant-index 0 (body_of c.loop-constant.out.items) (body_of c.set_wire.new.out.items) _ _ (omega arith)
    c.in_ok-set_wire.ensures t c.loop-constant.invariant

pub returns : goal.returns
returns c =
    let n = c.args.number.now in
    let p = c.args.pick.now in
    constants_rest (setting_in c.args.setting.now) n.width n.wire p.width p.wire c.args.block c.args.constants.now
    c.loop-constant.constant-index (body_of c.loop-constant.out.items) _ (omega arith) c.loop-constant.invariant
