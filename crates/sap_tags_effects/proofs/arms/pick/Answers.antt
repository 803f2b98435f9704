use Rattle.std.proofs.Common.{◌-◌, ◌∙◌, length, refl, sym, ap, arith}
use Rattle.sap_ir.specs.Plain.Views.{body_of}
use Rattle.sap_program.specs.Views.{constants_of}
use Rattle.sap_tags_terms.specs.Code.{entities_in, setting_in}
use Rattle.sap_tags_effects.proofs.Picked.{arms_begin, arms_step, arms_end}
use Rattle.sap_tags_effects.proofs.arms.pick.Goals as goal

pub loop-block-init : goal.loop-block-init
loop-block-init c =
    let s = c.args.setting.now in
    let n = c.args.number.now in
    let p = c.args.pick.now in
    let last = length c.args.arms.now in
    arms_begin (setting_in s) (entities_in s) n.width n.wire p.width p.wire c.args.arms.now (body_of c.args.out.now.items)
    (body_of c.set_wire.new.out.items) last last refl refl c.in_ok-set_wire.ensures

pub loop-block-preserved : goal.loop-block-preserved
loop-block-preserved c =
    let s = c.args.setting.now in
    let n = c.args.number.now in
    let p = c.args.pick.now in
    let arm = c.index-arms-block.result in
    arms_step (setting_in s) (entities_in s) n.width n.wire p.width p.wire c.args.arms.now (c.loop-block.block - 1) c.loop-block.block arm
    c.as_slice-constants.result.now (body_of c.args.out.now.items) (body_of c.loop-block.out.items) (body_of c.pick_arm.new.out.items)
    (omega arith) (omega arith) c.index-arms-block.is (c.as_slice-constants.ensures.value ∙ ap constants_of (sym c.index-arms-block.is))
    c.in_ok-pick_arm.ensures c.loop-block.invariant

pub returns : goal.returns
returns c =
    let s = c.args.setting.now in
    let n = c.args.number.now in
    let p = c.args.pick.now in
    arms_end (setting_in s) (entities_in s) n.width n.wire p.width p.wire c.args.arms.now (body_of c.args.out.now.items)
    (body_of c.loop-block.out.items) c.loop-block.block (omega arith) c.loop-block.invariant
