use Rattle.std.proofs.Common.{◌∙◌, ap, sym, arith}
use Rattle.sap_ir.proofs.PlainLemmas.{follow_stop}
use Rattle.sap_ir.specs.Plain.Views.{body_of, follow}
use Rattle.sap_tags_terms.specs.Code.{entities_in, setting_in}
use Rattle.sap_tagged.specs.Keys.{tag_key}
use Rattle.sap_tags_effects.proofs.Raised.{raised, walk_step, walk_rest, raises_listed, entities_count}
use Rattle.sap_tags_effects.proofs.raises.raise_all.Goals as goal

pub loop-x-preserved : goal.loop-x-preserved
loop-x-preserved c =
    let h = c.in_ok-raise_entity.ensures in
    let d = setting_in c.args.setting.now in
    walk_step d tag_key (raised d c.args.wire) (entities_in c.args.setting.now) c.args.hang.now c.loop-x.x-index 0
    (body_of c.loop-x.out.items) (body_of c.raise_entity.new.out.items) _ (omega arith) c.in_ok-raise_entity.ensures c.loop-x.invariant

pub returns : goal.returns
returns c =
    let s = c.args.setting.now in
    let d = setting_in s in
    sym (follow_stop (body_of c.loop-x.out.items))
    ∙ ap (follow (body_of c.loop-x.out.items)) (sym (walk_rest d tag_key (raised d c.args.wire) (entities_in s) c.args.hang.now c.loop-x.x-index (omega arith)))
    ∙ c.loop-x.invariant
    ∙ ap (follow (body_of c.args.out.now.items)) (sym (raises_listed d (entities_in s) c.args.hang.now c.args.wire (entities_count s.program.now.entities.items) c.requires))
