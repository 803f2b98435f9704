use Rattle.std.proofs.Common.{arith}
use Rattle.std.proofs.lemmas.Grind.{common_steps}
use Rattle.sap_ir.specs.Calcs.{term_of}
use Rattle.sap_tags_terms.specs.Code.{setting_in, entities_in}
use Rattle.sap_tags_guards.proofs.Children.{child_tag-none, child_tag-one, child_tag-more}
use Rattle.sap_tags_guards.proofs.steps.+child_tag.Goals as goal

pub returns-in-empty : goal.returns-in-empty
returns-in-empty t c =
    let s = c.args.setting.now in
    grind (arith, common_steps, child_tag-none (entities_in s) (setting_in s) c.args.width (term_of c.args.seat.now) c.args.children.now c.args.i c.in-empty.len_below)

pub returns-in-len1 : goal.returns-in-len1
returns-in-len1 t c =
    let s = c.args.setting.now in
    grind (
      arith,
      common_steps,
      child_tag-one (entities_in s) (setting_in s) c.args.width (term_of c.args.seat.now) c.args.children.now
          c.only-item.result c.args.i c.in-len1.len_below c.in-len1.len_at_least c.only-item.is,
    )

pub returns-in_ok-others-in-len1-up : goal.returns-in_ok-others-in-len1-up
returns-in_ok-others-in-len1-up t c =
    let s = c.args.setting.now in
    grind (
      arith,
      common_steps,
      child_tag-more (entities_in s) (setting_in s) c.args.width (term_of c.args.seat.now) c.args.children.now
          c.first-item.result c.args.i (omega arith) c.first-item.is,
    )
