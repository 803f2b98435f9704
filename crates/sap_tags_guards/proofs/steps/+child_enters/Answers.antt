use Rattle.std.proofs.Common.{arith}
use Rattle.std.proofs.lemmas.Grind.{common_steps}
use Rattle.sap_ir.specs.Calcs.{term_of}
use Rattle.sap_tags_terms.specs.Code.{setting_in, entities_in}
use Rattle.sap_tags_guards.proofs.Children.{child_enters-none, child_enters-one, child_enters-more}
use Rattle.sap_tags_guards.proofs.steps.+child_enters.Goals as goal

pub returns-in-empty : goal.returns-in-empty
returns-in-empty t c =
    let s = c.args.setting.now in
    grind (
      arith,
      common_steps,
      child_enters-none (entities_in s) (setting_in s) c.args.width (term_of c.args.seat.now)
          (term_of c.args.context.now) c.args.children.now c.args.i c.in-empty.len_below,
    )

pub returns-in_ok-context-in-len1 : goal.returns-in_ok-context-in-len1
returns-in_ok-context-in-len1 t c =
    let s = c.args.setting.now in
    grind (
      arith,
      common_steps,
      child_enters-one (entities_in s) (setting_in s) c.args.width (term_of c.args.seat.now)
          (term_of c.args.context.now) c.args.children.now c.only-item.result c.args.i c.in-len1.len_below c.in-len1.len_at_least c.only-item.is,
    )

pub returns-in_ok-others-in-len1-up : goal.returns-in_ok-others-in-len1-up
returns-in_ok-others-in-len1-up t c =
    let s = c.args.setting.now in
    grind (
      arith,
      common_steps,
      child_enters-more (entities_in s) (setting_in s) c.args.width (term_of c.args.seat.now)
          (term_of c.args.context.now) c.args.children.now c.first-item.result c.args.i (omega arith) c.first-item.is,
    )
