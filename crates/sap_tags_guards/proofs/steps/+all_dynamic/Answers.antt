use Rattle.std.proofs.Common.{arith}
use Rattle.std.proofs.lemmas.Grind.{common_steps}
use Rattle.sap_tags_terms.specs.Code.{world_in, entities_in}
use Rattle.sap_tags_guards.proofs.Children.{all_dynamic-none, all_dynamic-more}
use Rattle.sap_tags_guards.proofs.steps.+all_dynamic.Goals as goal

pub returns-in-empty : goal.returns-in-empty
returns-in-empty t c = let s = c.args.setting.now in grind (arith, common_steps, all_dynamic-none (entities_in s) (world_in s) c.args.children.now c.in-empty.len_below)

pub returns-then-is_dynamic : goal.returns-then-is_dynamic
returns-then-is_dynamic t c =
    let s = c.args.setting.now in
    grind (arith, common_steps, all_dynamic-more (entities_in s) (world_in s) c.args.children.now c.first-item.result c.in-len1-up.len_at_least c.first-item.is)

pub returns-else-is_dynamic : goal.returns-else-is_dynamic
returns-else-is_dynamic t c =
    let s = c.args.setting.now in
    grind (arith, common_steps, all_dynamic-more (entities_in s) (world_in s) c.args.children.now c.first-item.result c.in-len1-up.len_at_least c.first-item.is)
