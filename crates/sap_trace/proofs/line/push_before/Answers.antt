use Rattle.sap_check.specs.Checked.{tree_in}
use Rattle.sap_check.proofs.SiteEntities.{site-within}
use Rattle.sap_trace.proofs.line.push_before.Goals as goal

pub push_target-requires : goal.push_target-requires
push_target-requires c = site-within (tree_in c.args.checked.now) _ _ c.site.ensures
