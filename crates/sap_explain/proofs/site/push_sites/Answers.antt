use Rattle.std.proofs.Common.{arith}
use Rattle.sap_check.specs.Checked.{tree_in}
use Rattle.sap_check.specs.Sites.{sites_of}
use Rattle.sap_names.specs.Entities.{entities_of}
use Rattle.sap_check.proofs.SiteEntities.{site-within}
use Rattle.sap_explain.proofs.SiteLines.{sites_end, sites_step}
use Rattle.sap_explain.proofs.site.push_sites.Goals as goal

pub push_site-requires : goal.push_site-requires
push_site-requires c = site-within (tree_in c.args.checked.now) _ _ c.site.ensures

pub loop-place-preserved : goal.loop-place-preserved
loop-place-preserved c =
    sites_step c.args.part.now (entities_of (tree_in c.args.checked.now)) (sites_of (tree_in c.args.checked.now)) c.loop-place.place c.site.result.now
    _ _ _ c.site.ensures c.in_ok-push_site.ensures c.loop-place.invariant

pub returns : goal.returns
returns c =
    sites_end c.args.part.now (entities_of (tree_in c.args.checked.now)) (sites_of (tree_in c.args.checked.now)) c.loop-place.place _ _ (omega arith) c.loop-place.invariant
