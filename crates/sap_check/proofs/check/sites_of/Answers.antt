use Rattle.sap_check.proofs.SiteLists.{sites_whole}
use Rattle.sap_check.proofs.check.sites_of.Goals as goal

pub returns : goal.returns
returns c =
    sites_whole c.args.design.now.version c.args.design.now.declarations.items c.args.design.now.states.items _ _ _ _ c.requires
    c.as_slice.ensures.value c.new-sites.ensures.items c.in_ok-add_states.ensures
