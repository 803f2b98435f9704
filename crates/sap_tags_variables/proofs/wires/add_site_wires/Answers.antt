use Rattle.sap_tags_terms.specs.Code.{named_in, tag_width}
use Rattle.sap_tags_variables.proofs.Wirings.{site_step}
use Rattle.sap_tags_variables.proofs.wires.add_site_wires.Goals as goal

pub loop-before-preserved : goal.loop-before-preserved
loop-before-preserved c =
    let s = c.args.setting.now in
    site_step (named_in s) (tag_width s) c.loop-before.before c.args.wires.now.items c.loop-before.wires.items _ c.loop-before.invariant c.in_ok-add_site.ensures
