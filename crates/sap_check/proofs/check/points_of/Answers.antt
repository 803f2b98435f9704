use Rattle.sap_check.proofs.PointLists.{points_whole}
use Rattle.sap_check.proofs.check.points_of.Goals as goal

pub returns : goal.returns
returns c =
    points_whole c.args.design.now.version c.args.design.now.declarations.items c.args.design.now.states.items
    _ _ _ c.as_slice.ensures.value c.new-points.ensures.items c.in_ok-add_states.ensures
