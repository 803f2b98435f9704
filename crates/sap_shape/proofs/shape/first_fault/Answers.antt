use Rattle.std.proofs.Common.{◌∙◌}
use Rattle.sap_names.proofs.Faults.{both}
use Rattle.sap_shape.proofs.Groups.{design_is}
use Rattle.sap_shape.proofs.shape.first_fault.Goals as goal

pub returns : goal.returns
returns c =
    both _ _ _ _ _ _ c.in_ok-group_shape.ensures c.in_ok-group_paths.ensures
    (design_is c.args.design.now.version c.args.design.now.declarations.items c.args.design.now.states.items _ _ _ _ _ _ c.requires
    c.as_slice.ensures.value c.as_slice.ensures.value
    c.as_slice-3.ensures.value (c.as_slice-2.ensures.value ∙ c.new-above.ensures.items) c.new-written.ensures)
