use Rattle.sap_vread.proofs.build.BuiltNet.{names_whole}
use Rattle.sap_vread.proofs.build.building.names.Goals as goal

pub returns : goal.returns
returns c =
    names_whole c.args.file.now c.as_slice.result.now c.as_slice-2.result.now c.new-names.result.items c.push_port_names.new.names.items
    _ c.as_slice.ensures.value c.as_slice-2.ensures.value
    c.new-names.ensures.items c.in_ok-push_port_names.ensures c.in_ok-push_item_names.ensures
