use Rattle.sap_vread.proofs.build.BuiltNet.{registers_whole}
use Rattle.sap_vread.proofs.build.building.registers.Goals as goal

pub returns : goal.returns
returns c =
    registers_whole c.args.file.now c.args.tables.now c.requires c.as_slice.result.now c.as_slice-items.result.now c.new-registers.result.items c.push_ports.new.registers.items _
    c.as_slice.ensures.value c.as_slice-items.ensures.value c.new-registers.ensures.items c.in_ok-push_ports.ensures c.in_ok-push_registers.ensures
