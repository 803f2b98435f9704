use Rattle.sap_net.specs.declared.parts.Parts.{Parts}
use Rattle.sap_vread.proofs.build.BuiltNet.{net_built}
use Rattle.sap_vread.proofs.build.building.parts.Goals as goal

pub returns : goal.returns
returns c =
    let d = c.in_ok-declared in
    let e = c.in_ok-driven in
    let p : Parts = record {
      module_name = c.in_ok-module_name.module_name;
      names = d.declared.names;
      ports = d.declared.ports;
      inputs = d.declared.inputs;
      wires = e.driven.wires;
      registers = e.driven.registers;
      memories = e.driven.memories;
    } in
    net_built c.args.file.now p c.in_ok-module_name.ensures d.ensures.names d.ensures.ports d.ensures.inputs e.ensures.wires
    e.ensures.registers e.ensures.memories
