use Rattle.std.proofs.Common.{◌≡◌, ◌∙◌, List, map, sym, ap, subst}
use Rattle.sap_net.specs.IsNetlist.{IsNetlist}
use Rattle.sap_net.specs.Net.{Net, net_of}
use Rattle.sap_net.specs.declared.parts.Memory.{Memory}
use Rattle.sap_net.specs.declared.parts.Wire.{Wire}
use Rattle.sap_trim.specs.Unwritten.{read_net, read_wire}
use Rattle.sap_trim.proofs.Unread.{read_rules}
use Rattle.sap_trim.proofs.unwritten.without_reads.Goals as goal

pub new-requires : goal.new-requires
new-requires c =
    let p : Net = net_of c.into_parts-module_name.result in
    let e : c.in_ok-wires.wires.items ≡ (read_net p).wires =
    c.in_ok-wires.ensures {u = tt} ∙ ap (λ (ms : List Memory). map (read_wire ms) p.wires) c.as_slice.ensures.value in
    subst
    (λ (ws : List Wire).
    IsNetlist (record {
      module_name = p.module_name;
      names = p.names;
      ports = p.ports;
      inputs = p.inputs;
      wires = ws;
      registers = p.registers;
      memories = p.memories;
    }))
    (sym e) (read_rules p c.into_parts-module_name.ensures.kept)
