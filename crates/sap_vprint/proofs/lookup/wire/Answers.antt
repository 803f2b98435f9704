use Rattle.std.proofs.Common.{◌≡◌, false}
use Rattle.sap_net.specs.Prelude.{is_among, wire_names}
use Rattle.sap_net.specs.declared.parts.Wire.{Wire}
use Rattle.sap_vprint.proofs.LookedUp.{if_none, not_listed_in, wire_at}
use Rattle.sap_vprint.proofs.lookup.wire.Goals as goal

pub returns-in_err-i-clause-absent : goal.returns-in_err-i-clause-absent
returns-in_err-i-clause-absent c =
    if_none c.from_residual.result (is_among c.args.name.now (wire_names c.args.netlist.now) ≡ false)
    (not_listed_in (λ (x : Wire). x.name) c.wires-wires.result.now c.args.netlist.now.wires c.args.name.now c.wires-wires.ensures c.in_err-i.ensures.absent)

pub returns-clause-found : goal.returns-clause-found
returns-clause-found c =
    wire_at c.args.netlist.now c.rules.ensures c.wires-wires.result.now c.in_ok-i.i c.index-wires-i.result c.args.name.now c.wires-wires.ensures c.in_ok-i.ensures.found.0
    (c.in_ok-i.ensures.found.1 c.index-wires-i.result)
