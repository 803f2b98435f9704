use Rattle.std.proofs.Common.{◌≡◌, rules}
use Rattle.sap_net.specs.Net.{net_of}
use Rattle.sap_taint.specs.TagNames.{with_tags}
use Rattle.sap_taint_pass.specs.Tainted.{in_order}
use Rattle.sap_taint_pass.proofs.Made.{all_ordered}
use Rattle.sap_taint_pass.proofs.taint.tainted_parts.Goals as goal

pub returns : goal.returns
returns c =
    let n = c.args.netlist.now in
    let p = c.in_ok-parts.parts in
    let names = c.in_ok-names.names.items in
    let registers = c.in_ok-registers.registers.items in
    let named : names ≡ with_tags n.names = search rules in
    let ordered : registers ≡ in_order names p.registers.items = search rules in
    all_ordered c.args.width n (net_of p) names registers (c.in_ok-parts.ensures {u = tt}) named ordered
