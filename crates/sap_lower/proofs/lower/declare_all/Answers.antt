use Rattle.std.proofs.lemmas.Result.{IfOk-weaker}
use Rattle.sap_net.specs.Net.{net_of}
use Rattle.sap_ir.specs.Program.{source_of}
use Rattle.sap_lower.proofs.Made.{made_is}
use Rattle.sap_lower.proofs.lower.declare_all.Goals as goal

pub returns : goal.returns
returns c =
    IfOk-weaker c.parts.result _ _
    (λ parts h. made_is (source_of c.args.source.now) (net_of parts) c.args.lowering c.in_ok-wires.wires.items c.requires (c.in_ok-wires.ensures {u = tt}) h)
    c.parts.ensures
