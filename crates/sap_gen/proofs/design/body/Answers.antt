use Rattle.sap_gen.proofs.Built.{body_built}
use Rattle.sap_gen.proofs.design.body.Goals as goal

pub returns : goal.returns
returns c =
    body_built c.args.size.registers c.args.size.states c.args.state c.in_ok-commands.commands.items _ _ c.nowhere.result c.in_ok-commands.ensures c.in_ok-push.ensures.items
    c.in_ok-transfer.ensures c.nowhere.ensures
