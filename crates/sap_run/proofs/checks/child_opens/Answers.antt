use Rattle.std.proofs.Common.{sym, ◌∙◌}
use Rattle.sap_store.specs.Code.{entities_in, store_in, world_in}
use Rattle.sap_run.proofs.Children.{child_opens-some}
use Rattle.sap_run.proofs.checks.child_opens.Goals as goal

-- src/checks.rt:46:1
pub returns-else-n-children : goal.returns-else-n-children
returns-else-n-children c =
    let d = c.args.environment.now in
    c.opens.ensures ∙ sym (child_opens-some (world_in d) (store_in d c.args.store.now) (entities_in d) c.args.children.now c.args.n
    c.args.context c.index-children-n.result c.if-n-children.false)
