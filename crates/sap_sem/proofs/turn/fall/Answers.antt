use Rattle.std.proofs.Common.{sym, subst, arith}
use Rattle.sap_run.specs.Runs.{StateAble}
use Rattle.sap_run.proofs.Runs.{able-child}
use Rattle.sap_sem.proofs.turn.fall.Goals as goal

pub body-requires-clause-able : goal.body-requires-clause-able
body-requires-clause-able c =
    let d = c.args.environment.now in
    let kids = d.program.now.states.items in
    let k = c.index-state.result.now in
    subst (StateAble d) (sym c.index-state.ensures) (able-child d kids _ k (omega arith) c.requires.able)
