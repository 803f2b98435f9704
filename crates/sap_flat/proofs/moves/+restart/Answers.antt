use Rattle.std.proofs.Common.{arith}
use Rattle.sap_ir.specs.Calcs.{commands_of}
use Rattle.sap_flat.proofs.Makes.{restart_rest}
use Rattle.sap_flat.proofs.moves.+restart.Goals as goal

pub restart-returns : goal.restart-returns
restart-returns t c =
    restart_rest (commands_of c.loop-state.out.items) c.args.j c.args.states.now c.loop-state.state-index _ (omega arith) c.loop-state.invariant
