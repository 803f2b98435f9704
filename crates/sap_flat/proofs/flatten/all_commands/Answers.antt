use Rattle.std.proofs.Common.{ap, arith}
use Rattle.sap_ir.specs.Prelude.{commands_of, nested_of}
use Rattle.sap_flat.proofs.Steps.{all_made}
use Rattle.sap_flat.proofs.flatten.all_commands.Goals as goal

pub returns-clause-commands : goal.returns-clause-commands
returns-clause-commands c =
    (all_made (nested_of c.args.program.now).states c.states-group.result.now c.in_ok-seat.seat c.add_all.new.self c.states.new.gates
    (commands_of c.new-out.result.items) (commands_of c.mark.new.out.items) (commands_of c.states.new.out.items) c.states-group.ensures
    c.in_ok-seat.ensures (ap commands_of c.new-out.ensures.items) (omega (arith, c.in_ok-add_all.ensures, c.requires))
    c.in_ok-mark.ensures c.in_ok-states.ensures.commands c.in_ok-states.ensures.gates).0

pub returns-clause-gates : goal.returns-clause-gates
returns-clause-gates c =
    (all_made (nested_of c.args.program.now).states c.states-group.result.now c.in_ok-seat.seat c.add_all.new.self c.states.new.gates
    (commands_of c.new-out.result.items) (commands_of c.mark.new.out.items) (commands_of c.states.new.out.items) c.states-group.ensures
    c.in_ok-seat.ensures (ap commands_of c.new-out.ensures.items) (omega (arith, c.in_ok-add_all.ensures, c.requires))
    c.in_ok-mark.ensures c.in_ok-states.ensures.commands c.in_ok-states.ensures.gates).1
