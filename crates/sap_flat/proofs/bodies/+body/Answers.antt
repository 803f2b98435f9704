use Rattle.std.proofs.Common.{◌∙◌, arith}
use Rattle.sap_ir.specs.Calcs.{action_of, commands_of}
use Rattle.sap_flat.specs.Lists.{commands_flat}
use Rattle.sap_flat.proofs.Steps.{commands_step, commands_rest, do_made, if_made, goto_made, fall_made}
use Rattle.sap_flat.proofs.bodies.+body.Goals as goal

pub commands-loop-cmd-preserved : goal.commands-loop-cmd-preserved
commands-loop-cmd-preserved t c =
    commands_step c.args.seat.now c.args.group.now c.args.fell c.args.commands.now c.loop-cmd.cmd-index c.cmd-item.result c.args.j
    c.loop-cmd.gates c.command.new.gates (commands_of c.loop-cmd.out.items) (commands_of c.command.new.out.items)
    (commands_of c.args.out.now.items) (commands_flat c.args.seat.now c.args.group.now c.args.fell c.args.commands.now c.args.j
    c.args.gates.now) (omega arith) c.cmd-item.is c.in_ok-command.ensures.commands c.in_ok-command.ensures.gates c.loop-cmd.invariant

pub commands-returns-clause-commands : goal.commands-returns-clause-commands
commands-returns-clause-commands t c =
    (commands_rest c.args.seat.now c.args.group.now c.args.fell c.args.commands.now c.loop-cmd.cmd-index c.args.j c.loop-cmd.gates
    (commands_of c.loop-cmd.out.items) (commands_of c.args.out.now.items) _ (omega arith) c.loop-cmd.invariant).0

pub commands-returns-clause-gates : goal.commands-returns-clause-gates
commands-returns-clause-gates t c =
    (commands_rest c.args.seat.now c.args.group.now c.args.fell c.args.commands.now c.loop-cmd.cmd-index c.args.j c.loop-cmd.gates
    (commands_of c.loop-cmd.out.items) (commands_of c.args.out.now.items) _ (omega arith) c.loop-cmd.invariant).1

pub command-returns-in_ok-add-in-Do-clause-commands :
    goal.command-returns-in_ok-add-in-Do-clause-commands
command-returns-in_ok-add-in-Do-clause-commands t c =
    (do_made c.args.seat.now c.args.group.now c.args.fell c.args.command.now c.in-Do.act (action_of c.in_ok-act-in-Do.act) c.args.j
    c.args.gates.now (commands_of c.args.out.now.items) (commands_of c.add.new.out.items) c.in-Do.is c.in_ok-act-in-Do.ensures c.in_ok-add-in-Do.ensures).0

pub command-returns-in_ok-add-in-Do-clause-gates :
    goal.command-returns-in_ok-add-in-Do-clause-gates
command-returns-in_ok-add-in-Do-clause-gates t c =
    (do_made c.args.seat.now c.args.group.now c.args.fell c.args.command.now c.in-Do.act (action_of c.in_ok-act-in-Do.act) c.args.j
    c.args.gates.now (commands_of c.args.out.now.items) (commands_of c.add.new.out.items) c.in-Do.is c.in_ok-act-in-Do.ensures c.in_ok-add-in-Do.ensures).1

pub command-returns-in_ok-commands-in-If-2-clause-commands :
    goal.command-returns-in_ok-commands-in-If-2-clause-commands
command-returns-in_ok-commands-in-If-2-clause-commands t c =
    (if_made c.args.seat.now c.args.group.now c.args.fell c.args.command.now c.in-If.test c.in-If.yes c.in-If.no c.as_slice.result.now
    c.as_slice-in-If.result.now c.args.j c.args.gates.now c.in_ok-first-in-If.first c.in_ok-second-in-If.second c.add-in-If-2.new.self
    c.commands.new.gates c.commands-in-If.new.gates (commands_of c.args.out.now.items) (commands_of c.choose.new.out.items)
    (commands_of c.commands.new.out.items) (commands_of c.commands-in-If.new.out.items) c.in-If.is c.as_slice.ensures.value
    c.as_slice-in-If.ensures.value c.in_ok-first-in-If.ensures.number (c.in_ok-second-in-If.ensures.number
    ∙ c.in_ok-first-in-If.ensures.more) (omega (arith, c.in_ok-second-in-If.ensures.more, c.in_ok-first-in-If.ensures.more))
    c.in_ok-choose-in-If.ensures c.in_ok-commands-in-If.ensures.commands c.in_ok-commands-in-If.ensures.gates
    c.in_ok-commands-in-If-2.ensures.commands c.in_ok-commands-in-If-2.ensures.gates).0

pub command-returns-in_ok-commands-in-If-2-clause-gates :
    goal.command-returns-in_ok-commands-in-If-2-clause-gates
command-returns-in_ok-commands-in-If-2-clause-gates t c =
    (if_made c.args.seat.now c.args.group.now c.args.fell c.args.command.now c.in-If.test c.in-If.yes c.in-If.no c.as_slice.result.now
    c.as_slice-in-If.result.now c.args.j c.args.gates.now c.in_ok-first-in-If.first c.in_ok-second-in-If.second c.add-in-If-2.new.self
    c.commands.new.gates c.commands-in-If.new.gates (commands_of c.args.out.now.items) (commands_of c.choose.new.out.items)
    (commands_of c.commands.new.out.items) (commands_of c.commands-in-If.new.out.items) c.in-If.is c.as_slice.ensures.value
    c.as_slice-in-If.ensures.value c.in_ok-first-in-If.ensures.number (c.in_ok-second-in-If.ensures.number
    ∙ c.in_ok-first-in-If.ensures.more) (omega (arith, c.in_ok-second-in-If.ensures.more, c.in_ok-first-in-If.ensures.more))
    c.in_ok-choose-in-If.ensures c.in_ok-commands-in-If.ensures.commands c.in_ok-commands-in-If.ensures.gates
    c.in_ok-commands-in-If-2.ensures.commands c.in_ok-commands-in-If-2.ensures.gates).1

pub command-returns-in_ok-goto-in-Goto-clause-commands :
    goal.command-returns-in_ok-goto-in-Goto-clause-commands
command-returns-in_ok-goto-in-Goto-clause-commands t c =
    (goto_made c.args.seat.now c.args.group.now c.args.fell c.args.command.now c.in-Goto.target c.args.j c.args.gates.now
    (commands_of c.args.out.now.items) (commands_of c.goto.new.out.items) c.in-Goto.is c.in_ok-goto-in-Goto.ensures).0

pub command-returns-in_ok-goto-in-Goto-clause-gates :
    goal.command-returns-in_ok-goto-in-Goto-clause-gates
command-returns-in_ok-goto-in-Goto-clause-gates t c =
    (goto_made c.args.seat.now c.args.group.now c.args.fell c.args.command.now c.in-Goto.target c.args.j c.args.gates.now
    (commands_of c.args.out.now.items) (commands_of c.goto.new.out.items) c.in-Goto.is c.in_ok-goto-in-Goto.ensures).1

pub command-returns-in_ok-set_gate-in-Fall-clause-commands :
    goal.command-returns-in_ok-set_gate-in-Fall-clause-commands
command-returns-in_ok-set_gate-in-Fall-clause-commands t c =
    (fall_made c.args.seat.now c.args.group.now c.args.fell c.args.command.now c.args.j c.args.gates.now (commands_of c.args.out.now.items)
    (commands_of c.set_gate.new.out.items) c.in-Fall.is c.in_ok-set_gate-in-Fall.ensures).0

pub command-returns-in_ok-set_gate-in-Fall-clause-gates :
    goal.command-returns-in_ok-set_gate-in-Fall-clause-gates
command-returns-in_ok-set_gate-in-Fall-clause-gates t c =
    (fall_made c.args.seat.now c.args.group.now c.args.fell c.args.command.now c.args.j c.args.gates.now (commands_of c.args.out.now.items)
    (commands_of c.set_gate.new.out.items) c.in-Fall.is c.in_ok-set_gate-in-Fall.ensures).1
