use Rattle.std.proofs.Common.{◌≡◌, ◌+◌, ◌++◌, drop}
use Rattle.sap_ir.specs.Calcs.{commands_of, term_of}
use Rattle.sap_flat.specs.Lists.{gates_commands}
use Rattle.sap_flat.proofs.groups.mark.Given as goal

abbrev pub invariant-loop-i : goal.invariant-loop-i
invariant-loop-i l =
    commands_of l.out.items ++ gates_commands (term_of l.when) l.seat l.width (drop l.i l.states) l.i (l.first + l.i)
    ≡ commands_of l.initial.out.items ++ gates_commands (term_of l.when) l.seat l.width l.states 0 l.first
