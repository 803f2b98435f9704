use Rattle.std.proofs.Common.{sym, subst}
use Rattle.sap_machine.specs.Laws.{RunsTheTable, RefusesTheWords}
use Rattle.sap_machine.proofs.Resolved.{machine_is}
use Rattle.sap_machine.proofs.Run.{runs_the_table, refuses_the_words}
use Rattle.sap_machine.proofs.machine_runs_the_table.Goals as goal

pub returns : goal.returns
returns c = record { runs = subst RunsTheTable (sym machine_is) runs_the_table; refuses = subst RefusesTheWords (sym machine_is) refuses_the_words }
