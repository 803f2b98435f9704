use Rattle.std.proofs.Common.{sym, subst}
use Rattle.sap_machine.specs.Examples.{RunOfTwo, TwinsAgree}
use Rattle.sap_machine.proofs.Resolved.{machine_is}
use Rattle.sap_machine.proofs.Worked.{run_of_two, twins_agree}
use Rattle.sap_machine.proofs.examples.worked_runs.Goals as goal

pub returns : goal.returns
returns c = record { registers = subst RunOfTwo (sym machine_is) run_of_two; twins = subst (λ p. TwinsAgree p.world.order) (sym machine_is) twins_agree }
