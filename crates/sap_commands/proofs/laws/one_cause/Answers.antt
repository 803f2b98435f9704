use Rattle.sap_commands.proofs.CommandLaws.{one_cause_lem}
use Rattle.sap_commands.proofs.laws.one_cause.Goals as goal

pub returns : goal.returns
returns c = one_cause_lem
