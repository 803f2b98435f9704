use Rattle.sap_commands.proofs.CommandLaws.{one_output_lem}
use Rattle.sap_commands.proofs.laws.one_output.Goals as goal

pub returns : goal.returns
returns c = one_output_lem
