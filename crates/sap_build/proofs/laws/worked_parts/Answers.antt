use Rattle.sap_build.proofs.Examples.{side_by_side}
use Rattle.sap_build.proofs.laws.worked_parts.Goals as goal

pub returns : goal.returns
returns c = side_by_side
