use Rattle.std.proofs.Common.{refl}
use Rattle.sap_vjudge.proofs.Tabled.{known_of-empty}
use Rattle.sap_vjudge.proofs.table.Table.new.Goals as goal

pub returns : goal.returns
returns c = known_of-empty _ c.new.ensures.empty refl
