use Rattle.std.proofs.Common.{refl}
use Rattle.sap_vjudge.proofs.Tabled.{known_of-with_integer}
use Rattle.sap_vjudge.proofs.table.Table.set_integer.Goals as goal

pub returns : goal.returns
returns c = known_of-with_integer c.args.self.now _ refl refl
