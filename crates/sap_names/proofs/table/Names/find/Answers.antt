use Rattle.std.proofs.Common.{arith}
use Rattle.sap_names.proofs.Numbers.{number_of-within}
use Rattle.sap_names.proofs.table.Names.find.Goals as goal

pub overflow_cast-result : goal.overflow_cast-result
overflow_cast-result c =
    let within = number_of-within c.self.inside.entities c.as_bytes.result.now c.in_ok-number.number c.in_ok-number.ensures in omega (arith, within, c.self.invariant.0)
