use Rattle.std.proofs.Common.{arith}
use Rattle.sap_names.proofs.Built.{width-fits}
use Rattle.sap_names.proofs.table.Names.width.Goals as goal

pub overflow_cast-result : goal.overflow_cast-result
overflow_cast-result c =
    let fits = width-fits c.args.self.now c.args.entity c.entity.result.now c.have_widths.ensures c.entity.ensures in omega (arith, fits, c.width.ensures)
