use Rattle.sap_lattice.specs.Levels.{order_of}
use Rattle.sap_taint.proofs.Levels.{alike_throughout, agree_throughout}
use Rattle.sap_taint.proofs.laws.noninterference.Goals as goal

pub returns : goal.returns
returns c =
    let n = c.args.netlist.now in
    record {
      bits = alike_throughout n c.rules.ensures;
      levels = agree_throughout (order_of c.args.lattice.now) c.lawful.ensures.order c.lawful.ensures.codes n c.rules.ensures;
    }
