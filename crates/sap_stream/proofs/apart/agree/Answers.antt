use Rattle.sap_lattice.specs.Levels.{order_of}
use Rattle.sap_stream.specs.declared.apart.Apart.TheVariants.{Lengths}
use Rattle.sap_stream.specs.Apart.{IsApart}
use Rattle.sap_stream.proofs.Told.{told, told_apart, agree_told, apart_told}
use Rattle.sap_stream.proofs.apart.agree.Goals as goal
use Rattle.sap_stream.proofs.apart.agree.Goals.{Then-cycles-others}

lengths : (c : Then-cycles-others) → IsApart (order_of c.args.lattice.now) c.args.level c.args.first.now c.args.second.now (Lengths c.cycles-cycles.result c.cycles-others.result)
lengths c = (c.cycles-cycles.ensures.number, c.cycles-others.ensures.number, c.if-cycles-others.true)

pub returns-then-cycles-others-clause-agree : goal.returns-then-cycles-others-clause-agree
returns-then-cycles-others-clause-agree c = told_apart (order_of c.args.lattice.now) c.args.level c.args.first.now c.args.second.now _ (lengths c)

pub returns-then-cycles-others-clause-apart : goal.returns-then-cycles-others-clause-apart
returns-then-cycles-others-clause-apart c = told (order_of c.args.lattice.now) c.args.level c.args.first.now c.args.second.now _ (lengths c)

pub returns-clause-agree : goal.returns-clause-agree
returns-clause-agree c = agree_told (order_of c.args.lattice.now) c.args.level c.args.first.now c.args.second.now c.first_cycle_apart.result c.first_cycle_apart.ensures

pub returns-clause-apart : goal.returns-clause-apart
returns-clause-apart c = apart_told (order_of c.args.lattice.now) c.args.level c.args.first.now c.args.second.now c.first_cycle_apart.result c.first_cycle_apart.ensures
