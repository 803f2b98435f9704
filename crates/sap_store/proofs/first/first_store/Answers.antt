use Rattle.std.proofs.Common.{arith}
use Rattle.sap_lattice.specs.Levels.{order_of}
use Rattle.sap_store.specs.declared.store.Store as code
use Rattle.sap_store.proofs.Firsts.{first_is, first_ready}
use Rattle.sap_store.proofs.first.first_store.Goals as goal

pub returns-clause-store : goal.returns-clause-store
returns-clause-store c =
    let s : code.Store = record { entries = c.in_ok-entries.entries; current = c.in_ok-current.current } in
    first_is (order_of c.args.environment.now.lattice.now) c.args.environment.now.program.now s _ c.in_ok-entries.ensures c.in_ok-current.ensures

pub returns-clause-ready : goal.returns-clause-ready
returns-clause-ready c =
    let s : code.Store = record { entries = c.in_ok-entries.entries; current = c.in_ok-current.current } in
    first_ready (order_of c.args.environment.now.lattice.now) c.args.environment.now.program.now s _ c.in_ok-entries.ensures
    c.in_ok-current.ensures (let e = c.len.ensures in omega (arith, e)) c.requires
