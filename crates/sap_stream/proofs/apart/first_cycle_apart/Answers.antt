use Rattle.std.proofs.Common.{arith}
use Rattle.sap_lattice.specs.Levels.{order_of}
use Rattle.sap_stream.proofs.Agreeing.{streams_agree}
use Rattle.sap_stream.proofs.Walk.{reached, within, passed, as_many, apart_next, agree_next}
use Rattle.sap_stream.proofs.apart.first_cycle_apart.Goals as goal

pub first_apart-requires : goal.first_apart-requires
first_apart-requires c =
    let xs = c.args.first.now in
    let ys = c.args.second.now in
    let at_one = reached xs c.loop-cycle.cycle c.loop-cycle.one c.take_up.new.self (omega arith) c.loop-cycle.invariant.first_ahead c.take_up.ensures.same c.take_up.ensures.some in
    let at_other =
    reached ys c.loop-cycle.cycle c.loop-cycle.other c.take_up-in-loop-cycle.new.self (omega arith) c.loop-cycle.invariant.second_ahead c.take_up-in-loop-cycle.ensures.same
    c.take_up-in-loop-cycle.ensures.some in
    as_many xs ys c.loop-cycle.cycle c.take_up.new.self c.take_up-in-loop-cycle.new.self c.requires.inputs c.requires.cycles (omega arith) at_one at_other

pub returns-in-Some : goal.returns-in-Some
returns-in-Some c =
    let xs = c.args.first.now in
    let ys = c.args.second.now in
    let at_one = reached xs c.loop-cycle.cycle c.loop-cycle.one c.take_up.new.self (omega arith) c.loop-cycle.invariant.first_ahead c.take_up.ensures.same c.take_up.ensures.some in
    let at_other =
    reached ys c.loop-cycle.cycle c.loop-cycle.other c.take_up-in-loop-cycle.new.self (omega arith) c.loop-cycle.invariant.second_ahead c.take_up-in-loop-cycle.ensures.same
    c.take_up-in-loop-cycle.ensures.some in
    apart_next (order_of c.args.lattice.now) c.args.level xs ys c.loop-cycle.cycle c.in-Some.input c.take_up.new.self
    c.take_up-in-loop-cycle.new.self c.requires.cycles (omega arith)
    c.loop-cycle.invariant.before at_one at_other c.in-Some.ensures

pub loop-cycle-preserved : goal.loop-cycle-preserved
loop-cycle-preserved c =
    let xs = c.args.first.now in
    let ys = c.args.second.now in
    let n = c.min-alike.result in
    let at_one = reached xs c.loop-cycle.cycle c.loop-cycle.one c.take_up.new.self (omega arith) c.loop-cycle.invariant.first_ahead c.take_up.ensures.same c.take_up.ensures.some in
    let at_other =
    reached ys c.loop-cycle.cycle c.loop-cycle.other c.take_up-in-loop-cycle.new.self (omega arith) c.loop-cycle.invariant.second_ahead c.take_up-in-loop-cycle.ensures.same
    c.take_up-in-loop-cycle.ensures.some in
    rw c.from-cycle.ensures
    (record {
      within = omega (arith, within xs c.loop-cycle.cycle n c.take_up.new.self at_one (omega arith) (omega arith));
      first_ahead = passed xs c.loop-cycle.cycle n c.take_up.new.self c.skip.new.self at_one c.skip.ensures;
      second_ahead = passed ys c.loop-cycle.cycle n c.take_up-in-loop-cycle.new.self c.skip-in-loop-cycle.new.self at_other c.skip-in-loop-cycle.ensures;
      before = agree_next (order_of c.args.lattice.now) c.args.level xs ys c.loop-cycle.cycle n c.take_up.new.self
          c.take_up-in-loop-cycle.new.self c.loop-cycle.invariant.before at_one
          at_other (omega arith) (omega arith) c.in_default.ensures;
    })

pub returns : goal.returns
returns c =
    streams_agree (order_of c.args.lattice.now) c.args.level c.args.first.now c.args.second.now c.requires.cycles
    (λ k below. c.loop-cycle.invariant.before k (omega arith))
