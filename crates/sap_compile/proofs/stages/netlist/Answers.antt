use Rattle.std.proofs.Common.{arith}
use Rattle.sap_ir.specs.Prelude.{source_of, nested_of}
use Rattle.sap_compile.proofs.stages.Joined.{stands_for_the_same}
use Rattle.sap_compile.proofs.stages.Small.{stays_small}
use Rattle.sap_compile.proofs.stages.Starting.{starts_as_the_same}
use Rattle.sap_compile.proofs.stages.netlist.Goals as goal

pub lower-requires : goal.lower-requires
lower-requires c = c.in_ok-source.ensures.once c.requires.once

pub returns-clause-stands : goal.returns-clause-stands
returns-clause-stands c =
    stands_for_the_same (nested_of c.args.program.now) (source_of c.in_ok-source.source) c.in_ok-lowered.lowered c.in_ok-net.net c.rules.ensures
    c.in_ok-source.ensures.declares c.in_ok-source.ensures.same c.in_ok-lowered.ensures.declares c.in_ok-lowered.ensures.same c.rules-2.ensures c.one_run.ensures.some
    c.rules-3.ensures c.in_ok-net.ensures.declares c.in_ok-net.ensures.same c.in_ok-net.ensures.numbered

pub returns-clause-starts : goal.returns-clause-starts
returns-clause-starts c =
    starts_as_the_same (nested_of c.args.program.now) (source_of c.in_ok-source.source) c.in_ok-lowered.lowered c.in_ok-net.net
    c.in_ok-source.ensures.declares c.in_ok-lowered.ensures.declares c.in_ok-net.ensures.declares

pub returns-clause-small : goal.returns-clause-small
returns-clause-small c =
    let a = stays_small c.in_ok-lowered.lowered c.in_ok-net.net c.in_ok-lowered.ensures.copies c.in_ok-net.ensures.declares c.in_ok-net.ensures.few in
    let b = c.in_ok-lowered.ensures.small in
    let d = c.in_ok-source.ensures.small in
    omega (arith, a, b, d)
