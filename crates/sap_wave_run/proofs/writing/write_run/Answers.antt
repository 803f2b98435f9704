use Rattle.std.proofs.Common.{◌≡◌, ◌≤◌, ◌++◌, ◌∙◌, List, length, sym, subst, arith}
use Rattle.std.specs.Prelude.{◌^◌}
use Rattle.std.proofs.lemmas.Result.{on_ok_weaker}
use Rattle.sap_maps.specs.Maps.{Valuation}
use Rattle.sap_meaning.specs.Cycle.{Tagged as Given}
use Rattle.sap_net.specs.Prelude.{IsNetlist, SomeRun}
use Rattle.sap_sim.specs.Prelude.{numbers_of, IsRunOn}
use Rattle.sap_wave_run.specs.Ahead.{cycles_ahead}
use Rattle.sap_wave_run.specs.ToCome.{IsToCome}
use Rattle.sap_wave_run.proofs.Beginning.{blocks_text, comes, some_run, whole}
use Rattle.sap_wave_run.proofs.writing.write_run.Goals as goal
use Rattle.sap_wave_run.proofs.writing.write_run.Given.{Over}
use Rattle.sap_wave_run.proofs.writing.write_run.Goals.{After-new-cycles}

-- the netlist's run on the stream
the_run : (g : Over) (c : After-new-cycles g) → (run : List Valuation)
    × IsRunOn c.args.recording.simulation.runner.net (numbers_of c.args.lattice.now c.args.recording.simulation.runner.net) c.args.stream.now run
the_run g c =
    let n = c.args.recording.simulation.runner.net in
    some_run c.args.lattice.now c.args.recording c.args.stream.now c.requires.ready c.requires.fits c.lawful.ensures.codes
    (subst IsNetlist c.netlist-2.ensures c.rules.ensures) (subst SomeRun c.netlist.ensures c.one_run.ensures.some)

-- the blocks of its cycles are to come
to_come : (g : Over) (c : After-new-cycles g)
    → IsToCome c.args.lattice.now c.args.recording.simulation c.args.recording.dumper c.args.recording.places.items (cycles_ahead c.new-cycles.result)
    (blocks_text c.args.recording.simulation.runner.net (the_run g c).0)
to_come g c =
    let few : length c.args.stream.now ≤ 2 ^ 48 = omega (arith, c.cycles.ensures.few) in
    let ahead : c.args.stream.now ≡ cycles_ahead c.new-cycles.result = sym (c.new-cycles.ensures ∙ c.spans.ensures) in
    subst (λ (lines : List (List Given)). IsToCome c.args.lattice.now c.args.recording.simulation c.args.recording.dumper
    c.args.recording.places.items lines (blocks_text c.args.recording.simulation.runner.net (the_run g c).0)) ahead
    (comes c.args.lattice.now c.args.recording c.args.stream.now c.requires.ready c.requires.fits (the_run g c).0 (the_run g c).1 few)

pub write_pieces-requires-clause-stands : goal.write_pieces-requires-clause-stands
write_pieces-requires-clause-stands g c =
    let d = (goal.at.write_pieces-requires-clause-stands g c).After-new-cycles in
    (blocks_text c.args.recording.simulation.runner.net (the_run g d).0, to_come g d)

pub returns-clause-ok : goal.returns-clause-ok
returns-clause-ok g c =
    let d = (goal.at.returns-clause-ok g c).After-new-cycles in
    let text = blocks_text c.args.recording.simulation.runner.net (the_run g d).0 in
    on_ok_weaker c.write_pieces.result
    (λ told. (
      c.as_slice.result.now ++ text,
      whole c.args.lattice.now c.args.recording c.args.stream.now c.requires.ready c.requires.fits (the_run g d).0 (the_run g d).1 c.as_slice.result.now c.as_slice.ensures,
      told text (to_come g d),
    ))
    c.write_pieces.ensures.ok

pub returns-clause-failed : goal.returns-clause-failed
returns-clause-failed g c = λ is.
    let d = (goal.at.returns-clause-failed g c).After-new-cycles in
    let text = blocks_text c.args.recording.simulation.runner.net (the_run g d).0 in (
      c.as_slice.result.now ++ text,
      whole c.args.lattice.now c.args.recording c.args.stream.now c.requires.ready c.requires.fits (the_run g d).0 (the_run g d).1 c.as_slice.result.now c.as_slice.ensures,
      c.write_pieces.ensures.failed is text (to_come g d),
      λ sure. c.write_pieces.ensures.cause is sure text (to_come g d),
    )
