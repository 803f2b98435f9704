use Rattle.sap_commands.proofs.PartsLoaded.{next, no_room, one_more, pushed, stopped_here, there}
use Rattle.sap_commands.proofs.link.load_parts.Goals as goal

pub returns-then-is_err-clause-stopped : goal.returns-then-is_err-clause-stopped
returns-then-is_err-clause-stopped g c =
    let p = c.index-parts-place.result in
    no_room c.loop-place.invariant p (there c.args.parts.now c.loop-place.place p c.loop-place-test.true c.index-parts-place.is) c.in-Ok.one c.in-Ok.ensures

pub returns-in-Err-clause-stopped : goal.returns-in-Err-clause-stopped
returns-in-Err-clause-stopped g c =
    let p = c.index-parts-place.result in
    stopped_here c.loop-place.invariant p (there c.args.parts.now c.loop-place.place p c.loop-place-test.true c.index-parts-place.is) c.in-Err.why c.in-Err.ensures

pub loop-place-preserved : goal.loop-place-preserved
loop-place-preserved g c =
    let p = c.index-parts-place.result in
    let more = one_more c.loop-place.invariant p (there c.args.parts.now c.loop-place.place p c.loop-place-test.true c.index-parts-place.is) c.in-Ok.one c.in-Ok.ensures in
    next more (pushed _ _ _ _ _ c.push.ensures.items c.is_err.ensures.negation c.if-is_err.false)
