use Rattle.sap_lemmas.proofs.Common.{[], take_more}
use Rattle.sap_desk.proofs.Steps.{on_err}
use Rattle.sap_desk.proofs.Lines.{cut_in, fills_in, joined_at}
use Rattle.sap_desk.proofs.stream.write_parts.Goals as goal

pub returns-in_err-write-clause-failed : goal.returns-in_err-write-clause-failed
returns-in_err-write-clause-failed g c =
    let more = take_more c.args.parts.now c.loop-part.part-index (record { ref_ptr = (0, 0); now = [] }) c.loop-part-test.true in
    on_err c.from_residual.result (cut_in _ _ _ _ _ _ _ (joined_at c.args.parts.now c.loop-part.part-index _ more) c.loop-part.invariant.told c.in_err-write.ensures.failed)

pub returns-in_err-write-clause-cause : goal.returns-in_err-write-clause-cause
returns-in_err-write-clause-cause g c =
    let more = take_more c.args.parts.now c.loop-part.part-index (record { ref_ptr = (0, 0); now = [] }) c.loop-part-test.true in
    on_err c.from_residual.result (λ sure. fills_in _ _ _ _ _ _ _ (joined_at c.args.parts.now c.loop-part.part-index _ more)
    c.loop-part.invariant.told (c.in_err-write.ensures.cause (c.loop-part.invariant.sure sure)))
