use Rattle.std.proofs.Common.{◌++◌}
use Rattle.sap_desk.specs.Whole.{FillsFile}
use Rattle.sap_desk.proofs.WholeFiles.{failed_finishing, failed_writing, fills_file, open_unfinished, open_unwritten, wrote_all}
use Rattle.sap_pieces.proofs.Files.{never_unfinished, took_all}
use Rattle.sap_pieces.proofs.writing.write_pieces.Goals as goal

pub returns-in_err-write_behind-clause-failed : goal.returns-in_err-write_behind-clause-failed
returns-in_err-write_behind-clause-failed g c = λ _ text comes.
    let made = c.in_ok-channel.ensures in
    failed_writing _ _ _ made.number _ _ _ made.fresh made.told (took_all _ _ made.number _ _ _ _ made.told (c.in_err-write_behind.ensures.failed text comes))

pub returns-in_err-write_behind-clause-cause : goal.returns-in_err-write_behind-clause-cause
returns-in_err-write_behind-clause-cause g c = λ _ sure text comes.
    let made = c.in_ok-channel.ensures in
    fills_file _ _ _ made.number _ _ _ made.told (took_all _ _ made.number _ _ _ _ made.told (c.in_err-write_behind.ensures.failed text comes))
    (c.in_err-write_behind.ensures.cause text comes (made.sure sure))

pub returns-in_err-write_behind-clause-open : goal.returns-in_err-write_behind-clause-open
returns-in_err-write_behind-clause-open g c = λ _ _.
    let made = c.in_ok-channel.ensures in
    open_unwritten _ _ _ made.number _ _ _ made.fresh made.told
    (took_all _ _ made.number _ _ _ _ made.told (c.in_err-write_behind.ensures.failed c.requires.stands.0 c.requires.stands.1))

pub returns-in_err-finish-clause-failed : goal.returns-in_err-finish-clause-failed
returns-in_err-finish-clause-failed g c = λ _ text comes.
    let made = c.in_ok-channel.ensures in
    failed_finishing _ _ _ made.number _ _ _ _ made.fresh made.told (c.in_ok-write_behind.ensures.told text comes) c.in_err-finish.ensures.failed

pub returns-in_err-finish-clause-cause : goal.returns-in_err-finish-clause-cause
returns-in_err-finish-clause-cause g c = λ _ sure text comes.
    let made = c.in_ok-channel.ensures in
    never_unfinished _ c.args.name.now made.number (FillsFile c.args.name.now (c.args.beginning.now ++ text)) (c.args.beginning.now ++ text)
    _ _ _ _ made.told (c.in_ok-write_behind.ensures.told text comes)
    (c.in_err-finish.ensures.cause (c.in_ok-write_behind.ensures.sure (made.sure sure)))

pub returns-in_err-finish-clause-open : goal.returns-in_err-finish-clause-open
returns-in_err-finish-clause-open g c = λ _ _.
    let made = c.in_ok-channel.ensures in
    open_unfinished _ _ _ made.number _ _ _ _ made.fresh made.told (c.in_ok-write_behind.ensures.told c.requires.stands.0 c.requires.stands.1) c.in_err-finish.ensures.failed

pub returns-clause-ok : goal.returns-clause-ok
returns-clause-ok g c = λ text comes.
    let made = c.in_ok-channel.ensures in
    wrote_all _ _ _ made.number _ _ _ _ made.fresh made.told (c.in_ok-write_behind.ensures.told text comes) c.in_ok-finish.ensures.told
