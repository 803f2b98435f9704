use Rattle.sap_desk.proofs.WholeFiles.{wrote_all, failed_finishing, fills_file, open_unfinished, open_unwritten}
use Rattle.sap_desk.proofs.whole.write_file.Goals as goal

pub returns-in_err-write-clause-cause : goal.returns-in_err-write-clause-cause
returns-in_err-write-clause-cause g c = λ _ sure. fills_file _ _ _ c.in_ok-channel.ensures.number _ _ _ c.in_ok-channel.ensures.told
    c.in_err-write.ensures.failed (c.in_err-write.ensures.cause (c.in_ok-channel.ensures.sure sure))

pub returns-in_err-finish-clause-failed : goal.returns-in_err-finish-clause-failed
returns-in_err-finish-clause-failed g c =
    λ _. failed_finishing _ _ _ c.in_ok-channel.ensures.number _ _ _ _ c.in_ok-channel.ensures.fresh c.in_ok-channel.ensures.told
    c.in_ok-write.ensures.told c.in_err-finish.ensures.failed

pub returns-clause-ok : goal.returns-clause-ok
returns-clause-ok g c = wrote_all _ _ _ c.in_ok-channel.ensures.number _ _ _ _ c.in_ok-channel.ensures.fresh c.in_ok-channel.ensures.told
    c.in_ok-write.ensures.told c.in_ok-finish.ensures.told

pub returns-in_err-write-clause-open : goal.returns-in_err-write-clause-open
returns-in_err-write-clause-open g c = λ _ _. open_unwritten _ _ _ c.in_ok-channel.ensures.number _ _ _ c.in_ok-channel.ensures.fresh
    c.in_ok-channel.ensures.told c.in_err-write.ensures.failed

pub returns-in_err-finish-clause-open : goal.returns-in_err-finish-clause-open
returns-in_err-finish-clause-open g c = λ _ _. open_unfinished _ _ _ c.in_ok-channel.ensures.number _ _ _ _ c.in_ok-channel.ensures.fresh
    c.in_ok-channel.ensures.told c.in_ok-write.ensures.told c.in_err-finish.ensures.failed
