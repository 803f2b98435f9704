use Rattle.sap_lemmas.proofs.Common.{ap, Err}
use Rattle.sap_desk.proofs.ReadFiles.{front_opened, given_of, not_finished, not_read, open_unfinished, open_unread, stood_unfinished, stood_unread}
use Rattle.sap_desk.proofs.whole.read_front.Goals as goal

pub returns-in_err-finish-in-Ok-clause-failed : goal.returns-in_err-finish-in-Ok-clause-failed
returns-in_err-finish-in-Ok-clause-failed g c =
    λ _. not_finished _ c.in-Ok.ensures.told.asked _ _ c.in_ok-channel.ensures.number _ _ _ _ c.in_ok-channel.ensures.fresh c.in_ok-channel.ensures.told
    c.in-Ok.ensures.told.told c.in_err-finish-in-Ok.ensures.failed

pub returns-in_err-finish-in-Err-Memory-clause-failed :
    goal.returns-in_err-finish-in-Err-Memory-clause-failed
returns-in_err-finish-in-Err-Memory-clause-failed g c = λ _.
    let read = c.in-Err-Memory.ensures.memory (ap Err c.in-Err-Memory.field-0-is) in
    not_finished _ read.1.asked read.0 _ c.in_ok-channel.ensures.number _ _ _ _ c.in_ok-channel.ensures.fresh c.in_ok-channel.ensures.told read.1.told c.in_err-finish-in-Err-Memory.ensures.failed

pub returns-in_ok-finish-in-Ok-clause-bytes : goal.returns-in_ok-finish-in-Ok-clause-bytes
returns-in_ok-finish-in-Ok-clause-bytes g c = rw c.new.ensures (front_opened _ _ _ _ _ _ c.in_ok-channel.ensures.told c.in_ok-channel.ensures.there c.in-Ok.ensures.bytes)

pub returns-in-Err-Failed-clause-failed : goal.returns-in-Err-Failed-clause-failed
returns-in-Err-Failed-clause-failed g c = λ _.
    let read = c.in-Err-Failed.ensures.failed (ap Err c.in-Err-Failed.field-0-is) in
    not_read _ read.1.asked read.0 _ c.in_ok-channel.ensures.number _ _ _ c.in_ok-channel.ensures.fresh c.in_ok-channel.ensures.told read.1.told

pub returns-in_err-finish-in-Ok-clause-open : goal.returns-in_err-finish-in-Ok-clause-open
returns-in_err-finish-in-Ok-clause-open g c = λ _ _.
    open_unfinished _ c.in-Ok.ensures.told.asked _ _ c.in_ok-channel.ensures.number _ _ _ _ c.in_ok-channel.ensures.fresh c.in_ok-channel.ensures.told
    c.in-Ok.ensures.told.told c.in_err-finish-in-Ok.ensures.failed

pub returns-in_err-finish-in-Err-Memory-clause-open : goal.returns-in_err-finish-in-Err-Memory-clause-open
returns-in_err-finish-in-Err-Memory-clause-open g c = λ _ _.
    let read = c.in-Err-Memory.ensures.memory (ap Err c.in-Err-Memory.field-0-is) in
    open_unfinished _ read.1.asked read.0 _ c.in_ok-channel.ensures.number _ _ _ _ c.in_ok-channel.ensures.fresh c.in_ok-channel.ensures.told read.1.told c.in_err-finish-in-Err-Memory.ensures.failed

pub returns-in-Err-Failed-clause-open : goal.returns-in-Err-Failed-clause-open
returns-in-Err-Failed-clause-open g c = λ _ _.
    let read = c.in-Err-Failed.ensures.failed (ap Err c.in-Err-Failed.field-0-is) in
    open_unread _ read.1.asked read.0 _ c.in_ok-channel.ensures.number _ _ _ c.in_ok-channel.ensures.fresh c.in_ok-channel.ensures.told read.1.told

-- where the channel stands then

pub returns-in-Err-Failed-clause-stood : goal.returns-in-Err-Failed-clause-stood
returns-in-Err-Failed-clause-stood g c = λ _.
    let read = c.in-Err-Failed.ensures.failed (ap Err c.in-Err-Failed.field-0-is) in
    stood_unread _ read.1.asked read.0 _ _ c.in_ok-channel.ensures.number _ _ _ c.in_ok-channel.ensures.fresh c.in_ok-channel.ensures.told read.1.read read.1.told

pub returns-in_err-finish-in-Ok-clause-stood : goal.returns-in_err-finish-in-Ok-clause-stood
returns-in_err-finish-in-Ok-clause-stood g c = λ _.
    stood_unfinished _ c.in-Ok.ensures.told.asked _ _ _ c.in_ok-channel.ensures.number _ _ _ _ c.in_ok-channel.ensures.fresh c.in_ok-channel.ensures.told
    c.in-Ok.ensures.told.read c.in-Ok.ensures.told.told c.in_err-finish-in-Ok.ensures.failed

pub returns-in_err-finish-in-Err-Memory-clause-stood : goal.returns-in_err-finish-in-Err-Memory-clause-stood
returns-in_err-finish-in-Err-Memory-clause-stood g c = λ _.
    let read = c.in-Err-Memory.ensures.memory (ap Err c.in-Err-Memory.field-0-is) in
    stood_unfinished _ read.1.asked read.0 _ _ c.in_ok-channel.ensures.number _ _ _ _ c.in_ok-channel.ensures.fresh c.in_ok-channel.ensures.told
    read.1.read read.1.told c.in_err-finish-in-Err-Memory.ensures.failed

pub returns-in_ok-finish-in-Ok-clause-given : goal.returns-in_ok-finish-in-Ok-clause-given
returns-in_ok-finish-in-Ok-clause-given g c =
    rw c.new.ensures (
      c.in_ok-channel.channel,
      given_of _ _ (g.D.Desk.given c.args.desk.now) (g.D.Desk.given c.open_in.new.self) (g.D.Desk.given c.read_until.new.desk) (g.D.Desk.given c.finish.new.self)
          c.in_ok-channel.ensures.given c.in-Ok.ensures.given c.finish.ensures.given,
    )
