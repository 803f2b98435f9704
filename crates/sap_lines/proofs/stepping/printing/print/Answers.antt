use Rattle.sap_lemmas.proofs.Common.{[], ◌∙◌, ap, inr, arith, Err}
use Rattle.sap_desk.specs.Cause.{counted}
use Rattle.sap_desk.specs.Desk.{blame_at, finished, name_if_open}
use Rattle.sap_desk.proofs.Steps.{number-at}
use Rattle.sap_lines.specs.declared.stepping.stopped.FailedCall.TheVariants.{Input}
use Rattle.sap_lines.specs.declared.stepping.stopped.Stopped.TheVariants.{Call}
use Rattle.sap_lines.specs.Stepping.Followed.{Broken, FailsFor, Followed, GoesTooFar}
use Rattle.sap_lines.specs.Stepping.Pace.{printed_fault}
use Rattle.sap_lines.specs.Stepping.Printed.{CallFailed, MissingOrTooLong, Printed, Stops}
use Rattle.sap_lines.proofs.stepping.Opened.{can_open, cut_short, fails_for, from_open, from_open_then, missing, never_unfinished, printed, still_open, unchanged, unfinished, unopened}
use Rattle.sap_lines.proofs.stepping.printing.print.Goals as goal

pub follow-requires-clause-above : goal.follow-requires-clause-above
follow-requires-clause-above g c = c.in-Ok.ensures.number

pub follow-requires-clause-unread : goal.follow-requires-clause-unread
follow-requires-clause-unread g c = number-at _ _ _ _ c.in-Ok.ensures.given

pub follow-requires-clause-lines : goal.follow-requires-clause-lines
follow-requires-clause-lines g c = c.requires.lines

pub follow-requires-clause-behind : goal.follow-requires-clause-behind
follow-requires-clause-behind g c = c.requires.behind

pub follow-requires-clause-shows : goal.follow-requires-clause-shows
follow-requires-clause-shows g c = c.requires.shows

pub follow-requires-clause-room : goal.follow-requires-clause-room
follow-requires-clause-room g c = c.requires.room

pub returns-in-Ok-finish-clause-done : goal.returns-in-Ok-finish-clause-done
returns-in-Ok-finish-clause-done g c =
    from_open_then c.in-Ok.channel c.args.name.now
    (Followed (g.S.Steps.shows c.args.steps.now) (g.S.Steps.levels c.args.steps.now) (g.S.Steps.fields c.args.steps.now) c.in-Ok.channel
    c.in-Ok-follow.fault []) (Printed (g.S.Steps.shows c.args.steps.now) (g.S.Steps.levels c.args.steps.now)
    (g.S.Steps.fields c.args.steps.now) c.args.name.now c.in-Ok-follow.fault) (finished c.in-Ok.channel) (g.D.Desk.told c.args.desk.now)
    (g.D.Desk.told c.open_in.new.self) (g.D.Desk.told c.follow.new.desk) (g.D.Desk.told c.finish.new.self)
    c.in-Ok.ensures.told c.in-Ok-finish.ensures.told
    (can_open c.in-Ok.channel c.args.name.now (g.D.Desk.told c.args.desk.now) c.in-Ok.ensures.fresh c.in-Ok.ensures.there)
    (λ t n can. printed c.in-Ok.channel c.args.name.now c.in-Ok.ensures.number t n can (g.S.Steps.shows c.args.steps.now)
    (g.S.Steps.levels c.args.steps.now) (g.S.Steps.fields c.args.steps.now) c.in-Ok-follow.fault) c.in-Ok-follow.ensures.done

pub returns-in-Ok-finish-clause-faults : goal.returns-in-Ok-finish-clause-faults
returns-in-Ok-finish-clause-faults g c = c.in-Ok-finish.ensures.counts.ok.0 ∙ c.in-Ok-follow.ensures.faults ∙ c.in-Ok.ensures.counts.ok

pub returns-in-Ok-finish-clause-lost : goal.returns-in-Ok-finish-clause-lost
returns-in-Ok-finish-clause-lost g c = c.in-Ok-finish.ensures.counts.ok.1 ∙ c.in-Ok-follow.ensures.lost ∙ c.in-Ok.ensures.counts.lost_stands

pub returns-in-Ok-finish-clause-sure : goal.returns-in-Ok-finish-clause-sure
returns-in-Ok-finish-clause-sure g c = λ s. c.in-Ok-finish.ensures.sure (c.in-Ok-follow.ensures.sure (c.in-Ok.ensures.sure s))

pub returns-in-Err-finish-clause-stopped : goal.returns-in-Err-finish-clause-stopped
returns-in-Err-finish-clause-stopped g c =
    from_open_then c.in-Ok.channel c.args.name.now
    (Followed (g.S.Steps.shows c.args.steps.now) (g.S.Steps.levels c.args.steps.now) (g.S.Steps.fields c.args.steps.now) c.in-Ok.channel
    c.in-Ok-follow.fault []) (Stops (CallFailed (g.S.Steps.shows c.args.steps.now) (g.S.Steps.levels c.args.steps.now)
    (g.S.Steps.fields c.args.steps.now) c.args.name.now) (Call Input))
    (λ t. blame_at c.in-Ok.channel (name_if_open (t.uses c.in-Ok.channel)) t) (g.D.Desk.told c.args.desk.now)
    (g.D.Desk.told c.open_in.new.self) (g.D.Desk.told c.follow.new.desk) (g.D.Desk.told c.finish.new.self)
    c.in-Ok.ensures.told c.in-Err-finish.ensures.failed
    (can_open c.in-Ok.channel c.args.name.now (g.D.Desk.told c.args.desk.now) c.in-Ok.ensures.fresh c.in-Ok.ensures.there)
    (λ t n can f. inr (unfinished c.in-Ok.channel c.args.name.now c.in-Ok.ensures.number t n can (g.S.Steps.shows c.args.steps.now)
    (g.S.Steps.levels c.args.steps.now) (g.S.Steps.fields c.args.steps.now) c.in-Ok-follow.fault f)) c.in-Ok-follow.ensures.done

pub returns-in-Err-finish-clause-faults : goal.returns-in-Err-finish-clause-faults
returns-in-Err-finish-clause-faults g c =
    (c.in-Err-finish.ensures.counts.file (λ is. omega (arith, is, c.in-Ok.ensures.number))).0 ∙ ap counted (c.in-Ok-follow.ensures.faults ∙ c.in-Ok.ensures.counts.ok)

pub returns-in-Err-finish-clause-lost : goal.returns-in-Err-finish-clause-lost
returns-in-Err-finish-clause-lost g c =
    (c.in-Err-finish.ensures.counts.file (λ is. omega (arith, is, c.in-Ok.ensures.number))).1 ∙ c.in-Ok-follow.ensures.lost ∙ c.in-Ok.ensures.counts.lost_stands

pub returns-in-Err-finish-clause-sure : goal.returns-in-Err-finish-clause-sure
returns-in-Err-finish-clause-sure g c = λ s. c.in-Err-finish.ensures.sure (c.in-Ok-follow.ensures.sure (c.in-Ok.ensures.sure s))

pub returns-in-Err-finish-clause-cause : goal.returns-in-Err-finish-clause-cause
returns-in-Err-finish-clause-cause g c = λ sure.
    never_unfinished c.in-Ok.channel c.args.name.now
    (Followed (g.S.Steps.shows c.args.steps.now) (g.S.Steps.levels c.args.steps.now) (g.S.Steps.fields c.args.steps.now) c.in-Ok.channel
    c.in-Ok-follow.fault []) (Stops (FailsFor
    (MissingOrTooLong (printed_fault (g.S.Steps.levels c.args.steps.now) (g.S.Steps.fields c.args.steps.now)) c.args.name.now))
    (Call Input)) (λ t. blame_at c.in-Ok.channel (name_if_open (t.uses c.in-Ok.channel)) t) (g.D.Desk.told c.args.desk.now)
    (g.D.Desk.told c.open_in.new.self) (g.D.Desk.told c.follow.new.desk) (g.D.Desk.told c.finish.new.self)
    c.in-Ok.ensures.told c.in-Err-finish.ensures.failed (λ t n f. still_open c.in-Ok.channel f.asked f.count c.args.name.now f.gained t n f.going) c.in-Ok-follow.ensures.done
    (c.in-Err-finish.ensures.cause (c.in-Ok-follow.ensures.sure (c.in-Ok.ensures.sure sure)))

pub returns-in-Err-clause-stopped : goal.returns-in-Err-clause-stopped
returns-in-Err-clause-stopped g c =
    from_open c.in-Ok.channel c.args.name.now
    (Broken (g.S.Steps.shows c.args.steps.now) (g.S.Steps.levels c.args.steps.now) (g.S.Steps.fields c.args.steps.now) c.in-Ok.channel
    c.in-Err.why) (Stops (CallFailed (g.S.Steps.shows c.args.steps.now) (g.S.Steps.levels c.args.steps.now)
    (g.S.Steps.fields c.args.steps.now) c.args.name.now) (Call c.in-Err.why)) (g.D.Desk.told c.args.desk.now)
    (g.D.Desk.told c.open_in.new.self) (g.D.Desk.told c.follow.new.desk) c.in-Ok.ensures.told
    (can_open c.in-Ok.channel c.args.name.now (g.D.Desk.told c.args.desk.now) c.in-Ok.ensures.fresh c.in-Ok.ensures.there)
    (λ t n can b. inr (cut_short c.in-Ok.channel c.args.name.now c.in-Ok.ensures.number t n can (g.S.Steps.shows c.args.steps.now)
    (g.S.Steps.levels c.args.steps.now) (g.S.Steps.fields c.args.steps.now) c.in-Err.why b)) c.in-Err.ensures.broken

pub returns-in-Err-clause-faults : goal.returns-in-Err-clause-faults
returns-in-Err-clause-faults g c = c.in-Err.ensures.faults ∙ ap counted c.in-Ok.ensures.counts.ok

pub returns-in-Err-clause-lost : goal.returns-in-Err-clause-lost
returns-in-Err-clause-lost g c = c.in-Err.ensures.lost ∙ c.in-Ok.ensures.counts.lost_stands

pub returns-in-Err-clause-sure : goal.returns-in-Err-clause-sure
returns-in-Err-clause-sure g c = λ s. c.in-Err.ensures.sure (c.in-Ok.ensures.sure s)

pub returns-in-Err-clause-cause : goal.returns-in-Err-clause-cause
returns-in-Err-clause-cause g c = λ sure.
    from_open c.in-Ok.channel c.args.name.now
    (FailsFor (GoesTooFar (printed_fault (g.S.Steps.levels c.args.steps.now) (g.S.Steps.fields c.args.steps.now)) c.in-Ok.channel)
    c.in-Err.why) (Stops (FailsFor (MissingOrTooLong
    (printed_fault (g.S.Steps.levels c.args.steps.now) (g.S.Steps.fields c.args.steps.now)) c.args.name.now)) (Call c.in-Err.why))
    (g.D.Desk.told c.args.desk.now) (g.D.Desk.told c.open_in.new.self) (g.D.Desk.told c.follow.new.desk) c.in-Ok.ensures.told
    (can_open c.in-Ok.channel c.args.name.now (g.D.Desk.told c.args.desk.now) c.in-Ok.ensures.fresh c.in-Ok.ensures.there)
    (λ t n can b. fails_for c.in-Ok.channel c.args.name.now c.in-Ok.ensures.number t n can c.in-Err.why
    (printed_fault (g.S.Steps.levels c.args.steps.now) (g.S.Steps.fields c.args.steps.now)) b) (c.in-Err.ensures.cause (c.in-Ok.ensures.sure sure))

pub returns-in-Err-Failed-clause-stopped : goal.returns-in-Err-Failed-clause-stopped
returns-in-Err-Failed-clause-stopped g c =
    unopened (g.S.Steps.shows c.args.steps.now) (g.S.Steps.levels c.args.steps.now) (g.S.Steps.fields c.args.steps.now) c.args.name.now
    (g.D.Desk.told c.args.desk.now) (g.D.Desk.told c.open_in.new.self) (c.in-Err-Failed.ensures.failed (ap Err c.in-Err-Failed.field-0-is))

pub returns-in-Err-Failed-clause-faults : goal.returns-in-Err-Failed-clause-faults
returns-in-Err-Failed-clause-faults g c = c.in-Err-Failed.ensures.counts.failed (ap Err c.in-Err-Failed.field-0-is)

pub returns-in-Err-Failed-clause-lost : goal.returns-in-Err-Failed-clause-lost
returns-in-Err-Failed-clause-lost g c = c.in-Err-Failed.ensures.counts.lost_stands

pub returns-in-Err-Failed-clause-sure : goal.returns-in-Err-Failed-clause-sure
returns-in-Err-Failed-clause-sure g c = c.in-Err-Failed.ensures.sure

pub returns-in-Err-Failed-clause-cause : goal.returns-in-Err-Failed-clause-cause
returns-in-Err-Failed-clause-cause g c = λ sure.
    missing (printed_fault (g.S.Steps.levels c.args.steps.now) (g.S.Steps.fields c.args.steps.now)) c.args.name.now
    (g.D.Desk.told c.args.desk.now) (g.D.Desk.told c.open_in.new.self)
    (c.in-Err-Failed.ensures.failed (ap Err c.in-Err-Failed.field-0-is)) (c.in-Err-Failed.ensures.missing (ap Err c.in-Err-Failed.field-0-is) sure)

pub returns-in-Err-Memory-clause-stopped : goal.returns-in-Err-Memory-clause-stopped
returns-in-Err-Memory-clause-stopped g c =
    unchanged (CallFailed (g.S.Steps.shows c.args.steps.now) (g.S.Steps.levels c.args.steps.now) (g.S.Steps.fields c.args.steps.now)
    c.args.name.now) (g.D.Desk.told c.args.desk.now) (g.D.Desk.told c.open_in.new.self) (c.in-Err-Memory.ensures.memory (ap Err c.in-Err-Memory.field-0-is))

pub returns-in-Err-Memory-clause-faults : goal.returns-in-Err-Memory-clause-faults
returns-in-Err-Memory-clause-faults g c = c.in-Err-Memory.ensures.counts.memory (ap Err c.in-Err-Memory.field-0-is)

pub returns-in-Err-Memory-clause-lost : goal.returns-in-Err-Memory-clause-lost
returns-in-Err-Memory-clause-lost g c = c.in-Err-Memory.ensures.counts.lost_stands

pub returns-in-Err-Memory-clause-sure : goal.returns-in-Err-Memory-clause-sure
returns-in-Err-Memory-clause-sure g c = c.in-Err-Memory.ensures.sure

pub returns-in-Err-Memory-clause-cause : goal.returns-in-Err-Memory-clause-cause
returns-in-Err-Memory-clause-cause g c =
    λ sure. unchanged (FailsFor (MissingOrTooLong (printed_fault (g.S.Steps.levels c.args.steps.now) (g.S.Steps.fields c.args.steps.now))
    c.args.name.now)) (g.D.Desk.told c.args.desk.now) (g.D.Desk.told c.open_in.new.self) (c.in-Err-Memory.ensures.memory (ap Err c.in-Err-Memory.field-0-is))
