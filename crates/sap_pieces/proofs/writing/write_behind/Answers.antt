use Rattle.std.proofs.Common.{◌++◌}
use Rattle.std.proofs.lemmas.Result.{on_err_weaker, on_ok_weaker}
use Rattle.sap_desk.proofs.Steps.{on_err}
use Rattle.sap_pieces.proofs.Written.{added_both, cut_longer, cut_then, fails_then, first_written, some_longer}
use Rattle.sap_pieces.proofs.writing.write_behind.Goals as goal

pub returns-in_err-write_text-clause-failed : goal.returns-in_err-write_text-clause-failed
returns-in_err-write_text-clause-failed g c =
    on_err c.from_residual.result (λ text comes. cut_longer c.args.channel c.args.beginning.now text _ _ c.in_err-write_text.ensures.failed)

pub returns-in_err-write_text-clause-cause : goal.returns-in_err-write_text-clause-cause
returns-in_err-write_text-clause-cause g c =
    on_err c.from_residual.result (λ text comes sure. some_longer c.args.channel c.args.beginning.now text _ _ (c.in_err-write_text.ensures.cause sure))

pub returns-clause-told : goal.returns-clause-told
returns-clause-told g c =
    on_ok_weaker c.write_all.result
    (λ told text comes. added_both c.args.channel c.args.beginning.now text _ _ _ c.in_ok-write_text.ensures.told (told text comes))
    c.write_all.ensures.told

pub returns-clause-failed : goal.returns-clause-failed
returns-clause-failed g c =
    on_err_weaker c.write_all.result
    (λ cut text comes.
    cut_then c.args.channel (c.args.beginning.now ++ text) text _ _ (first_written c.args.channel c.args.beginning.now text _ _ c.in_ok-write_text.ensures.told) _ (cut text comes))
    c.write_all.ensures.failed

pub returns-clause-cause : goal.returns-clause-cause
returns-clause-cause g c =
    on_err_weaker c.write_all.result
    (λ fails text comes sure.
    fails_then c.args.channel (c.args.beginning.now ++ text) text _ _ (first_written c.args.channel c.args.beginning.now text _ _ c.in_ok-write_text.ensures.told) _
    (fails text comes (c.in_ok-write_text.ensures.sure sure)))
    c.write_all.ensures.cause
