use Rattle.sap_files.proofs.Given.{given_cut, given_whole}
use Rattle.sap_files.proofs.output.put_pieces.Goals as goal

pub returns-in-Ok : goal.returns-in-Ok
returns-in-Ok g c = λ text comes.
    let done = c.in-Ok.ensures in
    given_whole text _ _ (done.told text comes) done.counts.ok done.lost done.sure

pub returns-in-Err : goal.returns-in-Err
returns-in-Err g c = λ text comes.
    let cut = c.in-Err.ensures in
    given_cut text _ _ (cut.failed text comes) cut.counts.failed cut.lost cut.sure (cut.cause text comes)
