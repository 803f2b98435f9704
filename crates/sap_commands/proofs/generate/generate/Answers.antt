use Rattle.std.proofs.lemmas.Result.{err_from_is_err_and}
use Rattle.sap_files.proofs.Ended.{gave, quiet_self, starved}
use Rattle.sap_commands.proofs.generate.generate.Goals as goal

pub returns-in_err-text : goal.returns-in_err-text
returns-in_err-text g c =
    let p = err_from_is_err_and c.from_residual.result c.from_residual.ensures.1 in
    rw (p.1, p.2) (starved _ (quiet_self _))

pub returns : goal.returns
returns g c = gave c.in_ok-text.text c.in_ok-text.ensures c.put.ensures
