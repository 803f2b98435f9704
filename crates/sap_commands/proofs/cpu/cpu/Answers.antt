use Rattle.std.proofs.lemmas.Result.{err_from_is_err_and}
use Rattle.sap_files.proofs.Ended.{gave, got, quiet_self, reading_ended, starved}
use Rattle.sap_commands.proofs.cpu.cpu.Goals as goal

pub returns-in_err-a : goal.returns-in_err-a
returns-in_err-a g c =
    let p = err_from_is_err_and c.from_residual.result c.from_residual.ensures.1 in
    rw (p.1, p.2) (reading_ended c.in_err-a.ensures)

pub returns-in_err-b : goal.returns-in_err-b
returns-in_err-b g c =
    let p = err_from_is_err_and c.from_residual-in_err-b.result c.from_residual-in_err-b.ensures.1 in
    rw (p.1, p.2) (got c.in_ok-a.a c.in_ok-a.ensures (reading_ended c.in_err-b.ensures))

pub returns-in_err-text : goal.returns-in_err-text
returns-in_err-text g c =
    let p = err_from_is_err_and c.from_residual-in_err-text.result c.from_residual-in_err-text.ensures.1 in
    rw (p.1, p.2) (got c.in_ok-a.a c.in_ok-a.ensures (got c.in_ok-b.b c.in_ok-b.ensures (starved _ (quiet_self _))))

pub returns : goal.returns
returns g c =
    got c.in_ok-a.a c.in_ok-a.ensures (got c.in_ok-b.b c.in_ok-b.ensures (gave c.in_ok-text.text c.in_ok-text.ensures c.put.ensures))
