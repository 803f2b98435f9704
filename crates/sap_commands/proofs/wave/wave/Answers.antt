use Rattle.std.proofs.lemmas.Result.{err_from_is_err_and}
use Rattle.sap_files.specs.Steps.{whole}
use Rattle.sap_files.proofs.Ended.{got, past, reading_ended}
use Rattle.sap_files.proofs.Lattices.{whole_same}
use Rattle.sap_commands.proofs.Waves.{run_asked_in}
use Rattle.sap_commands.proofs.wave.wave.Goals as goal

pub returns-in_err-levels : goal.returns-in_err-levels
returns-in_err-levels g c =
    let p = err_from_is_err_and c.from_residual.result c.from_residual.ensures.1 in
    rw (p.1, p.2) (reading_ended c.in_err-levels.ensures)

pub returns-in_err-netlist : goal.returns-in_err-netlist
returns-in_err-netlist g c =
    let p = err_from_is_err_and c.from_residual-in_err-netlist.result c.from_residual-in_err-netlist.ensures.1 in
    rw (p.1, p.2) (past (whole c.in_ok-levels.levels) c.in_ok-levels.ensures.1 c.in_ok-levels.ensures.2 (reading_ended c.in_err-netlist.ensures))

pub returns : goal.returns
returns g c =
    let k = c.in_ok-levels.levels in
    let n = c.in_ok-netlist.netlist in
    let same = whole_same c.in_ok-levels.ensures.0 k c.in_ok-levels.ensures.2 in
    past (whole k) c.in_ok-levels.ensures.1 c.in_ok-levels.ensures.2
    (got n c.in_ok-netlist.ensures (run_asked_in k (whole k) same c.args.stimulus.now c.args.out.now n _ _ _ c.record.ensures))
