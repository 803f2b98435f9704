use Rattle.sap_lemmas.proofs.Common.{err_from_is_err_and, None}
use Rattle.sap_files.specs.Steps.{whole}
use Rattle.sap_files.proofs.Ended.{chosen, got, past, reading_ended, wrote}
use Rattle.sap_files.proofs.Lattices.{whole_same}
use Rattle.sap_commands.proofs.Taints.{tainted_in, untagged_ended}
use Rattle.sap_commands.proofs.taint.taint.Goals as goal

pub returns-in_err-levels : goal.returns-in_err-levels
returns-in_err-levels g c =
    let p = err_from_is_err_and c.from_residual.result c.from_residual.ensures.1 in
    rw (p.1, p.2) (reading_ended c.in_err-levels.ensures)

pub returns-in_err-netlist : goal.returns-in_err-netlist
returns-in_err-netlist g c =
    let p = err_from_is_err_and c.from_residual-in_err-netlist.result c.from_residual-in_err-netlist.ensures.1 in
    rw (p.1, p.2) (past (whole c.in_ok-levels.levels) c.in_ok-levels.ensures.1 c.in_ok-levels.ensures.2 (reading_ended c.in_err-netlist.ensures))

pub returns-in_err-text : goal.returns-in_err-text
returns-in_err-text g c =
    let p = err_from_is_err_and c.from_residual-in_err-text.result c.from_residual-in_err-text.ensures.1 in
    let n = c.in_ok-netlist.netlist in
    rw (p.1, p.2)
    (past (whole c.in_ok-levels.levels) c.in_ok-levels.ensures.1 c.in_ok-levels.ensures.2
    (got n c.in_ok-netlist.ensures (untagged_ended (whole c.in_ok-levels.levels) n c.args.out.now _ _ c.in_err-text.ensures)))

pub returns : goal.returns
returns g c =
    let k = c.in_ok-levels.levels in
    let n = c.in_ok-netlist.netlist in
    let same = whole_same c.in_ok-levels.ensures.0 k c.in_ok-levels.ensures.2 in
    let (room, is) = c.in_ok-text.ensures in
    past (whole k) c.in_ok-levels.ensures.1 c.in_ok-levels.ensures.2
    (got n c.in_ok-netlist.ensures (chosen None room (wrote c.in_ok-text.text (tainted_in k (whole k) same n c.in_ok-text.text is) c.write.ensures)))
