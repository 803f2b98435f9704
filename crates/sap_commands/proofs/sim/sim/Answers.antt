use Rattle.sap_lemmas.proofs.Common.{ap, err_from_is_err_and}
use Rattle.sap_stim.specs.declared.stimulus.Parsed.{Parsed}
use Rattle.sap_sim.specs.Simulated.{read_for as module_stimulus}
use Rattle.sap_files.specs.Prelude.{AreModuleRows, whole}
use Rattle.sap_files.proofs.Ended.{got, past, reading_ended}
use Rattle.sap_files.proofs.Lattices.{whole_same}
use Rattle.sap_files.proofs.NetsAlike.{read_net_in, simulated_in}
use Rattle.sap_files.proofs.PrintedEnds.{printed_same}
use Rattle.sap_commands.proofs.sim.sim.Goals as goal

pub returns-in_err-levels : goal.returns-in_err-levels
returns-in_err-levels g c =
    let p = err_from_is_err_and c.from_residual.result c.from_residual.ensures.1 in
    rw (p.1, p.2) (reading_ended c.in_err-levels.ensures)

pub returns-in_err-netlist : goal.returns-in_err-netlist
returns-in_err-netlist g c =
    let p = err_from_is_err_and c.from_residual-in_err-netlist.result c.from_residual-in_err-netlist.ensures.1 in
    rw (p.1, p.2) (past (whole c.in_ok-levels.levels) c.in_ok-levels.ensures.1 c.in_ok-levels.ensures.2 (reading_ended c.in_err-netlist.ensures))

pub returns : goal.returns
returns g c =
    let k = c.in_ok-levels.levels in
    let ls = whole k in
    let n = c.in_ok-netlist.netlist in
    let same = whole_same c.in_ok-levels.ensures.0 k c.in_ok-levels.ensures.2 in
    past ls c.in_ok-levels.ensures.1 c.in_ok-levels.ensures.2
    (got n c.in_ok-netlist.ensures
    (printed_same c.args.stimulus.now (AreModuleRows k n) (AreModuleRows ls n) (λ bytes. (module_stimulus k n bytes).fault) (λ bytes. (module_stimulus ls n bytes).fault)
    (λ bytes given rows. (rows.0, simulated_in k ls same n bytes _ rows.1))
    (λ bytes. ap (λ (p : Parsed). p.fault) (read_net_in k ls same n bytes)) _ _ _ c.print_rows.ensures))
