use Rattle.std.proofs.Common.{ap}
use Rattle.std.proofs.lemmas.Result.{err_from_is_err_and}
use Rattle.sap_check.specs.Checked.{levels_in, tree_in}
use Rattle.sap_stim.specs.declared.stimulus.Parsed.{Parsed}
use Rattle.sap_sim.specs.Labelled.RunOf.{read_for as design_stimulus}
use Rattle.sap_files.specs.Prelude.{AreTraceLines, whole}
use Rattle.sap_files.proofs.Alike.{read_in}
use Rattle.sap_files.proofs.Ended.{got, quiet_self, reading_ended, starved}
use Rattle.sap_files.proofs.Lattices.{whole_same}
use Rattle.sap_files.proofs.PrintedEnds.{printed_same}
use Rattle.sap_files.proofs.Reading.{reading_in}
use Rattle.sap_files.proofs.TracesAlike.{lines_in}
use Rattle.sap_commands.proofs.CheckedDesigns.{checked_past, levels_same}
use Rattle.sap_commands.proofs.trace.trace.Goals as goal

pub returns-in_err-levels : goal.returns-in_err-levels
returns-in_err-levels g c =
    let p = err_from_is_err_and c.from_residual.result c.from_residual.ensures.1 in
    rw (p.1, p.2) (reading_ended c.in_err-levels.ensures)

pub returns-in_err-checked : goal.returns-in_err-checked
returns-in_err-checked g c =
    let p = err_from_is_err_and c.from_residual-in_err-checked.result c.from_residual-in_err-checked.ensures.1 in
    let l = c.in_ok-levels.levels in
    let same = whole_same c.in_ok-levels.ensures.0 l c.in_ok-levels.ensures.2 in
    rw (p.1, p.2) (got (whole l) c.in_ok-levels.ensures (reading_ended (reading_in l (whole l) same c.in_err-checked.ensures)))

pub returns-in_err-netlist : goal.returns-in_err-netlist
returns-in_err-netlist g c =
    let p = err_from_is_err_and c.from_residual-in_err-netlist.result c.from_residual-in_err-netlist.ensures.1 in
    let l = c.in_ok-levels.levels in
    let same = whole_same c.in_ok-levels.ensures.0 l c.in_ok-levels.ensures.2 in
    rw (p.1, p.2)
    (got (whole l) c.in_ok-levels.ensures (checked_past l (whole l) c.in_ok-checked.checked same c.in_ok-checked.ensures (starved _ (quiet_self _))))

pub print_trace-requires : goal.print_trace-requires
print_trace-requires g c = c.in_ok-netlist.ensures.stands

pub returns : goal.returns
returns g c =
    let l = c.in_ok-levels.levels in
    let ls = whole l in
    let k = levels_in c.in_ok-checked.checked in
    let d = tree_in c.in_ok-checked.checked in
    let same = whole_same c.in_ok-levels.ensures.0 l c.in_ok-levels.ensures.2 in
    let alike = levels_same l ls c.in_ok-checked.checked same c.in_ok-checked.ensures in
    got ls c.in_ok-levels.ensures
    (checked_past l ls c.in_ok-checked.checked same c.in_ok-checked.ensures
    (printed_same c.args.stimulus.now (AreTraceLines k d) (AreTraceLines ls d) (λ bytes. (design_stimulus k d bytes).fault) (λ bytes. (design_stimulus ls d bytes).fault)
    (λ bytes given lines. (lines.0, lines_in k ls alike d bytes _ lines.1))
    (λ bytes. ap (λ (p : Parsed). p.fault) (read_in k ls alike d bytes)) _ _ _ c.print_trace.ensures))
