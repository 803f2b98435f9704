use Rattle.std.proofs.Common.{◌≡◌, ◌∙◌, ap}
use Rattle.std.proofs.lemmas.Result.{IfOk-at_ok, err_from_is_err_and}
use Rattle.sap_check.specs.Checked.{levels_in, tree_in}
use Rattle.sap_lattice.specs.Levels.{Levels}
use Rattle.sap_report.specs.Report.{report_text}
use Rattle.sap_files.specs.Steps.{whole}
use Rattle.sap_files.proofs.Designs.{text_in}
use Rattle.sap_files.proofs.Ended.{gave, past, quiet_self, reading_ended, starved}
use Rattle.sap_files.proofs.Lattices.{whole_same}
use Rattle.sap_files.proofs.Reading.{reading_in}
use Rattle.sap_commands.proofs.ReportsAlike.{reports_same}
use Rattle.sap_commands.proofs.report.report.Goals as goal

pub returns-in_err-levels : goal.returns-in_err-levels
returns-in_err-levels g c =
    let p = err_from_is_err_and c.from_residual.result c.from_residual.ensures.1 in
    rw (p.1, p.2) (reading_ended c.in_err-levels.ensures)

pub returns-in_err-checked : goal.returns-in_err-checked
returns-in_err-checked g c =
    let p = err_from_is_err_and c.from_residual-in_err-checked.result c.from_residual-in_err-checked.ensures.1 in
    let l = c.in_ok-levels.levels in
    let same = whole_same c.in_ok-levels.ensures.0 l c.in_ok-levels.ensures.2 in
    rw (p.1, p.2) (past (whole l) c.in_ok-levels.ensures.1 c.in_ok-levels.ensures.2 (reading_ended (reading_in l (whole l) same c.in_err-checked.ensures)))

pub returns-in_err-text : goal.returns-in_err-text
returns-in_err-text g c =
    let p = err_from_is_err_and c.from_residual-in_err-text.result c.from_residual-in_err-text.ensures.1 in
    let l = c.in_ok-levels.levels in
    let d = tree_in c.in_ok-checked.checked in
    let (bytes, reads, formed, levels) = c.in_ok-checked.ensures in
    let same = whole_same c.in_ok-levels.ensures.0 l c.in_ok-levels.ensures.2 in
    rw (p.1, p.2) (past (whole l) c.in_ok-levels.ensures.1 c.in_ok-levels.ensures.2 (past d reads (text_in l (whole l) bytes d same formed) (starved _ (quiet_self _))))

pub returns : goal.returns
returns g c =
    let l = c.in_ok-levels.levels in
    let d = tree_in c.in_ok-checked.checked in
    let (bytes, reads, formed, levels) = c.in_ok-checked.ensures in
    let same = whole_same c.in_ok-levels.ensures.0 l c.in_ok-levels.ensures.2 in
    past (whole l) c.in_ok-levels.ensures.1 c.in_ok-levels.ensures.2
    (past d reads (text_in l (whole l) bytes d same formed)
    (gave c.in_ok-text.text (IfOk-at_ok (λ text. text ≡ report_text (levels_in c.in_ok-checked.checked) d) c.in_ok-text.was
    c.report_text-made.ensures ∙ ap (λ (ls : Levels). report_text ls d) levels ∙ reports_same l (whole l) same d) c.put.ensures))
