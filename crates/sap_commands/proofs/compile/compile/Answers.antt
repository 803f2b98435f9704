use Rattle.std.proofs.lemmas.Result.{err_from_is_err_and}
use Rattle.sap_check.specs.Checked.{levels_in, tree_in}
use Rattle.sap_files.specs.Steps.{whole}
use Rattle.sap_files.proofs.Ended.{got, quiet_self, reading_ended, starved, wrote}
use Rattle.sap_files.proofs.Lattices.{whole_same}
use Rattle.sap_files.proofs.Reading.{reading_in}
use Rattle.sap_commands.proofs.CheckedDesigns.{checked_past, levels_same}
use Rattle.sap_commands.proofs.ModulesAlike.{text_in}
use Rattle.sap_commands.proofs.compile.compile.Goals as goal

pub returns-in_err-levels : goal.returns-in_err-levels
returns-in_err-levels g c =
    let p = err_from_is_err_and c.from_residual.result c.from_residual.ensures.1 in
    rw (p.1, p.2) (reading_ended c.in_err-levels.ensures)

pub returns-in_err-checked : goal.returns-in_err-checked
returns-in_err-checked g c =
    let p = err_from_is_err_and c.from_residual-in_err-checked.result c.from_residual-in_err-checked.ensures.1 in
    let l = c.in_ok-levels.levels in
    let same = whole_same c.in_ok-levels.ensures.0 l c.in_ok-levels.ensures.2 in
    rw (p.1, p.2) (got (whole l) c.in_ok-levels.ensures (reading_ended (reading_in l (whole l) same c.in_err-checked.ensures)))

pub returns-in_err-text : goal.returns-in_err-text
returns-in_err-text g c =
    let p = err_from_is_err_and c.from_residual-in_err-text.result c.from_residual-in_err-text.ensures.1 in
    let l = c.in_ok-levels.levels in
    let same = whole_same c.in_ok-levels.ensures.0 l c.in_ok-levels.ensures.2 in
    rw (p.1, p.2)
    (got (whole l) c.in_ok-levels.ensures (checked_past l (whole l) c.in_ok-checked.checked same c.in_ok-checked.ensures (starved _ (quiet_self _))))

pub returns : goal.returns
returns g c =
    let l = c.in_ok-levels.levels in
    let checked = c.in_ok-checked.checked in
    let text = c.in_ok-text.text in
    let same = whole_same c.in_ok-levels.ensures.0 l c.in_ok-levels.ensures.2 in
    let alike = levels_same l (whole l) checked same c.in_ok-checked.ensures in
    got (whole l) c.in_ok-levels.ensures
    (checked_past l (whole l) checked same c.in_ok-checked.ensures
    (wrote text (text_in (levels_in checked) (whole l) alike (tree_in checked) text c.in_ok-text.ensures) c.write.ensures))
