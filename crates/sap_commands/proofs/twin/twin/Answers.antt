use Rattle.std.proofs.lemmas.Result.{err_from_is_err_and}
use Rattle.sap_files.specs.Steps.{whole}
use Rattle.sap_files.proofs.Ended.{quiet_self, starved}
use Rattle.sap_files.proofs.Lattices.{whole_same}
use Rattle.sap_commands.proofs.CheckedDesigns.{levels_same}
use Rattle.sap_commands.proofs.TwinEnds.{designed, no_design, no_lattice, no_level}
use Rattle.sap_commands.proofs.twin.twin.Goals as goal

pub returns-in_err-levels : goal.returns-in_err-levels
returns-in_err-levels g c =
    let p = err_from_is_err_and c.from_residual.result c.from_residual.ensures.1 in
    rw (p.1, p.2) (no_lattice c.args.lattice.now c.args.design.now c.args.first.now c.args.second.now c.args.level.now _ _ _ c.in_err-levels.ensures)

pub returns-in_err-at : goal.returns-in_err-at
returns-in_err-at g c =
    let p = err_from_is_err_and c.from_residual-in_err-at.result c.from_residual-in_err-at.ensures.1 in
    let (bytes, reads, stands) = c.in_ok-levels.ensures in
    rw (p.1, p.2) (no_level c.args.lattice.now c.args.design.now c.args.first.now c.args.second.now c.args.level.now _ _ bytes c.in_ok-levels.levels
    reads stands _ c.in_err-at.ensures.0 c.in_err-at.ensures.1)

pub returns-in_err-checked : goal.returns-in_err-checked
returns-in_err-checked g c =
    let p = err_from_is_err_and c.from_residual-in_err-checked.result c.from_residual-in_err-checked.ensures.1 in
    let (bytes, reads, stands) = c.in_ok-levels.ensures in
    rw (p.1, p.2) (no_design c.args.lattice.now c.args.design.now c.args.first.now c.args.second.now c.args.level.now _ _ bytes c.in_ok-levels.levels
    reads stands c.in_ok-at.at c.in_ok-at.ensures _ _ c.in_err-checked.ensures)

pub returns-in_err-netlist : goal.returns-in_err-netlist
returns-in_err-netlist g c =
    let p = err_from_is_err_and c.from_residual-in_err-netlist.result c.from_residual-in_err-netlist.ensures.1 in
    let (bytes, reads, stands) = c.in_ok-levels.ensures in
    rw (p.1, p.2) (designed c.args.lattice.now c.args.design.now c.args.first.now c.args.second.now c.args.level.now _ _ bytes c.in_ok-levels.levels
    reads stands c.in_ok-at.at c.in_ok-at.ensures c.in_ok-checked.checked _ c.in_ok-checked.ensures _ _ (starved _ (quiet_self _)))

pub compare-requires : goal.compare-requires
compare-requires g c =
    let l = c.in_ok-levels.levels in
    let (bytes, reads, stands) = c.in_ok-levels.ensures in
    (bytes, whole l, stands, levels_same l (whole l) c.in_ok-checked.checked (whole_same bytes l stands) c.in_ok-checked.ensures)

pub returns : goal.returns
returns g c =
    let l = c.in_ok-levels.levels in
    let checked = c.in_ok-checked.checked in
    let (bytes, reads, stands) = c.in_ok-levels.ensures in
    let alike = levels_same l (whole l) checked (whole_same bytes l stands) c.in_ok-checked.ensures in
    designed c.args.lattice.now c.args.design.now c.args.first.now c.args.second.now c.args.level.now _ _ bytes l
    reads stands c.in_ok-at.at c.in_ok-at.ensures checked _ c.in_ok-checked.ensures _ _
    (c.compare.ensures bytes (whole l) c.in_ok-netlist.netlist stands alike c.in_ok-netlist.ensures.compiled)
