use Rattle.std.proofs.Common.{◌≡◌, List, sym, ◌∙◌, ap, subst}
use Rattle.std.proofs.lemmas.Result.{err_from_is_err_and}
use Rattle.sap_lattice.specs.Levels.{Levels}
use Rattle.sap_tree.specs.Prelude.{DesignTree, design_of as tree_of}
use Rattle.sap_check.specs.Checked.{tree_in}
use Rattle.sap_interface.specs.Designs.{StandsForDesign}
use Rattle.sap_stim.specs.declared.field.Field.{Field}
use Rattle.sap_stim.specs.declared.stimulus.Parsed.{Parsed}
use Rattle.sap_stim.specs.Stimulus.{stimulus_of}
use Rattle.sap_sim.specs.Prelude.{fields_of, design_fields, GivesRuns, read_for as design_stimulus}
use Rattle.sap_sim.specs.Simulated.{read_for as module_stimulus}
use Rattle.sap_files.specs.Prelude.{AreDesignRows, AreModuleRows, whole}
use Rattle.sap_files.proofs.Alike.{read_in, run_in}
use Rattle.sap_files.proofs.Ended.{got, quiet_self, reading_ended, starved}
use Rattle.sap_files.proofs.Lattices.{whole_same}
use Rattle.sap_files.proofs.PrintedEnds.{printed_same}
use Rattle.sap_files.proofs.Reading.{reading_in}
use Rattle.sap_commands.proofs.CheckedDesigns.{checked_past}
use Rattle.sap_commands.proofs.run.run.Goals as goal

pub returns-in_err-levels : goal.returns-in_err-levels
returns-in_err-levels g c =
    let p = err_from_is_err_and c.from_residual.result c.from_residual.ensures.1 in
    rw (p.1, p.2) (reading_ended c.in_err-levels.ensures)

pub returns-in_err-checked : goal.returns-in_err-checked
returns-in_err-checked g c =
    let p = err_from_is_err_and c.from_residual-in_err-checked.result c.from_residual-in_err-checked.ensures.1 in
    let l = c.in_ok-levels.levels in
    let same = whole_same c.in_ok-levels.ensures.0 l c.in_ok-levels.ensures.2 in
    rw (p.1, p.2) (got (whole l) c.in_ok-levels.ensures (reading_ended (reading_in l (whole l) same c.in_err-checked.ensures)))

pub returns-in_err-netlist : goal.returns-in_err-netlist
returns-in_err-netlist g c =
    let p = err_from_is_err_and c.from_residual-in_err-netlist.result c.from_residual-in_err-netlist.ensures.1 in
    let l = c.in_ok-levels.levels in
    let same = whole_same c.in_ok-levels.ensures.0 l c.in_ok-levels.ensures.2 in
    rw (p.1, p.2)
    (got (whole l) c.in_ok-levels.ensures (checked_past l (whole l) c.in_ok-checked.checked same c.in_ok-checked.ensures (starved _ (quiet_self _))))

pub rows_of_run-requires : goal.rows_of_run-requires
rows_of_run-requires g c =
    let l = c.in_ok-levels.levels in
    let d = tree_in c.in_ok-checked.checked in
    let n = c.in_ok-netlist.netlist in
    let (source, reads, formed, levels) = c.in_ok-checked.ensures in
    let tree : tree_of c.design.result.now ≡ d = ap tree_of c.design.ensures in
    record {
      stands =
          subst (λ (t : DesignTree). StandsForDesign l t n) (sym tree)
          (subst (λ (k : Levels). StandsForDesign k d n) levels c.in_ok-netlist.ensures.stands);
    }

pub returns : goal.returns
returns g c =
    let l = c.in_ok-levels.levels in
    let ls = whole l in
    let d = tree_in c.in_ok-checked.checked in
    let n = c.in_ok-netlist.netlist in
    let same = whole_same c.in_ok-levels.ensures.0 l c.in_ok-levels.ensures.2 in
    let runs : GivesRuns l d n = rw c.design.ensures at c.rows_of_run.ensures.runs in
    let fields : fields_of l n ≡ design_fields d = rw c.design.ensures at c.rows_of_run.ensures.fields in
    got ls c.in_ok-levels.ensures
    (checked_past l ls c.in_ok-checked.checked same c.in_ok-checked.ensures
    (printed_same c.args.stimulus.now (AreModuleRows l n) (AreDesignRows ls d) (λ bytes. (module_stimulus l n bytes).fault) (λ bytes. (design_stimulus ls d bytes).fault)
    (λ bytes given rows. (rows.0, run_in l ls same d bytes _ (runs bytes _ rows.1)))
    (λ bytes. ap (λ (fs : List Field). (stimulus_of l fs bytes).fault) fields ∙ ap (λ (p : Parsed). p.fault) (read_in l ls same d bytes)) _ _ _ c.print_rows.ensures))
