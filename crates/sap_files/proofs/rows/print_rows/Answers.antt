use Rattle.sap_lemmas.proofs.Common.{◌≡◌, ℕ, List, [], sym, ◌∙◌, ap, subst, err_from_is_err_and}
use Rattle.sap_net.specs.Net.{Net}
use Rattle.sap_stim.specs.declared.field.Field.{Field}
use Rattle.sap_stim.specs.Stimulus.{stimulus_of}
use Rattle.sap_sim.specs.Prelude.{fields_of, AreRows, IsAfter, RowsAddUp}
use Rattle.sap_sim.specs.Simulated.{read_for}
use Rattle.sap_sim.proofs.Fits.{stream_fits}
use Rattle.sap_files.specs.Prelude.{AreModuleRows, HasWhole}
use Rattle.sap_files.proofs.Ended.{quiet_self, starved}
use Rattle.sap_files.proofs.PrintedEnds.{printed_same}
use Rattle.sap_files.proofs.Wholes.{has_whole}
use Rattle.sap_files.proofs.rows.print_rows.Goals as goal

pub returns-in_err-simulation : goal.returns-in_err-simulation
returns-in_err-simulation g c =
    let p = err_from_is_err_and c.from_residual.result c.from_residual.ensures.1 in
    rw (p.1, p.2) (starved _ (quiet_self _))

pub returns-in_err-held : goal.returns-in_err-held
returns-in_err-held g c =
    let p = err_from_is_err_and c.from_residual-in_err-held.result c.from_residual-in_err-held.ensures.1 in
    rw (p.1, p.2) (starved _ (quiet_self _))

pub print_with-requires-clause-behind : goal.print_with-requires-clause-behind
print_with-requires-clause-behind g c =
    let s = c.in_ok-simulation.simulation in
    subst (λ (m : Net). IsAfter c.args.lattice.now m [] s) (sym c.in_ok-simulation.ensures.after.net) c.in_ok-simulation.ensures.after

pub print_with-requires-clause-shows : goal.print_with-requires-clause-shows
print_with-requires-clause-shows g c = c.rows_add_up.ensures.begins

pub print_with-requires-clause-whole : goal.print_with-requires-clause-whole
print_with-requires-clause-whole g c =
    let ls = c.args.lattice.now in
    let n = c.args.netlist in
    let s = c.in_ok-simulation.simulation in
    let adds : RowsAddUp ls n = subst (λ (m : Net). RowsAddUp ls m) c.in_ok-simulation.ensures.after.net c.rows_add_up.ensures in
    let fields : s.fields ≡ fields_of ls n = c.in_ok-simulation.ensures.after.planned.fields ∙ ap (fields_of ls) c.in_ok-simulation.ensures.after.net in
    let whole = has_whole ls n c.rules.ensures c.one_run.ensures.some adds
    (λ bytes. stream_fits ls c.lawful.ensures.codes n c.rules.ensures (read_for ls n bytes).stream
    (c.stimulus_fits.ensures ls (fields_of ls n) bytes c.lawful.ensures.order.bottom_is_level)) in
    subst (λ (m : Net). HasWhole (AreRows ls m) ls s.fields) (sym c.in_ok-simulation.ensures.after.net)
    (subst (λ (fs : List Field). HasWhole (AreRows ls n) ls fs) (sym fields) whole)

pub returns : goal.returns
returns g c =
    let ls = c.args.lattice.now in
    let n = c.args.netlist in
    let s = c.in_ok-simulation.simulation in
    let adds : RowsAddUp ls n = subst (λ (m : Net). RowsAddUp ls m) c.in_ok-simulation.ensures.after.net c.rows_add_up.ensures in
    let fields : s.fields ≡ fields_of ls n = c.in_ok-simulation.ensures.after.planned.fields ∙ ap (fields_of ls) c.in_ok-simulation.ensures.after.net in
    let holds : (bytes given : List ℕ) → AreRows ls s.runner.net (stimulus_of ls s.fields bytes).stream given → AreModuleRows ls n bytes given
    = λ bytes given shown.
    let there : AreRows ls n (read_for ls n bytes).stream given
    = subst (λ (fs : List Field). AreRows ls n (stimulus_of ls fs bytes).stream given) fields
    (subst (λ (m : Net). AreRows ls m (stimulus_of ls s.fields bytes).stream given) c.in_ok-simulation.ensures.after.net shown) in
    ((read_for ls n bytes).fault, adds.whole bytes given there) in
    printed_same c.args.stimulus.now _ (AreModuleRows ls n) _ (λ bytes. (read_for ls n bytes).fault) holds
    (λ bytes. ap (λ (fs : List Field). (stimulus_of ls fs bytes).fault) fields) _ _ _ c.print_with.ensures
