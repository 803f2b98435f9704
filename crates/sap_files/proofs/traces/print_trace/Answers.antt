use Rattle.sap_lemmas.proofs.Common.{◌≡◌, ℕ, List, [], sym, ap, subst, All, err_from_is_err_and}
use Rattle.sap_check.specs.Checked.{levels_in, tree_in}
use Rattle.sap_net.specs.Net.{Net}
use Rattle.sap_stim.specs.declared.field.Field.{Field}
use Rattle.sap_stim.specs.Line.{IsSized}
use Rattle.sap_stim.specs.Stimulus.{stimulus_of}
use Rattle.sap_sim.specs.Prelude.{design_fields, read_for}
use Rattle.sap_trace.specs.Stepping.{AreLines, IsAfter}
use Rattle.sap_files.specs.Prelude.{AreTraceLines, HasWhole}
use Rattle.sap_files.proofs.Ended.{quiet_self, starved}
use Rattle.sap_files.proofs.PrintedEnds.{printed_same}
use Rattle.sap_files.proofs.Wholes.{has_whole_lines}
use Rattle.sap_files.proofs.traces.print_trace.Goals as goal

pub returns-in_err-tracing : goal.returns-in_err-tracing
returns-in_err-tracing g c =
    let p = err_from_is_err_and c.from_residual.result c.from_residual.ensures.1 in
    rw (p.1, p.2) (starved _ (quiet_self _))

pub take_buffers-requires : goal.take_buffers-requires
take_buffers-requires g c = subst (All IsSized) (sym c.fields.ensures) c.in_ok-tracing.ensures.after.planned.sized

pub returns-in_err-held : goal.returns-in_err-held
returns-in_err-held g c =
    let p = err_from_is_err_and c.from_residual-in_err-held.result c.from_residual-in_err-held.ensures.1 in
    rw (p.1, p.2) (starved _ (quiet_self _))

pub print_with-requires-clause-behind : goal.print_with-requires-clause-behind
print_with-requires-clause-behind g c =
    let s = c.in_ok-tracing.tracing in
    subst (λ (m : Net). IsAfter (levels_in c.args.checked.now) (tree_in c.args.checked.now) m [] s) (sym c.in_ok-tracing.ensures.after.net) c.in_ok-tracing.ensures.after

pub print_with-requires-clause-shows : goal.print_with-requires-clause-shows
print_with-requires-clause-shows g c = c.lines_add_up.ensures.begins

pub print_with-requires-clause-whole : goal.print_with-requires-clause-whole
print_with-requires-clause-whole g c =
    let ls = levels_in c.args.checked.now in
    let d = tree_in c.args.checked.now in
    let s = c.in_ok-tracing.tracing in
    subst (λ (fs : List Field). HasWhole (AreLines ls d s.runner.net) ls fs) (sym c.in_ok-tracing.ensures.after.planned.fields)
    (has_whole_lines ls d s.runner.net c.lines_add_up.ensures)

pub returns : goal.returns
returns g c =
    let ls = levels_in c.args.checked.now in
    let d = tree_in c.args.checked.now in
    let s = c.in_ok-tracing.tracing in
    let fields : s.fields ≡ design_fields d = c.in_ok-tracing.ensures.after.planned.fields in
    let holds : (bytes given : List ℕ) → AreLines ls d s.runner.net (stimulus_of ls s.fields bytes).stream given → AreTraceLines ls d bytes given
    = λ bytes given shown.
    let there : AreLines ls d s.runner.net (read_for ls d bytes).stream given
    = subst (λ (fs : List Field). AreLines ls d s.runner.net (stimulus_of ls fs bytes).stream given) fields shown in
    ((read_for ls d bytes).fault, c.lines_add_up.ensures.whole bytes given there) in
    printed_same c.args.stimulus.now _ (AreTraceLines ls d) _ (λ bytes. (read_for ls d bytes).fault) holds
    (λ bytes. ap (λ (fs : List Field). (stimulus_of ls fs bytes).fault) fields) _ _ _ c.print_with.ensures
