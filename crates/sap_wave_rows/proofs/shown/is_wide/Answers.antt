use Rattle.sap_lemmas.proofs.Common.{◌≡◌, ◌<◌, ◌≤◌, Some, length, sym, ap, ◌∙◌, rules, slice_get, slice_get-get_or, slice_get_past}
use Rattle.sap_wave_rows.proofs.Finding.{wide_there, wide_nowhere}
use Rattle.sap_wave_rows.proofs.shown.is_wide.Goals as goal

pub returns-in-Some : goal.returns-in-Some
returns-in-Some c = λ name e.
    let within : c.args.at < length c.args.variables.now = search rules in
    let there : slice_get c.args.variables.now c.args.at ≡ Some c.in-Some.variable.now =
    slice_get-get_or c.args.variables.now c.args.at c.in-Some.variable.now within ∙ ap Some (sym (c.in-Some.ensures {u = tt}).lookup.1) in
    wide_there c.args.tag c.args.variables.now name c.args.at c.in-Some.variable.now e there

pub returns-in-None : goal.returns-in-None
returns-in-None c = λ name e.
    let past : length c.args.variables.now ≤ c.args.at = search rules in
    wide_nowhere c.args.tag c.args.variables.now name c.args.at e (slice_get_past c.args.variables.now c.args.at past)
