use Rattle.sap_lemmas.proofs.Common.{Some, None, sym, ap, ◌∙◌, arith, option_copied}
use Rattle.std.proofs.lemmas.Str.Pattern.{strip_prefix_char}
use Rattle.sap_net.proofs.NameTexts.{not_behind_v, not_behind_line}
use Rattle.sap_net.proofs.port_names.behind_v.Goals as goal

pub returns-in_err-rest : goal.returns-in_err-rest
returns-in_err-rest c =
    ap option_copied c.from_residual.ensures ∙ sym (not_behind_v c.args.name.now (strip_prefix_char 118 c.args.name.now None (c.in_err-rest.ensures {u = tt}).cases (omega arith)))

pub returns-in_err-x : goal.returns-in_err-x
returns-in_err-x c =
    let rest = c.in_ok-rest.rest in
    ap option_copied c.from_residual-in_err-x.ensures
    ∙ sym (not_behind_line c.args.name.now rest.now (strip_prefix_char 118 c.args.name.now (Some rest) c.in_ok-rest.ensures.cases (omega arith))
    (strip_prefix_char 95 rest.now None (c.in_err-x.ensures {u = tt}).cases (omega arith)))
