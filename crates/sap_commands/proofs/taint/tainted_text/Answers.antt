use Rattle.sap_lemmas.proofs.Common.{inl, refl, err_from_is_err_and}
use Rattle.sap_commands.proofs.taint.tainted_text.Goals as goal

pub returns-in_err-tagged : goal.returns-in_err-tagged
returns-in_err-tagged c =
    let p = err_from_is_err_and c.from_residual.result c.from_residual.ensures.1 in
    rw (p.1, p.2) c.in_err-tagged.ensures

pub returns-in_err-text : goal.returns-in_err-text
returns-in_err-text c =
    let p = err_from_is_err_and c.from_residual-in_err-text.result c.from_residual-in_err-text.ensures.1 in
    rw (p.1, p.2) (inl refl)

pub returns : goal.returns
returns c = (c.in_ok-tagged.ensures.0, record { tagged = c.in_ok-tagged.tagged; is_module = c.in_ok-text.ensures; taint = c.in_ok-tagged.ensures.1 })
