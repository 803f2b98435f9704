use Rattle.sap_lemmas.proofs.Common.{rules, refl, inl, inr, err_from_is_err_and}
use Rattle.sap_commands.proofs.twin.verdict.Goals as goal

pub returns-in_err-agreement-in-None : goal.returns-in_err-agreement-in-None
returns-in_err-agreement-in-None c =
    let p = err_from_is_err_and c.from_residual.result c.from_residual.ensures.1 in
    rw (p.1, p.2) (inl refl)

pub returns-in_ok-agreement-in-None : goal.returns-in_ok-agreement-in-None
returns-in_ok-agreement-in-None c = (rw c.lattice.ensures at (c.in-None.ensures.agree.0 refl), search rules)

pub returns-in-Some : goal.returns-in-Some
returns-in-Some c = inr (c.in-Some.apart, rw c.lattice.ensures at ((c.in-Some.ensures.apart c.in-Some.apart).0 refl), c.differ.ensures)
