use Rattle.sap_lemmas.proofs.Common.{inl, err_from_is_err_and}
use Rattle.sap_files.proofs.Reading.{design_gets}
use Rattle.sap_files.proofs.files.design_of_file.Goals as goal

pub returns-in_err-source : goal.returns-in_err-source
returns-in_err-source g c =
    let p = err_from_is_err_and c.from_residual.result c.from_residual.ensures.1 in
    rw (p.1, p.2) (inl c.in_err-source.ensures)

pub returns : goal.returns
returns g c = design_gets c.args.lattice.now c.checked_from.result c.in_ok-source.ensures c.checked_from.ensures
