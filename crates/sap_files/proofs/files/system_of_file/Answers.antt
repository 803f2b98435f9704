use Rattle.sap_lemmas.proofs.Common.{inl, err_from_is_err_and}
use Rattle.sap_files.proofs.Reading.{gets}
use Rattle.sap_files.specs.Kinds.{system_file}
use Rattle.sap_files.proofs.files.system_of_file.Goals as goal

pub returns-in_err-bytes : goal.returns-in_err-bytes
returns-in_err-bytes g c =
    let p = err_from_is_err_and c.from_residual.result c.from_residual.ensures.1 in
    rw (p.1, p.2) (inl c.in_err-bytes.ensures.read)

pub returns : goal.returns
returns g c = gets system_file (λ s. s) c.system_from.result c.in_ok-bytes.ensures.read c.system_from.ensures
