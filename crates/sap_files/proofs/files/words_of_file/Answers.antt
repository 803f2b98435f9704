use Rattle.sap_lemmas.proofs.Common.{inl, err_from_is_err_and}
use Rattle.sap_files.specs.Kinds.{assembly_file}
use Rattle.sap_files.proofs.Reading.{gets}
use Rattle.sap_files.proofs.files.words_of_file.Goals as goal

pub returns-in_err-text : goal.returns-in_err-text
returns-in_err-text g c =
    let p = err_from_is_err_and c.from_residual.result c.from_residual.ensures.1 in
    rw (p.1, p.2) (inl c.in_err-text.ensures.read)

pub returns : goal.returns
returns g c = gets (assembly_file c.args.place) (λ words. words) c.words_from.result c.in_ok-text.ensures.read c.words_from.ensures
