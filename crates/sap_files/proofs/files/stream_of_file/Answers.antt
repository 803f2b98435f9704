use Rattle.sap_lemmas.proofs.Common.{inl, err_from_is_err_and}
use Rattle.sap_check.specs.Checked.{levels_in, tree_in}
use Rattle.sap_files.specs.Kinds.{stream_file}
use Rattle.sap_files.proofs.Reading.{gets}
use Rattle.sap_files.proofs.files.stream_of_file.Goals as goal

pub returns-in_err-lines : goal.returns-in_err-lines
returns-in_err-lines g c =
    let p = err_from_is_err_and c.from_residual.result c.from_residual.ensures.1 in
    rw (p.1, p.2) (inl c.in_err-lines.ensures.read)

pub returns : goal.returns
returns g c =
    gets (stream_file c.args.place (levels_in c.args.checked.now) (tree_in c.args.checked.now)) (λ stream. stream) c.stream_of.result c.in_ok-lines.ensures.read c.stream_of.ensures
