use Rattle.sap_lemmas.proofs.Common.{inl, err_from_is_err_and}
use Rattle.sap_stim.specs.Stimulus.{stimulus_of}
use Rattle.sap_files.specs.Kinds.{stream_by}
use Rattle.sap_files.proofs.Reading.{gets}
use Rattle.sap_files.proofs.files.lines_of_file.Goals as goal

pub returns-in_err-lines : goal.returns-in_err-lines
returns-in_err-lines g c =
    let p = err_from_is_err_and c.from_residual.result c.from_residual.ensures.1 in
    rw (p.1, p.2) (inl c.in_err-lines.ensures.read)

pub returns : goal.returns
returns g c = gets (stream_by 1 (stimulus_of c.args.lattice.now c.args.fields.now)) (λ stream. stream) c.lines_from.result c.in_ok-lines.ensures.read c.lines_from.ensures
