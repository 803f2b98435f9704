use Rattle.std.proofs.Common.{rules}
use Rattle.sap_vparse.specs.Views.{file_of}
use Rattle.sap_vread.proofs.Faults.{memory_alone, module_of, unless}
use Rattle.sap_vread.proofs.reading.read.Goals as goal

pub returns-in_err-file-clause-valid : goal.returns-in_err-file-clause-valid
returns-in_err-file-clause-valid c = λ n m.
    let text = c.args.text.now in
    let fault = c.in_err-file.field-0.0 in
    unless c.from_residual.result fault (search rules)
    (memory_alone text fault c.in_err-file.ensures.refused (λ h. c.one_module_or_fault.ensures.not_both text n fault m h))

pub returns-in_err-judged-clause-valid : goal.returns-in_err-judged-clause-valid
returns-in_err-judged-clause-valid c = λ n m.
    let text = c.args.text.now in
    let fault = c.in_err-judged.field-0.0 in
    unless c.from_residual-in_err-judged.result fault (search rules)
    (memory_alone text fault c.in_err-judged.ensures.refused (λ h. c.one_module_or_fault.ensures.not_both text n fault m h))

pub returns-clause-exact : goal.returns-clause-exact
returns-clause-exact c = λ fault h.
    let text = c.args.text.now in
    let is_module =
    module_of text (file_of c.in_ok-file.file) c.in_ok-build.field-0 c.in_ok-file.ensures.file c.in_ok-judged.ensures.faultless c.in_ok-build.ensures in
    absurd (c.one_module_or_fault.ensures.not_both text c.in_ok-build.field-0 fault is_module h)
