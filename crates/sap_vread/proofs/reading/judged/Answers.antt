use Rattle.sap_vparse.specs.Views.{file_of}
use Rattle.sap_vread.proofs.Faults.{told_in_file}
use Rattle.sap_vread.proofs.reading.judged.Goals as goal

pub returns-in-Err-Rule-clause-refused : goal.returns-in-Err-Rule-clause-refused
returns-in-Err-Rule-clause-refused c = λ known.
    told_in_file c.args.text.now (file_of c.args.file.now) c.in-Err-Rule.field-0 c.in-Err-Rule.code c.in-Err-Rule.at c.code_of.result c.place_at.result c.requires.spelled
    c.in-Err-Rule.field-0-is c.in-Err-Rule.ensures.first c.code_of.ensures c.place_at.ensures
