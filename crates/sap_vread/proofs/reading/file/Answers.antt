use Rattle.sap_vread.proofs.Faults.{told_v1, told_v2}
use Rattle.sap_vread.proofs.reading.file.Goals as goal

pub returns-in-Err-V1-clause-refused : goal.returns-in-Err-V1-clause-refused
returns-in-Err-V1-clause-refused c =
    λ known. told_v1 c.args.text.now c.in-Err-V1.field-0 c.in-Err-V1.at c.place_at.result c.in-Err-V1.field-0-is c.in-Err-V1.ensures.fault c.place_at.ensures

pub returns-in-Err-V2-clause-refused : goal.returns-in-Err-V2-clause-refused
returns-in-Err-V2-clause-refused c =
    λ known. told_v2 c.args.text.now c.in-Err-V2.field-0 c.in-Err-V2.at c.place_at-in-Err-V2.result c.in-Err-V2.field-0-is c.in-Err-V2.ensures.fault c.place_at-in-Err-V2.ensures
