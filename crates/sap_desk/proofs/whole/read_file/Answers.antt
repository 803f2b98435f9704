use Rattle.std.proofs.Common.{arith}
use Rattle.sap_desk.proofs.ReadFiles.{stood_whole, whole_read}
use Rattle.sap_desk.proofs.whole.read_file.Goals as goal

pub returns-clause-bytes : goal.returns-clause-bytes
returns-clause-bytes g c = whole_read _ _ _ _ (omega arith) c.read_front.ensures.short c.read_front.ensures.bytes

pub returns-clause-short : goal.returns-clause-short
returns-clause-short g c = c.read_front.ensures.short

pub returns-clause-stood : goal.returns-clause-stood
returns-clause-stood g c = λ failed. stood_whole _ _ _ _ (c.read_front.ensures.stood failed)
