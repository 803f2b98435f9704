use Rattle.sap_layout.proofs.Formed.{formed_alike}
use Rattle.sap_layout.proofs.Programs.{one_program}
use Rattle.sap_layout.proofs.layout_is_free.Goals as goal

pub returns-clause-formed : goal.returns-clause-formed
returns-clause-formed c = formed_alike

pub returns-clause-program : goal.returns-clause-program
returns-clause-program c = one_program
