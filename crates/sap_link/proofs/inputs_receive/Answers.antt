use Rattle.sap_link.proofs.Feeding.{fed_receive}
use Rattle.sap_link.proofs.Free.{free_receive}
use Rattle.sap_link.proofs.Receiving.{parts_are_given}
use Rattle.sap_link.proofs.inputs_receive.Goals as goal

pub returns : goal.returns
returns c = record { fed = fed_receive; free = free_receive; given = parts_are_given }
