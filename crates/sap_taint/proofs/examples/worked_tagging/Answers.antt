use Rattle.sap_taint.proofs.Tagging as plain
use Rattle.sap_taint.proofs.TaggingMemory as memory
use Rattle.sap_taint.proofs.examples.worked_tagging.Goals as goal

pub returns : goal.returns
returns c = record { hands_on = plain.carried; stores = memory.carried }
