use Rattle.sap_vjudge.proofs.Powers.{no_index-le}
use Rattle.sap_vjudge.proofs.memories.is_index.Goals as goal

pub returns-else-width-le64 : goal.returns-else-width-le64
returns-else-width-le64 c = no_index-le c.args.depth c.args.width c.requires c.if-width-le64.false
