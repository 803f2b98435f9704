use Rattle.sap_tagged.proofs.small.Whole as whole
use Rattle.sap_tagged.proofs.small.plain_small.Goals as goal

pub returns : goal.returns
returns c = λ ls d sound. whole.plain_small ls d sound
