use Rattle.sap_maps.proofs.Terms.{term_renamed}
use Rattle.sap_maps.proofs.term_renamed.Goals as goal

pub returns : goal.returns
returns c = λ f widths value cells t. term_renamed f widths value cells t
