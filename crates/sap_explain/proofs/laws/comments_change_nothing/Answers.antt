use Rattle.sap_explain.proofs.Commented.{module_behind_comments}
use Rattle.sap_explain.proofs.laws.comments_change_nothing.Goals as goal

pub returns : goal.returns
returns c = λ comments text net are. module_behind_comments comments are text net
