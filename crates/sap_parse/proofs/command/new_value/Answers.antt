use Rattle.std.proofs.lemmas.Result.{IfOk-weaker}
use Rattle.sap_parse.specs.CommandRows.{new_value}
use Rattle.sap_parse.proofs.command.new_value.Goals as goal

pub returns-clause-tree : goal.returns-clause-tree
returns-clause-tree c = IfOk-weaker c.expr.result _ _ (λ x h. new_value c.in_ok-sign.ensures.tree h) c.expr.ensures.tree
