use Rattle.sap_lemmas.proofs.Common.{subst, IfOk}
use Rattle.sap_vtext.specs.Grammar as g
use Rattle.sap_vparse.specs.Reading.{Goes}
use Rattle.sap_vparse.specs.Table as s
use Rattle.sap_vparse.proofs.right.unary.Goals as goal

pub returns-clause-goes : goal.returns-clause-goes
returns-clause-goes c = subst (λ j. Goes (s.sign j) c.args.tokens.now c.sign.result c.sign.new.self) c.unary_sign.ensures c.sign.ensures.goes

pub returns-clause-tree : goal.returns-clause-tree
returns-clause-tree c = subst (λ j. IfOk c.sign.result (λ _. g.IsSign c.args.tokens.now j c.sign.new.self)) c.unary_sign.ensures c.sign.ensures.tree
