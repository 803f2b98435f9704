use Rattle.std.proofs.Common.{sym, subst}
use Rattle.sap_vtext.specs.Grammar as g
use Rattle.sap_vparse.specs.Views.{operand_of}
use Rattle.sap_vparse.specs.declared.items.Operand.{Operand}
use Rattle.sap_vparse.proofs.operand.operand.Goals as goal

pub returns-then-at_name-clause-tree : goal.returns-then-at_name-clause-tree
returns-then-at_name-clause-tree c = subst (λ (x : Operand). g.IsOperand c.args.tokens.now (operand_of x) c.name.new.self)
    (sym c.in_ok-operand.ensures.ok) (g.name c.in_ok-name.ensures.tree)

pub returns-clause-tree : goal.returns-clause-tree
returns-clause-tree c = subst (λ (x : Operand). g.IsOperand c.args.tokens.now (operand_of x) c.constant.new.self)
    (sym c.in_ok-operand-2.ensures.ok) (g.constant c.in_ok-constant.ensures.tree)
