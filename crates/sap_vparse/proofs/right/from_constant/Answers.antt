use Rattle.std.proofs.Common.{sym, subst}
use Rattle.sap_vtext.specs.Grammar as g
use Rattle.sap_vparse.specs.Parts.{RightEnds}
use Rattle.sap_vparse.proofs.Makes.{behind_tree}
use Rattle.sap_vparse.proofs.right.from_constant.Goals as goal

pub returns-clause-tree : goal.returns-clause-tree
returns-clause-tree c = subst (λ x. RightEnds c.args.tokens.now x c.after_operand.new.tokens) (sym c.joined.ensures)
    (behind_tree (g.constant c.in_ok-constant.ensures.tree) c.in_ok-behind.ensures.tree)
