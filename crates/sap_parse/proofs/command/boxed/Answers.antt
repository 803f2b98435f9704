use Rattle.std.proofs.Common.{sym, subst}
use Rattle.sap_parse.specs.Grammar as g
use Rattle.sap_tree.specs.Trees.{simple_of}
use Rattle.sap_tree.specs.declared.syntax.Simple.{Simple}
use Rattle.sap_parse.proofs.command.boxed.Goals as goal

pub returns-clause-tree : goal.returns-clause-tree
returns-clause-tree c =
    subst (λ (x : Simple). g.Simple c.args.depth c.args.tokens.now (simple_of x) c.simple.new.tokens) (sym c.in_ok-command.ensures.ok) c.in_ok-read.ensures.tree
