use Rattle.std.proofs.Common.{sym, subst}
use Rattle.sap_parse.specs.Grammar as g
use Rattle.sap_tree.specs.declared.syntax.Kind.{Kind}
use Rattle.sap_parse.proofs.declaration.kind.Goals as goal

pub returns-clause-tree : goal.returns-clause-tree
returns-clause-tree c = subst (λ (x : Kind). g.KindOf c.args.tokens.now x c.plain_kind.new.tokens) (sym c.in_ok-kind.ensures.ok) c.in_ok-read.ensures.tree
