use Rattle.std.proofs.Common.{sym, subst}
use Rattle.sap_parse.specs.CommandRows.{cell, no_cell}
use Rattle.sap_parse.specs.Rows.{Between}
use Rattle.sap_parse.specs.declared.role.Role.TheVariants as r
use Rattle.sap_lex.specs.declared.token.Sign.TheVariants as s
use Rattle.sap_tree.specs.Trees.{expression_of}
use Rattle.sap_tree.specs.declared.syntax.Expr.{Expr}
use Rattle.sap_parse.proofs.command.cell_part.Goals as goal

pub returns-then-not-at_sign-clause-tree : goal.returns-then-not-at_sign-clause-tree
returns-then-not-at_sign-clause-tree c = no_cell

pub returns-clause-tree : goal.returns-clause-tree
returns-clause-tree c =
    cell (subst (λ (x : Expr). Between r.Plain s.OpenBracket r.Plain s.CloseBracket c.args.tokens.now (expression_of x)
    c.between.new.tokens) (sym c.into_inner.ensures) c.in_ok-index.ensures.tree)
