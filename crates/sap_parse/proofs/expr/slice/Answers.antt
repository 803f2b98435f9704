use Rattle.std.proofs.Common.{◌∙◌, ap}
use Rattle.sap_parse.specs.Table as s
use Rattle.sap_tree.specs.Syntax as t
use Rattle.sap_tree.specs.Trees.{expression_of}
use Rattle.sap_tree.specs.declared.syntax.Expr.{Expr}
use Rattle.sap_parse.proofs.Makes.{both, from_to, slices_tree}
use Rattle.sap_parse.proofs.expr.slice.Goals as goal

pub returns-clause-tree : goal.returns-clause-tree
returns-clause-tree c =
    slices_tree c.slices.result c.slices.new.tokens (from_to c.args.name.place c.args.place) (t.variable (both c.args.name.place) c.args.name.name)
    c.in_ok-high.ensures.tree
    (c.slice.ensures ∙ ap (λ x. t.slice (from_to c.args.name.place c.args.place) x c.in_ok-high.high c.in_ok-high.low)
    (ap (λ (x : Expr). expression_of x) c.in_ok-operand.ensures.ok ∙ c.read.ensures ∙ ap (λ s. t.variable s c.args.name.name) c.spot.ensures))
    c.slices.ensures.tree
