use Rattle.std.proofs.Common.{◌≡◌, ◌≤◌, length}
use Rattle.sap_parse.specs.Grammar as g
use Rattle.sap_parse.specs.Reading.{reads}
use Rattle.sap_parse.specs.Stages.{Stage}
use Rattle.sap_parse.specs.Table as s
use Rattle.sap_tree.specs.Prelude.{Expression, expression_of}
use Rattle.sap_parse.proofs.expr.slices.Given as goal

abbrev pub invariant-cuts : goal.invariant-cuts
invariant-cuts l = record {
  goes : reads s.slices l.fn.tokens ≡ reads s.slices l.tokens;
  tree : (y : Expression) (q : Stage) → g.Cuts (expression_of l.all.value) l.tokens y q → g.Cuts (expression_of l.fn.operand) l.fn.tokens y q;
  no_longer : length l.tokens.left ≤ length l.fn.tokens.left;
}

abbrev pub decreases-cuts : goal.decreases-cuts
decreases-cuts l = length l.tokens.left
