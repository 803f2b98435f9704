-- What the loops keep, and why the calls end.
use Rattle.std.proofs.Common.{◌≡◌, ◌≤◌, ◌<◌, length, ◌+◌, ◌-◌, ◌*◌}
use Rattle.sap_parse.specs.Grammar as g
use Rattle.sap_parse.specs.Joining.{join}
use Rattle.sap_parse.specs.Reading.{reads}
use Rattle.sap_parse.specs.Stages.{Stage}
use Rattle.sap_parse.specs.Table as s
use Rattle.sap_tree.specs.Prelude.{Expression, Expressions, expression_of, expressions_of}
use Rattle.sap_parse.proofs.expr.+expr.Given as goal

abbrev pub decreases-cell : goal.decreases-cell
decreases-cell l = 20 * length l.tokens.now.left + 16

abbrev pub decreases-more_parts : goal.decreases-more_parts
decreases-more_parts l = 20 * length l.tokens.now.left + 16

abbrev pub decreases-expr : goal.decreases-expr
decreases-expr l = 20 * length l.tokens.now.left + 15

abbrev pub decreases-bin : goal.decreases-bin
decreases-bin l = 20 * length l.tokens.now.left + 14 - l.level

abbrev pub decreases-unary : goal.decreases-unary
decreases-unary l = 20 * length l.tokens.now.left + 4

abbrev pub decreases-post : goal.decreases-post
decreases-post l = 20 * length l.tokens.now.left + 3

abbrev pub decreases-named : goal.decreases-named
decreases-named l = 20 * length l.tokens.now.left + 2

abbrev pub decreases-prim : goal.decreases-prim
decreases-prim l = 20 * length l.tokens.now.left + 2

abbrev pub decreases-paren : goal.decreases-paren
decreases-paren l = 20 * length l.tokens.now.left + 1

abbrev pub decreases-between : goal.decreases-between
decreases-between l = 20 * length l.tokens.now.left

abbrev pub decreases-braces : goal.decreases-braces
decreases-braces l = 20 * length l.tokens.now.left + 1

abbrev pub decreases-zext : goal.decreases-zext
decreases-zext l = 20 * length l.tokens.now.left + 1

abbrev pub invariant-bin-operators : goal.invariant-bin-operators
invariant-bin-operators l = record {
  below : l.level < 9;
  goes : reads (s.bin l.level) l.fn.tokens ≡ reads (s.tail l.level) l.tokens;
  tree : (y : Expression) (q : Stage) → g.Others l.level (expression_of l.left.value) l.tokens y q → g.Bin l.level l.fn.tokens y q;
  shorter : length l.tokens.left < length l.fn.tokens.left;
}

abbrev pub decreases-bin-operators : goal.decreases-bin-operators
decreases-bin-operators l = length l.tokens.left

abbrev pub invariant-more_parts-others : goal.invariant-more_parts-others
invariant-more_parts-others l = record {
  goes : reads s.parts l.fn.tokens ≡ reads s.parts l.tokens;
  tree : (ys : Expressions) (q : Stage) → g.Parts l.tokens ys q
      → (xs : Expressions) × (join (expressions_of l.parts.items) ys ≡ join (expressions_of l.fn.parts.items) xs) × g.Parts l.fn.tokens xs q;
  no_longer : length l.tokens.left ≤ length l.fn.tokens.left;
}

abbrev pub decreases-more_parts-others : goal.decreases-more_parts-others
decreases-more_parts-others l = length l.tokens.left
