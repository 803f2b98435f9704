-- What the loop keeps, and why the calls end.
use Rattle.std.proofs.Common.{◌≡◌, ◌≤◌, length, ◌+◌, ◌*◌}
use Rattle.sap_parse.specs.Grammar as g
use Rattle.sap_parse.specs.Joining.{join_tags}
use Rattle.sap_parse.specs.Reading.{reads}
use Rattle.sap_parse.specs.Stages.{Stage}
use Rattle.sap_parse.specs.Table as s
use Rattle.sap_tree.specs.Prelude.{TagExpressions, tags_of}
use Rattle.sap_parse.proofs.tag.+tag.Given as goal

abbrev pub decreases-more_tags : goal.decreases-more_tags
decreases-more_tags l = 4 * length l.tokens.now.left + 2

abbrev pub decreases-tag_expr : goal.decreases-tag_expr
decreases-tag_expr l = 4 * length l.tokens.now.left + 1

abbrev pub decreases-join : goal.decreases-join
decreases-join l = 4 * length l.tokens.now.left

abbrev pub invariant-more_tags-others : goal.invariant-more_tags-others
invariant-more_tags-others l = record {
  goes : reads s.texprs l.fn.tokens ≡ reads s.texprs l.tokens;
  tree : (ys : TagExpressions) (q : Stage) → g.Texprs l.tokens ys q
      → (xs : TagExpressions) × (join_tags (tags_of l.parts.items) ys ≡ join_tags (tags_of l.fn.parts.items) xs) × g.Texprs l.fn.tokens xs q;
  no_longer : length l.tokens.left ≤ length l.fn.tokens.left;
}

abbrev pub decreases-more_tags-others : goal.decreases-more_tags-others
decreases-more_tags-others l = length l.tokens.left
