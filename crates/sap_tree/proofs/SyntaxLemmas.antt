-- On what stands in Syntax: what several crates cite.
use Rattle.std.proofs.Common.{IsTrue, true, ◌≡◌}
use Rattle.std.proofs.lemmas.Bool.{and_parts}
use Rattle.sap_tree.specs.Extent.{fits, tag_fits}
use Rattle.sap_tree.specs.Syntax.{DesignTree, Expression, TagExpression}
use Rattle.sap_tree.specs.Whole.{is_expression, is_outermost, is_outermost_tag, is_tag, is_tree, is_whole}
use Rattle.sap_tree.specs.declared.version.Version.{Version}
use Rattle.sap_tree.specs.Syntax as t

pub and_part : {x x' : t.Expression} {xs xs' : t.Expressions} → x ≡ x' → xs ≡ xs' → t.and_part x xs ≡ t.and_part x' xs'
and_part e f = cc

pub expression_of_outermost : (version : Version) (x : Expression) → is_outermost version x ≡ true → is_expression version x ≡ true
expression_of_outermost version x h = (and_parts (is_expression version x) (fits x) h).0

pub tag_of_outermost : (version : Version) (x : TagExpression) → is_outermost_tag version x ≡ true → is_tag version x ≡ true
tag_of_outermost version x h = (and_parts (is_tag version x) (tag_fits x) h).0

pub tree_of_whole : (d : DesignTree) → IsTrue (is_whole d) → is_tree d ≡ true
unfolding is_whole
tree_of_whole d h = (and_parts (is_tree d) _ h).0
