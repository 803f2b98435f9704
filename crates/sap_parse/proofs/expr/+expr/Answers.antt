use Rattle.std.proofs.Common.{◌≡◌, ◌∙◌, ◌+◌, ◌++◌, ◌∷◌, [], List, Some, sym, ap, subst, refl, rules, arith}
use Rattle.sap_parse.specs.Choices.{operator_at, unary_at}
use Rattle.sap_parse.specs.Grammar as g
use Rattle.sap_parse.specs.Joining.{join}
use Rattle.sap_parse.specs.Reading.{ahead, steps_by, strictly}
use Rattle.sap_parse.specs.Rows.{Between, between}
use Rattle.sap_parse.specs.Stages.{IsSign}
use Rattle.sap_parse.specs.Table as s
use Rattle.sap_parse.specs.declared.role.Role.TheVariants as r
use Rattle.sap_tree.specs.Prelude.{enclosed, first_of, expression_of, expressions_of}
use Rattle.sap_tree.specs.declared.name.Mention.{Mention}
use Rattle.sap_tree.specs.declared.syntax.Expr.{Expr}
use Rattle.sap_tree.specs.Syntax as t
use Rattle.sap_parse.proofs.ExprLaws.{bin_tail, choice_missing, expr_bin, operator_level, parts_missing, parts_there, tail_there, unary_there}
use Rattle.sap_parse.proofs.Faults.{fault_goes}
use Rattle.sap_parse.proofs.Makes.{both, choice_tree, concat_tree, from_to, indexed_post, indexes_tree, join_none, join_push, operand_tree, other_tree, paren_tree, post_tree, read_tree, sliced_post, unary_tree, unsigned_tree, zext_tree}
use Rattle.sap_parse.proofs.RowLaws.{braces_row, choice_row, paren_row, row_steps, zext_row}
use Rattle.sap_walk.proofs.Walking.{bind_ok, bind_pure}
use Rattle.sap_parse.proofs.expr.+expr.Goals as goal

-- bin

pub bin-returns-then-level-eq9-clause-tree : goal.bin-returns-then-level-eq9-clause-tree
bin-returns-then-level-eq9-clause-tree m c = operand_tree c.unary.result c.args.tokens.now c.unary.new.tokens c.args.level c.if-level-eq9.true c.unary.ensures.tree

pub bin-operators-init : goal.bin-operators-init
bin-operators-init m c = record {
  below = omega arith;
  goes = bin_tail strictly c.args.tokens.now c.args.level (omega arith) ∙ bind_ok _ _ _ c.in_ok-first.ensures.goes ∙ bind_pure _;
  tree = λ y q rest. g.chain (omega arith) c.in_ok-first.ensures.tree
      (subst (λ (x : Expr). g.Others c.args.level (expression_of x) c.bin.new.tokens y q) c.in_ok-left.ensures.ok rest);
  shorter = c.in_ok-first.ensures.shorter;
}

pub bin-returns-in_err-place-clause-goes : goal.bin-returns-in_err-place-clause-goes
bin-returns-in_err-place-clause-goes m c =
    let there : operator_at c.args.level (ahead c.operators.tokens.left) ≡ Some c.in-Some.operator = ap (operator_at c.args.level) (sym c.peek.ensures) ∙ sym c.in-Some.ensures in
    fault_goes (s.bin c.args.level) (s.sign r.Inner c.sign_of.result) c.args.tokens.now c.operators.tokens c.sign.new.self
    (steps_by strictly (s.bin (c.args.level + 1) ∷ s.tail c.args.level ∷ [])) c.in_err-place.field-0.0 c.from_residual-in_err-place.result (search rules)
    (c.operators.invariant.goes ∙ tail_there strictly c.operators.tokens c.args.level c.in-Some.operator there
    ∙ ap (λ x. steps_by strictly (s.sign r.Inner x ∷ s.bin (c.args.level + 1) ∷ s.tail c.args.level ∷ []) c.operators.tokens) (sym c.sign_of.ensures))
    c.in_err-place.ensures.goes

pub bin-returns-in_err-right-clause-goes : goal.bin-returns-in_err-right-clause-goes
bin-returns-in_err-right-clause-goes m c =
    let there : operator_at c.args.level (ahead c.operators.tokens.left) ≡ Some c.in-Some.operator = ap (operator_at c.args.level) (sym c.peek.ensures) ∙ sym c.in-Some.ensures in
    fault_goes (s.bin c.args.level) (s.bin (c.args.level + 1)) c.args.tokens.now c.sign.new.self c.bin-in-Some.new.tokens
    (steps_by strictly (s.tail c.args.level ∷ [])) c.in_err-right.field-0.0 c.from_residual-in_err-right.result (search rules)
    (c.operators.invariant.goes ∙ tail_there strictly c.operators.tokens c.args.level c.in-Some.operator there
    ∙ ap (λ x. steps_by strictly (s.sign r.Inner x ∷ s.bin (c.args.level + 1) ∷ s.tail c.args.level ∷ []) c.operators.tokens) (sym c.sign_of.ensures)
    ∙ bind_ok _ _ _ c.in_ok-place.ensures.goes)
    c.in_err-right.ensures.goes

pub bin-operators-preserved : goal.bin-operators-preserved
bin-operators-preserved m c =
    let there : operator_at c.args.level (ahead c.operators.tokens.left) ≡ Some c.in-Some.operator = ap (operator_at c.args.level) (sym c.peek.ensures) ∙ sym c.in-Some.ensures in
    record {
      below = c.operators.invariant.below;
      goes = c.operators.invariant.goes ∙ tail_there strictly c.operators.tokens c.args.level c.in-Some.operator there
          ∙ ap (λ x. steps_by strictly (s.sign r.Inner x ∷ s.bin (c.args.level + 1) ∷ s.tail c.args.level ∷ []) c.operators.tokens) (sym c.sign_of.ensures)
          ∙ bind_ok _ _ _ c.in_ok-place.ensures.goes ∙ bind_ok _ _ _ c.in_ok-right.ensures.goes ∙ bind_pure _;
      tree = λ y q rest. c.operators.invariant.tree y q
          (other_tree c.in-Some.operator (operator_level strictly c.operators.tokens c.args.level c.in-Some.operator there)
          (subst (λ x. IsSign c.operators.tokens r.Inner x c.sign.new.self) c.sign_of.ensures c.in_ok-place.ensures.tree) c.in_ok-right.ensures.tree c.in_ok-place.ensures.place
          (c.first.ensures ∙ ap (λ (x : Expr). first_of (expression_of x)) (search rules)) c.in_ok-all.ensures
          (subst (λ (x : Expr). g.Others c.args.level (expression_of x) c.bin-in-Some.new.tokens y q) c.in_ok-left-2.ensures.ok rest));
      shorter = omega (arith, c.in_ok-right.ensures.shorter, c.operators.invariant.shorter, c.in_ok-place.ensures.shorter);
    }

pub bin-returns-clause-tree : goal.bin-returns-clause-tree
bin-returns-clause-tree m c =
    subst (λ (x : Expr). g.Bin c.args.level c.args.tokens.now (expression_of x) c.operators.tokens) (sym c.into_inner.ensures)
    (c.operators.invariant.tree _ _ g.no_other)

-- braces

pub more_parts-others-preserved : goal.more_parts-others-preserved
more_parts-others-preserved m c = record {
  goes = c.others.invariant.goes ∙ parts_there strictly c.others.tokens (c.others-test.ensures.yes refl)
      ∙ bind_ok _ _ _ c.in_ok-sign.ensures.goes ∙ bind_ok _ _ _ c.in_ok-part.ensures.goes ∙ bind_pure _;
  tree = λ ys q rest.
      let h = c.others.invariant.tree (t.and_part (expression_of c.in_ok-part.part) ys) q (g.part c.in_ok-sign.ensures.tree c.in_ok-part.ensures.tree rest) in
      (h.0, ap (λ items. join (expressions_of items) ys) c.in_ok-push.ensures.items ∙ join_push _ _ ys ∙ h.1, h.2);
  no_longer = omega (arith, c.in_ok-part.ensures.shorter, c.in_ok-sign.ensures.shorter);
}

pub more_parts-returns-clause-goes : goal.more_parts-returns-clause-goes
more_parts-returns-clause-goes m c = c.others.invariant.goes ∙ parts_missing strictly c.others.tokens (c.others-test.ensures.no refl)

pub more_parts-returns-clause-tree : goal.more_parts-returns-clause-tree
more_parts-returns-clause-tree m c =
    let h = c.others.invariant.tree t.no_part c.others.tokens g.no_part in
    (h.0, sym (join_none _) ∙ h.1, h.2)

pub braces-returns-clause-tree : goal.braces-returns-clause-tree
braces-returns-clause-tree m c =
    let others = c.in_ok-more_parts.ensures.tree in
    let items = c.in_ok-push-2.ensures.items
    ∙ ap (λ (v : List Expr). v ++ c.in_ok-second.second ∷ []) (c.in_ok-push.ensures.items ∙ ap (λ (v : List Expr). v ++ c.into_inner.result ∷ []) c.new-parts.ensures.items) in
    concat_tree c.in_ok-place.ensures.tree c.in_ok-second.ensures.tree others.2 c.in_ok-sign.ensures.tree c.in_ok-place.ensures.place
    (ap (λ (x : Expr). expression_of x) c.into_inner.ensures) c.spot.ensures (others.1 ∙ ap (λ (v : List Expr). join (expressions_of v) others.0) items) c.concat.ensures

-- what begins with a name

pub cell-returns-clause-tree : goal.cell-returns-clause-tree
cell-returns-clause-tree m c =
    indexes_tree c.slices.result c.slices.new.tokens (both c.args.name.place) c.args.name.name c.in_ok-index.ensures.tree c.in_ok-sign.ensures.tree
    (c.cell.ensures ∙ ap (λ spot. t.cell_at spot c.args.name.name (expression_of c.in_ok-index-2.index.value)) c.spot.ensures
    ∙ ap (λ (x : Expr). t.cell_at (both c.args.name.place) c.args.name.name (expression_of x)) c.in_ok-index-2.ensures.ok)
    c.slices.ensures.tree

pub named-returns-then-not-at_sign-clause-tree : goal.named-returns-then-not-at_sign-clause-tree
named-returns-then-not-at_sign-clause-tree m c =
    g.post (read_tree c.in_ok-name.ensures.tree (ap (λ (n : Mention). n.place) c.in_ok-name.ensures.place) c.spot.ensures c.read.ensures) g.no_cut

pub named-returns-then-at_slice-clause-tree : goal.named-returns-then-at_slice-clause-tree
named-returns-then-at_slice-clause-tree m c =
    sliced_post c.slice.result c.slice.new.tokens c.in_ok-name.ensures.tree (ap (λ (n : Mention). n.place) c.in_ok-name.ensures.place)
    c.in_ok-place.ensures.tree c.in_ok-place.ensures.place c.slice.ensures.tree

pub named-returns-else-at_slice-clause-tree : goal.named-returns-else-at_slice-clause-tree
named-returns-else-at_slice-clause-tree m c =
    indexed_post c.cell.result c.cell.new.tokens c.in_ok-name.ensures.tree (ap (λ (n : Mention). n.place) c.in_ok-name.ensures.place) c.in_ok-place.ensures.tree c.cell.ensures.tree

pub post-returns-in_ok-first-clause-tree : goal.post-returns-in_ok-first-clause-tree
post-returns-in_ok-first-clause-tree m c = post_tree c.slices.result c.slices.new.tokens c.in_ok-first.ensures.tree c.slices.ensures.tree

-- the rest

pub expr-returns-then-not-at_sign-clause-goes : goal.expr-returns-then-not-at_sign-clause-goes
expr-returns-then-not-at_sign-clause-goes m c =
    expr_bin strictly c.args.tokens.now ∙ bind_ok _ _ _ c.in_ok-first.ensures.goes ∙ bind_pure _ ∙ choice_missing strictly c.bin.new.tokens (c.if-not-at_sign.ensures.no refl)

pub expr-returns-then-not-at_sign-clause-tree : goal.expr-returns-then-not-at_sign-clause-tree
expr-returns-then-not-at_sign-clause-tree m c =
    subst (λ (x : Expr). g.Expr c.args.tokens.now (expression_of x) c.bin.new.tokens)
    (sym (c.into_inner.ensures ∙ c.in_ok-condition.ensures.ok)) (g.only c.in_ok-first.ensures.tree)

pub expr-returns-clause-tree : goal.expr-returns-clause-tree
expr-returns-clause-tree m c =
    choice_tree c.in_ok-first.ensures.tree c.in_ok-place.ensures.tree c.in_ok-other.ensures.tree c.in_ok-place.ensures.place
    (c.first.ensures ∙ ap (λ (x : Expr). first_of (expression_of x)) (search rules))
    (c.in_ok-choose.ensures ∙ ap (λ (x : Expr). t.choice (from_to c.first.result c.in_ok-place.place) (expression_of x)
    (expression_of c.in_ok-place.one.value) (expression_of c.in_ok-other.other)) c.in_ok-condition.ensures.ok)

pub paren-returns-clause-tree : goal.paren-returns-clause-tree
paren-returns-clause-tree m c =
    paren_tree c.in_ok-place.ensures.tree c.in_ok-place.ensures.place (c.enclosed.ensures ∙ ap (λ (x : Expr). enclosed c.in_ok-place.place (expression_of x)) c.into_inner.ensures)

pub between-returns-clause-tree : goal.between-returns-clause-tree
between-returns-clause-tree m c =
    subst (λ (x : Expr). Between c.args.opening c.args.left c.args.closing c.args.right c.args.tokens.now (expression_of x) c.sign-2.new.self) (sym c.in_ok-inner-2.ensures.ok)
    (between c.in_ok-place.ensures.tree c.in_ok-inner.ensures.tree c.in_ok-sign.ensures.tree)

pub unary-returns-in_err-place-in-Some-clause-goes : goal.unary-returns-in_err-place-in-Some-clause-goes
unary-returns-in_err-place-in-Some-clause-goes m c =
    let there : unary_at (ahead c.args.tokens.now.left) ≡ Some c.in-Some.operator = ap unary_at (sym c.peek.ensures) ∙ sym c.in-Some.ensures in
    fault_goes s.unary (s.sign r.Inner c.unary_sign_of.result) c.args.tokens.now c.args.tokens.now c.sign.new.self
    (steps_by strictly (s.unary ∷ [])) c.in_err-place-in-Some.field-0.0 c.from_residual.result (search rules)
    (unary_there strictly c.args.tokens.now c.in-Some.operator there
    ∙ ap (λ x. steps_by strictly (s.sign r.Inner x ∷ s.unary ∷ []) c.args.tokens.now) (sym c.unary_sign_of.ensures))
    c.in_err-place-in-Some.ensures.goes

pub unary-returns-in_err-operand-in-Some-clause-goes : goal.unary-returns-in_err-operand-in-Some-clause-goes
unary-returns-in_err-operand-in-Some-clause-goes m c =
    let there : unary_at (ahead c.args.tokens.now.left) ≡ Some c.in-Some.operator = ap unary_at (sym c.peek.ensures) ∙ sym c.in-Some.ensures in
    fault_goes s.unary s.unary c.args.tokens.now c.sign.new.self c.unary.new.tokens (steps_by strictly [])
    c.in_err-operand-in-Some.field-0.0 c.from_residual-in_err-operand-in-Some.result (search rules)
    (unary_there strictly c.args.tokens.now c.in-Some.operator there ∙ ap (λ x. steps_by strictly (s.sign r.Inner x ∷ s.unary ∷ []) c.args.tokens.now) (sym c.unary_sign_of.ensures)
    ∙ bind_ok _ _ _ c.in_ok-place-in-Some.ensures.goes)
    c.in_err-operand-in-Some.ensures.goes

pub unary-returns-in_ok-unary-in-Some-clause-goes : goal.unary-returns-in_ok-unary-in-Some-clause-goes
unary-returns-in_ok-unary-in-Some-clause-goes m c =
    let there : unary_at (ahead c.args.tokens.now.left) ≡ Some c.in-Some.operator = ap unary_at (sym c.peek.ensures) ∙ sym c.in-Some.ensures in
    unary_there strictly c.args.tokens.now c.in-Some.operator there ∙ ap (λ x. steps_by strictly (s.sign r.Inner x ∷ s.unary ∷ []) c.args.tokens.now) (sym c.unary_sign_of.ensures)
    ∙ bind_ok _ _ _ c.in_ok-place-in-Some.ensures.goes ∙ bind_pure _ ∙ c.in_ok-operand-in-Some.ensures.goes

pub unary-returns-in_ok-unary-in-Some-clause-tree : goal.unary-returns-in_ok-unary-in-Some-clause-tree
unary-returns-in_ok-unary-in-Some-clause-tree m c =
    unary_tree c.in-Some.operator (subst (λ x. IsSign c.args.tokens.now r.Inner x c.sign.new.self) c.unary_sign_of.ensures
    c.in_ok-place-in-Some.ensures.tree) c.in_ok-operand-in-Some.ensures.tree
    c.in_ok-place-in-Some.ensures.place c.spot.ensures c.in_ok-unary-in-Some.ensures

pub unary-returns-in-None-clause-tree : goal.unary-returns-in-None-clause-tree
unary-returns-in-None-clause-tree m c = unsigned_tree c.post.result c.args.tokens.now c.post.new.tokens c.post.ensures.tree

pub zext-returns-clause-tree : goal.zext-returns-clause-tree
zext-returns-clause-tree m c =
    zext_tree c.in_ok-place.ensures.tree c.in_ok-operand.ensures.tree c.in_ok-width.ensures.tree c.in_ok-place.ensures.place c.spot.ensures c.zext.ensures

-- where a part faults, and where all are read

pub expr-returns-clause-goes : goal.expr-returns-clause-goes
expr-returns-clause-goes m c =
    expr_bin strictly c.args.tokens.now ∙ bind_ok _ _ _ c.in_ok-first.ensures.goes ∙ bind_pure _
    ∙ choice_row c.bin.new.tokens (c.if-not-at_sign.ensures.yes refl) ∙ bind_ok _ _ _ c.in_ok-place.ensures.goes ∙ bind_pure _ ∙ c.in_ok-other.ensures.goes

pub between-returns-clause-goes : goal.between-returns-clause-goes
between-returns-clause-goes m c =
    row_steps _ _ ∙ bind_ok _ _ _ c.in_ok-place.ensures.goes ∙ bind_ok _ _ _ c.in_ok-inner.ensures.goes ∙ bind_pure _ ∙ c.in_ok-sign.ensures.goes

pub braces-returns-clause-goes : goal.braces-returns-clause-goes
braces-returns-clause-goes m c =
    braces_row c.args.tokens.now ∙ bind_ok _ _ _ c.in_ok-place.ensures.goes ∙ bind_ok _ _ _ c.in_ok-second.ensures.goes
    ∙ bind_ok _ _ _ c.in_ok-more_parts.ensures.goes ∙ bind_pure _ ∙ c.in_ok-sign.ensures.goes

pub zext-returns-clause-goes : goal.zext-returns-clause-goes
zext-returns-clause-goes m c =
    zext_row c.args.tokens.now ∙ bind_ok _ _ _ c.in_ok-place.ensures.goes ∙ bind_ok _ _ _ c.in_ok-operand.ensures.goes ∙ c.in_ok-width.ensures.goes

pub paren-returns-clause-goes : goal.paren-returns-clause-goes
paren-returns-clause-goes m c =
    paren_row c.args.tokens.now ∙ c.in_ok-place.ensures.goes
