use Rattle.sap_lemmas.proofs.Common.{◌∙◌, ◌++◌, ◌∷◌, [], ◌+◌, List, sym, ap, subst, refl, rules, arith, IfOk-weaker}
use Rattle.sap_parse.specs.CommandRows.{behind, ended, plain}
use Rattle.sap_parse.specs.Grammar as g
use Rattle.sap_parse.specs.Joining.{join_commands}
use Rattle.sap_parse.specs.Reading.{steps_by, strictly}
use Rattle.sap_parse.specs.Table as s
use Rattle.sap_parse.specs.declared.role.Role.TheVariants as r
use Rattle.sap_tree.specs.Syntax as t
use Rattle.sap_tree.specs.Trees.{arm_block_of, arms_before, block_of, command_of, commands_of, constants_of, expression_of, simple_of}
use Rattle.sap_tree.specs.declared.syntax.Arm.{Arm}
use Rattle.sap_tree.specs.declared.syntax.Expr.{Expr}
use Rattle.sap_tree.specs.declared.syntax.Simple.{Simple}
use Rattle.sap_parse.proofs.CommandLaws.{arms_there, block_steps, cmd_simple, cmds_there}
use Rattle.sap_parse.proofs.CommandMakes.{arm_tree, arms_before_push, arms_tree, block_tree, branch_tree, case_tree, decided_tree, else_tree, ended_tree, handled_tree, join_commands_none, join_commands_push}
use Rattle.sap_parse.proofs.CommandRowLaws.{arm_rows, case_rows, else_row, if_rows}
use Rattle.sap_parse.proofs.Faults.{fault_goes}
use Rattle.sap_parse.proofs.RowLaws.{row_steps}
use Rattle.sap_walk.proofs.Walking.{bind_ok, bind_pure}
use Rattle.sap_parse.proofs.command.+command.Goals as goal

pub commands-returns-in_err-next-clause-goes : goal.commands-returns-in_err-next-clause-goes
commands-returns-in_err-next-clause-goes m c =
    fault_goes (s.cmds c.args.depth) (s.cmd c.args.depth) c.args.tokens.now c.commands.tokens c.command.new.tokens
    (steps_by strictly (s.cmds c.args.depth ∷ [])) c.in_err-next.field-0.0 c.from_residual.result (search rules)
    (c.commands.invariant.goes ∙ cmds_there strictly c.args.depth c.commands.tokens (c.commands-test.ensures.yes refl)) c.in_err-next.ensures.goes

pub commands-commands-preserved : goal.commands-commands-preserved
commands-commands-preserved m c = record {
  goes = c.commands.invariant.goes ∙ cmds_there strictly c.args.depth c.commands.tokens (c.commands-test.ensures.yes refl) ∙ bind_ok _ _ _ c.in_ok-next.ensures.goes ∙ bind_pure _;
  tree = λ ys q rest.
      subst (λ xs. g.Cmds c.args.depth c.args.tokens.now xs q) (sym (ap (λ items. join_commands (commands_of items) ys) c.in_ok-push.ensures.items ∙ join_commands_push _ _ ys))
      (c.commands.invariant.tree (t.and_command (command_of c.in_ok-next.next) ys) q (g.cmd c.in_ok-next.ensures.tree rest));
  no_longer = omega (arith, c.in_ok-next.ensures.shorter);
}

pub commands-returns-clause-tree : goal.commands-returns-clause-tree
commands-returns-clause-tree m c =
    subst (λ xs. g.Cmds c.args.depth c.args.tokens.now xs c.commands.tokens) (join_commands_none _) (c.commands.invariant.tree t.no_command c.commands.tokens g.no_cmd)

pub command-returns-clause-tree : goal.command-returns-clause-tree
command-returns-clause-tree m c =
    subst (λ x. g.Cmd c.args.depth c.args.tokens.now x c.ending.new.tokens)
    (sym (c.applied_to.ensures ∙ ap (λ (x : Simple). ended (simple_of x) c.in_ok-ending.ending) c.into_inner.ensures))
    (ended_tree c.in_ok-first.ensures.tree c.in_ok-ending.ensures.tree)

pub ending-returns-then-at_word-clause-tree : goal.ending-returns-then-at_word-clause-tree
ending-returns-then-at_word-clause-tree m c = decided_tree c.in_ok-place.ensures.tree c.in_ok-refused.ensures.tree c.in_ok-place.ensures.place

pub ending-returns-then-at_word-2-clause-tree : goal.ending-returns-then-at_word-2-clause-tree
ending-returns-then-at_word-2-clause-tree m c = handled_tree c.in_ok-place-2.ensures.tree c.in_ok-place-2.ensures.place

pub ending-returns-clause-tree : goal.ending-returns-clause-tree
ending-returns-clause-tree m c = plain c.in_ok-sign.ensures.tree

pub behind-returns-clause-tree : goal.behind-returns-clause-tree
behind-returns-clause-tree m c = behind c.in_ok-place.ensures.tree c.in_ok-block.ensures.tree

pub branch-returns-clause-tree : goal.branch-returns-clause-tree
branch-returns-clause-tree m c =
    branch_tree c.in_ok-place.ensures.tree c.in_ok-one.ensures.tree c.in_ok-other.ensures.tree c.in_ok-place.ensures.place
    (ap (λ (x : Expr). expression_of x) c.into_inner.ensures) c.branch-place-2.ensures

pub otherwise-returns-then-not-at_word-clause-tree : goal.otherwise-returns-then-not-at_word-clause-tree
otherwise-returns-then-not-at_word-clause-tree m c = g.no_else

pub otherwise-returns-clause-tree : goal.otherwise-returns-clause-tree
otherwise-returns-clause-tree m c = else_tree c.in_ok-other.ensures.tree

pub block-returns-clause-tree : goal.block-returns-clause-tree
block-returns-clause-tree m c = block_tree c.in_ok-sign.ensures.tree c.in_ok-commands.ensures.tree c.in_ok-after.ensures.tree c.in_ok-after.ensures.place

pub case-returns-clause-tree : goal.case-returns-clause-tree
case-returns-clause-tree m c =
    case_tree c.in_ok-place.ensures.tree c.in_ok-arms.ensures.tree c.in_ok-place.ensures.place (ap (λ (x : Expr). expression_of x) c.into_inner.ensures) c.case.ensures

pub arms-returns-clause-tree : goal.arms-returns-clause-tree
arms-returns-clause-tree m c =
    arms_tree _ _ c.in_ok-sign.ensures.tree c.in_ok-first.ensures.tree (c.in_ok-push.ensures.items
    ∙ ap (λ (v : List Arm). v ++ c.in_ok-first.first ∷ []) c.new-arms.ensures.items) c.in_ok-last.ensures.tree c.in_ok-sign-2.ensures.tree

pub arm-returns-clause-tree : goal.arm-returns-clause-tree
arm-returns-clause-tree m c = arm_tree c.in_ok-constants.ensures.tree c.in_ok-block.ensures.tree

pub more_arms-arms-preserved : goal.more_arms-arms-preserved
more_arms-arms-preserved m c = record {
  goes = c.arms.invariant.goes ∙ arms_there strictly c.args.depth c.arms.tokens (sym c.arms-test.ensures) ∙ bind_ok _ _ _ c.in_ok-next.ensures.goes ∙ bind_pure _;
  tree = λ ys q rest.
      let r = c.arms.invariant.tree (t.and_arm (constants_of c.in_ok-next.next) (arm_block_of c.in_ok-next.next) ys) q (g.and_arm c.in_ok-next.ensures.tree rest) in
      (r.0, ap (λ items. arms_before items ys) c.in_ok-push.ensures.items ∙ arms_before_push _ _ ys ∙ r.1, r.2);
  no_longer = omega (arith, c.in_ok-next.ensures.shorter);
}

pub more_arms-returns-clause-tree : goal.more_arms-returns-clause-tree
more_arms-returns-clause-tree m c =
    IfOk-weaker c.block.result _ _ (λ last h. c.arms.invariant.tree (t.last_arm (block_of last)) c.block.new.tokens (g.last c.in_ok-word.ensures.tree h)) c.block.ensures.tree

pub command-returns-clause-goes : goal.command-returns-clause-goes
command-returns-clause-goes m c =
    cmd_simple strictly c.args.depth c.args.tokens.now (c.if-at_word.ensures.no refl) (c.if-at_word-2.ensures.no refl)
    ∙ bind_ok _ _ _ c.in_ok-first.ensures.goes ∙ bind_pure _ ∙ c.in_ok-ending.ensures.goes

pub behind-returns-clause-goes : goal.behind-returns-clause-goes
behind-returns-clause-goes m c =
    row_steps _ _ ∙ bind_ok _ _ _ c.in_ok-place.ensures.goes ∙ bind_pure _ ∙ c.in_ok-block.ensures.goes

pub branch-returns-clause-goes : goal.branch-returns-clause-goes
branch-returns-clause-goes m c =
    if_rows c.args.depth c.args.tokens.now ∙ bind_ok _ _ _ c.in_ok-place.ensures.goes ∙ bind_ok _ _ _ c.in_ok-one.ensures.goes ∙ bind_pure _ ∙ c.in_ok-other.ensures.goes

pub case-returns-clause-goes : goal.case-returns-clause-goes
case-returns-clause-goes m c =
    case_rows c.args.depth c.args.tokens.now ∙ bind_ok _ _ _ c.in_ok-place.ensures.goes ∙ c.in_ok-arms.ensures.goes

pub arms-returns-clause-goes : goal.arms-returns-clause-goes
arms-returns-clause-goes m c =
    row_steps _ _ ∙ bind_ok _ _ _ c.in_ok-sign.ensures.goes ∙ bind_ok _ _ _ c.in_ok-first.ensures.goes
    ∙ bind_ok _ _ _ c.in_ok-last.ensures.goes ∙ bind_pure _ ∙ c.in_ok-sign-2.ensures.goes

pub arm-returns-clause-goes : goal.arm-returns-clause-goes
arm-returns-clause-goes m c =
    arm_rows c.args.depth c.args.tokens.now ∙ bind_ok _ _ _ c.in_ok-constants.ensures.goes ∙ bind_pure _ ∙ c.in_ok-block.ensures.goes

pub otherwise-returns-clause-goes : goal.otherwise-returns-clause-goes
otherwise-returns-clause-goes m c =
    else_row c.args.depth c.args.tokens.now (c.if-not-at_word.ensures.yes refl) ∙ c.in_ok-other.ensures.goes

pub block-returns-clause-goes : goal.block-returns-clause-goes
block-returns-clause-goes m c =
    block_steps strictly c.args.depth c.args.tokens.now ∙ bind_ok _ _ _ c.in_ok-sign.ensures.goes
    ∙ bind_ok _ _ _ c.in_ok-commands.ensures.goes ∙ bind_pure _ ∙ c.in_ok-after.ensures.goes
