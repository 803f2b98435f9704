use Rattle.std.proofs.Common.{[], ◌∷◌, ◌∙◌, rules}
use Rattle.sap_vtext.specs.Grammar.{unary_sign}
use Rattle.sap_vtext.specs.Tokens as t
use Rattle.sap_vparse.specs.Rows.{in_turn, several}
use Rattle.sap_vparse.specs.Table as s
use Rattle.sap_vparse.proofs.Faults.{fault_goes, fault_goes_in_row}
use Rattle.sap_vparse.proofs.Makes.{one_tree}
use Rattle.sap_vparse.proofs.Turns.{one_turns}
use Rattle.sap_walk.proofs.Walking.{bind_ok}
use Rattle.sap_vparse.proofs.right.one.Goals as goal

pub returns-in_err-unary-clause-goes : goal.returns-in_err-unary-clause-goes
returns-in_err-unary-clause-goes c =
    fault_goes s.right (s.sign (unary_sign c.args.op)) c.args.tokens.now c.args.tokens.now c.unary.new.tokens
    (in_turn (several (s.operand ∷ s.sign t.semicolon ∷ []) ∷ [])) c.in_err-unary.field-0.0 c.from_residual.result
    (search rules) (one_turns c.args.tokens.now c.args.op c.requires) c.in_err-unary.ensures.goes

pub returns-in_err-operand-clause-goes : goal.returns-in_err-operand-clause-goes
returns-in_err-operand-clause-goes c =
    fault_goes_in_row s.right (s.operand ∷ s.sign t.semicolon ∷ []) c.args.tokens.now c.unary.new.tokens c.operand_then.new.tokens
    (in_turn []) c.in_err-operand.field-0.0 c.from_residual-in_err-operand.result
    (search rules) (one_turns c.args.tokens.now c.args.op c.requires ∙ bind_ok _ _ _ c.in_ok-unary.ensures.goes) c.in_err-operand.ensures.goes

pub returns-clause-goes : goal.returns-clause-goes
returns-clause-goes c = one_turns c.args.tokens.now c.args.op c.requires ∙ bind_ok _ _ _ c.in_ok-unary.ensures.goes ∙ bind_ok _ _ _ c.in_ok-operand.ensures.goes

pub returns-clause-tree : goal.returns-clause-tree
returns-clause-tree c = one_tree c.args.op c.in_ok-unary.ensures.tree c.in_ok-operand.ensures.tree c.into_inner.ensures
