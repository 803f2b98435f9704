use Rattle.std.proofs.Common.{[], ◌∷◌, ◌∙◌, rules}
use Rattle.sap_vtext.specs.Grammar.{binary_sign}
use Rattle.sap_vtext.specs.Tokens as t
use Rattle.sap_vparse.specs.Rows.{in_turn, several}
use Rattle.sap_vparse.specs.Table as s
use Rattle.sap_vparse.proofs.Faults.{fault_goes, fault_goes_in_row}
use Rattle.sap_vparse.proofs.Makes.{two_tree}
use Rattle.sap_vparse.proofs.Turns.{two_turns}
use Rattle.sap_walk.proofs.Walking.{bind_ok}
use Rattle.sap_vparse.proofs.right.two.Goals as goal

pub returns-in_err-binary-clause-goes : goal.returns-in_err-binary-clause-goes
returns-in_err-binary-clause-goes c =
    fault_goes s.after_operand (s.sign (binary_sign c.args.op)) c.args.tokens.now c.args.tokens.now c.binary.new.tokens
    (in_turn (several (s.operand ∷ s.sign t.semicolon ∷ []) ∷ [])) c.in_err-binary.field-0.0 c.from_residual.result
    (search rules) (two_turns c.args.tokens.now c.args.op c.requires) c.in_err-binary.ensures.goes

pub returns-in_err-second-clause-goes : goal.returns-in_err-second-clause-goes
returns-in_err-second-clause-goes c =
    fault_goes_in_row s.after_operand (s.operand ∷ s.sign t.semicolon ∷ []) c.args.tokens.now c.binary.new.tokens c.operand_then.new.tokens
    (in_turn []) c.in_err-second.field-0.0 c.from_residual-in_err-second.result
    (search rules) (two_turns c.args.tokens.now c.args.op c.requires ∙ bind_ok _ _ _ c.in_ok-binary.ensures.goes) c.in_err-second.ensures.goes

pub returns-clause-goes : goal.returns-clause-goes
returns-clause-goes c = two_turns c.args.tokens.now c.args.op c.requires ∙ bind_ok _ _ _ c.in_ok-binary.ensures.goes ∙ bind_ok _ _ _ c.in_ok-second.ensures.goes

pub returns-clause-tree : goal.returns-clause-tree
returns-clause-tree c = two_tree c.args.op c.in_ok-binary.ensures.tree c.in_ok-second.ensures.tree c.into_inner.ensures
