use Rattle.sap_lemmas.proofs.Common.{refl}
use Rattle.std.specs.Fmt.{digits}
use Rattle.sap_show.specs.Canonical.{canonical_text, declaration_text, head_text, state_text, command_text, simple_text, cell_text, tag_text, expression_text, operand_text}
use Rattle.sap_tree.specs.Precedence.{precedence_of}
use Rattle.sap_show.proofs.law.worked_texts.Goals as goal

pub returns-clause-adder : goal.returns-clause-adder
unfolding digits canonical_text declaration_text head_text state_text command_text simple_text cell_text tag_text expression_text operand_text precedence_of
returns-clause-adder c = refl

pub returns-clause-nested : goal.returns-clause-nested
unfolding digits canonical_text declaration_text head_text state_text command_text simple_text cell_text tag_text expression_text operand_text precedence_of
returns-clause-nested c = refl

pub returns-clause-second : goal.returns-clause-second
unfolding digits canonical_text declaration_text head_text state_text command_text simple_text cell_text tag_text expression_text operand_text precedence_of
returns-clause-second c = refl
