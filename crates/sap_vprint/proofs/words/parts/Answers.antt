use Rattle.sap_lemmas.proofs.Common.{◌≡◌, ◌++◌, map, flat_map, on_ok}
use Rattle.sap_vprint.specs.Printed.{operand_of}
use Rattle.sap_vprint.specs.Text.{text_of, part_pieces, parts_pieces}
use Rattle.sap_vprint.proofs.Texts.{parts_grow}
use Rattle.sap_vprint.proofs.words.parts.Goals as goal

pub returns-in_ok-operand-in-Some : goal.returns-in_ok-operand-in-Some
returns-in_ok-operand-in-Some c =
    on_ok c.more_parts.result (c.more_parts.new.out.items ≡ c.operand.new.out.items ++ flat_map (λ x. text_of (part_pieces (operand_of x))) c.in-Some.others.now)
    (c.more_parts.new.out.items ≡ c.args.out.now.items ++ text_of (parts_pieces (map operand_of c.args.operands.now)))
    (parts_grow c.args.operands.now c.in-Some.others.now c.in-Some.first.now c.args.out.now.items c.operand.new.out.items
    c.more_parts.new.out.items c.in-Some.ensures.cases.0 c.in_ok-operand-in-Some.ensures)
    c.more_parts.ensures
