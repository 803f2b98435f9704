-- What symbols read, by the parts that the reader's functions take in turn.
use Rattle.std.proofs.Common.{◌≡◌, ◌≢◌, List, [], ◌∷◌, ap, ◌∙◌}
use Rattle.sap_bits.specs.declared.Op1.{Op1}
use Rattle.sap_bits.specs.declared.Op2.{Op2}
use Rattle.sap_vtext.specs.Grammar.{binary_sign, unary_sign}
use Rattle.sap_vtext.specs.Tokens as t
use Rattle.sap_vparse.specs.Choices.{after_head, item_head, right_head}
use Rattle.sap_vparse.specs.Reading.{head, of_name, of_number, of_sign, reads}
use Rattle.sap_vparse.specs.Rows.{in_turn, reads_row, several, single}
use Rattle.sap_vparse.specs.Table as s
use Rattle.sap_vparse.specs.declared.choice.AfterHead.TheVariants as a
use Rattle.sap_vparse.specs.declared.choice.ItemHead.TheVariants as i
use Rattle.sap_vparse.specs.declared.choice.RightHead.TheVariants as r
use Rattle.sap_vparse.proofs.ItemLaws.{clock_update, clock_write, initial_cells, initial_start, item_always, item_assign, item_integer, item_wire, register_memory}
use Rattle.sap_vparse.proofs.Laws.{after_choose, after_two, bracket_cell, bracket_slice, clocked_steps, file_steps, loop_steps, range_steps, right_concat, right_one}
use Rattle.sap_vparse.proofs.Rows.{by_parts}
use Rattle.sap_walk.specs.Walk.{◌>>=◌}

pub range_turns : (p : List t.Token) → reads s.range p
    ≡ in_turn (single (s.sign t.open_bracket) ∷ several (s.number ∷ s.sign t.colon ∷ s.digit 0 ∷ s.sign t.close_bracket ∷ []) ∷ []) p
range_turns p = range_steps p ∙ by_parts (single (s.sign t.open_bracket) ∷ several (s.number ∷ s.sign t.colon ∷ s.digit 0 ∷ s.sign t.close_bracket ∷ []) ∷ []) p

pub slice_turns : (p : List t.Token) → head p ≡ of_number
    → reads s.after_bracket p ≡ in_turn (several (s.number ∷ s.sign t.colon ∷ []) ∷ several (s.number ∷ s.sign t.close_bracket ∷ s.sign t.semicolon ∷ []) ∷ []) p
slice_turns p e = bracket_slice p e ∙ by_parts (several (s.number ∷ s.sign t.colon ∷ []) ∷ several (s.number ∷ s.sign t.close_bracket ∷ s.sign t.semicolon ∷ []) ∷ []) p

pub cell_turns : (p : List t.Token) → head p ≢ of_number → reads s.after_bracket p ≡ in_turn (several (s.operand ∷ s.sign t.close_bracket ∷ s.sign t.semicolon ∷ []) ∷ []) p
cell_turns p e = bracket_cell p e ∙ by_parts (several (s.operand ∷ s.sign t.close_bracket ∷ s.sign t.semicolon ∷ []) ∷ []) p

pub choose_turns : (p : List t.Token) → after_head (head p) ≡ a.Choose
    → reads s.after_operand p ≡ in_turn (single (s.sign t.question) ∷ several (s.operand ∷ s.sign t.colon ∷ []) ∷ several (s.operand ∷ s.sign t.semicolon ∷ []) ∷ []) p
choose_turns p e = after_choose p e ∙ by_parts (single (s.sign t.question) ∷ several (s.operand ∷ s.sign t.colon ∷ []) ∷ several (s.operand ∷ s.sign t.semicolon ∷ []) ∷ []) p

pub two_turns : (p : List t.Token) (op : Op2) → after_head (head p) ≡ a.Two op
    → reads s.after_operand p ≡ in_turn (single (s.sign (binary_sign op)) ∷ several (s.operand ∷ s.sign t.semicolon ∷ []) ∷ []) p
two_turns p op e = after_two p op e ∙ by_parts (single (s.sign (binary_sign op)) ∷ several (s.operand ∷ s.sign t.semicolon ∷ []) ∷ []) p

pub one_turns : (p : List t.Token) (op : Op1) → right_head (head p) ≡ r.One op
    → reads s.right p ≡ in_turn (single (s.sign (unary_sign op)) ∷ several (s.operand ∷ s.sign t.semicolon ∷ []) ∷ []) p
one_turns p op e = right_one p op e ∙ by_parts (single (s.sign (unary_sign op)) ∷ several (s.operand ∷ s.sign t.semicolon ∷ []) ∷ []) p

pub concat_turns : (p : List t.Token) → right_head (head p) ≡ r.Concat
    → reads s.right p ≡ in_turn (single (s.sign t.open_brace) ∷ several (s.operand ∷ s.sign t.comma ∷ []) ∷ single s.operand ∷ single s.parts ∷ single (s.sign t.semicolon) ∷ []) p
concat_turns p e = right_concat p e ∙ by_parts (single (s.sign t.open_brace) ∷ several (s.operand ∷ s.sign t.comma ∷ []) ∷ single s.operand
    ∷ single s.parts ∷ single (s.sign t.semicolon) ∷ []) p

pub wire_turns : (p : List t.Token) → item_head (head p) ≡ i.Wire
    → reads s.item p ≡ in_turn (single (s.word t.wire_word) ∷ single s.range ∷ several (s.name ∷ s.sign t.semicolon ∷ []) ∷ []) p
wire_turns p e = item_wire p e ∙ by_parts (single (s.word t.wire_word) ∷ single s.range ∷ several (s.name ∷ s.sign t.semicolon ∷ []) ∷ []) p

pub cells_end_turns : (p : List t.Token) → head p ≡ of_sign t.open_bracket
    → reads s.after_register p ≡ in_turn (several (s.sign t.open_bracket ∷ s.digit 0 ∷ s.sign t.colon ∷ [])
    ∷ several (s.number ∷ s.sign t.close_bracket ∷ s.sign t.semicolon ∷ []) ∷ []) p
cells_end_turns p e = register_memory p e
    ∙ by_parts (several (s.sign t.open_bracket ∷ s.digit 0 ∷ s.sign t.colon ∷ []) ∷ several (s.number ∷ s.sign t.close_bracket ∷ s.sign t.semicolon ∷ []) ∷ []) p

pub integer_turns : (p : List t.Token) → item_head (head p) ≡ i.Integer
    → reads s.item p ≡ in_turn (several (s.word t.integer_word ∷ s.word t.i_word ∷ s.sign t.semicolon ∷ []) ∷ []) p
integer_turns p e = item_integer p e ∙ by_parts (several (s.word t.integer_word ∷ s.word t.i_word ∷ s.sign t.semicolon ∷ []) ∷ []) p

pub assign_turns : (p : List t.Token) → item_head (head p) ≡ i.Assign
    → reads s.item p ≡ in_turn (single (s.word t.assign_word) ∷ several (s.name ∷ s.sign t.is ∷ []) ∷ single s.right ∷ []) p
assign_turns p e = item_assign p e ∙ by_parts (single (s.word t.assign_word) ∷ several (s.name ∷ s.sign t.is ∷ []) ∷ single s.right ∷ []) p

pub start_turns : (p : List t.Token) → head p ≡ of_name
    → reads s.after_initial p ≡ in_turn (several (s.name ∷ s.sign t.is ∷ []) ∷ several (s.constant ∷ s.sign t.semicolon ∷ []) ∷ []) p
start_turns p e = initial_start p e ∙ by_parts (several (s.name ∷ s.sign t.is ∷ []) ∷ several (s.constant ∷ s.sign t.semicolon ∷ []) ∷ []) p

pub loop_turns : (p : List t.Token) → reads s.loop p
    ≡ in_turn (several (s.word t.for_word ∷ s.sign t.open_paren ∷ [])
    ∷ several (s.word t.i_word ∷ s.sign t.is ∷ s.digit 0 ∷ s.sign t.semicolon ∷ s.word t.i_word ∷ s.sign t.less ∷ [])
    ∷ several (s.number ∷ s.sign t.semicolon ∷ s.word t.i_word ∷ s.sign t.is ∷ s.word t.i_word ∷ s.sign t.plus ∷ s.digit 1 ∷ s.sign t.close_paren ∷ []) ∷ []) p
loop_turns p = loop_steps p ∙ by_parts (several (s.word t.for_word ∷ s.sign t.open_paren ∷ [])
    ∷ several (s.word t.i_word ∷ s.sign t.is ∷ s.digit 0 ∷ s.sign t.semicolon ∷ s.word t.i_word ∷ s.sign t.less ∷ [])
    ∷ several (s.number ∷ s.sign t.semicolon ∷ s.word t.i_word ∷ s.sign t.is ∷ s.word t.i_word ∷ s.sign t.plus ∷ s.digit 1 ∷ s.sign t.close_paren ∷ []) ∷ []) p

pub cells_turns : (p : List t.Token) → head p ≢ of_name
    → reads s.after_initial p ≡ in_turn (single s.loop
    ∷ several (s.name ∷ s.sign t.open_bracket ∷ s.word t.i_word ∷ s.sign t.close_bracket ∷ s.sign t.is ∷ []) ∷ several (s.constant ∷ s.sign t.semicolon ∷ []) ∷ []) p
cells_turns p e = initial_cells p e ∙ by_parts
    (single s.loop ∷ several (s.name ∷ s.sign t.open_bracket ∷ s.word t.i_word ∷ s.sign t.close_bracket ∷ s.sign t.is ∷ []) ∷ several (s.constant ∷ s.sign t.semicolon ∷ []) ∷ []) p

pub update_turns : (p : List t.Token) → head p ≡ of_name
    → reads s.after_clock p ≡ in_turn (several (s.name ∷ s.sign t.less_or_equal ∷ []) ∷ several (s.operand ∷ s.sign t.semicolon ∷ []) ∷ []) p
update_turns p e = clock_update p e ∙ by_parts (several (s.name ∷ s.sign t.less_or_equal ∷ []) ∷ several (s.operand ∷ s.sign t.semicolon ∷ []) ∷ []) p

pub write_turns : (p : List t.Token) → head p ≢ of_name
    → reads s.after_clock p ≡ in_turn (several (s.word t.if_word ∷ s.sign t.open_paren ∷ [])
    ∷ several (s.operand ∷ s.sign t.close_paren ∷ []) ∷ several (s.name ∷ s.sign t.open_bracket ∷ [])
    ∷ several (s.operand ∷ s.sign t.close_bracket ∷ s.sign t.less_or_equal ∷ []) ∷ several (s.operand ∷ s.sign t.semicolon ∷ []) ∷ []) p
write_turns p e = clock_write p e ∙ by_parts (several (s.word t.if_word ∷ s.sign t.open_paren ∷ [])
    ∷ several (s.operand ∷ s.sign t.close_paren ∷ []) ∷ several (s.name ∷ s.sign t.open_bracket ∷ [])
    ∷ several (s.operand ∷ s.sign t.close_bracket ∷ s.sign t.less_or_equal ∷ []) ∷ several (s.operand ∷ s.sign t.semicolon ∷ []) ∷ []) p

pub file_turns : (p : List t.Token) → reads s.file p
    ≡ in_turn (single (s.word t.module_word) ∷ several (s.name ∷ s.sign t.open_paren ∷ s.word t.input_word ∷ s.word t.clk_word ∷ [])
    ∷ single s.ports ∷ single (s.sign t.semicolon) ∷ single s.items ∷ []) p
file_turns p = file_steps p ∙ by_parts (single (s.word t.module_word)
    ∷ several (s.name ∷ s.sign t.open_paren ∷ s.word t.input_word ∷ s.word t.clk_word ∷ []) ∷ single s.ports ∷ single (s.sign t.semicolon) ∷ single s.items ∷ []) p

clocked_row : (p : List t.Token) → reads s.clocked p
    ≡ reads_row (s.word t.always_word ∷ s.sign t.at ∷ s.sign t.open_paren ∷ s.word t.posedge_word ∷ s.word t.clk_word ∷ s.sign t.close_paren ∷ []) p
unfolding reads_row
clocked_row p = clocked_steps p

pub always_turns : (p : List t.Token) → item_head (head p) ≡ i.Always
    → reads s.item p ≡ in_turn (several (s.word t.always_word ∷ s.sign t.at ∷ s.sign t.open_paren ∷ s.word t.posedge_word
    ∷ s.word t.clk_word ∷ s.sign t.close_paren ∷ []) ∷ single s.after_clock ∷ []) p
always_turns p e = item_always p e ∙ ap (λ o. o >>= in_turn (single s.after_clock ∷ [])) (clocked_row p)
