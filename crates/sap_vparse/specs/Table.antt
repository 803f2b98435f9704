-- The module grammar as the walk reads it: what each token does with each symbol.
use Rattle.std.specs.Prelude.{ℕ, ◌==◌, ◌&&◌, Bool, true, false, List, [], ◌∷◌, Ok}
use Rattle.std.specs.Str.{bytes_eq}
use Rattle.sap_vtext.specs.Lexing.{sign_text, word_text}
use Rattle.sap_vtext.specs.Tokens as t
use Rattle.sap_walk.specs.Rows.{push}
use Rattle.sap_walk.specs.Walk.{Next, begins, cannot_stand, Table}

-- What may be to come. `digit` is a number that is written with one digit. `ports` and `parts` go up to the sign that
-- closes them; `right`, `item` and all whose names begin with `after` go up to the `;`; `items` go up to `endmodule`,
-- behind which nothing stands.
pub data Symbol : Type 0 where
  sign : t.Sign → Symbol
  word : t.Word → Symbol
  digit : ℕ → Symbol
  name number constant operand range output_kind port ports parts : Symbol
  right after_operand after_name after_bracket : Symbol
  loop clocked after_register after_initial after_clock item items end file : Symbol

-- What the table says: the symbols that a symbol is replaced by, or that it can't stand.
abbrev pub Row : Type 0
Row = Next Symbol (Unit {0})

-- The token is the first of it, and these come behind it.
abbrev pub first : List Symbol → Row
first σ = begins tt σ

-- single tokens: a sign and a word by how they are spelled

-- The token is the one that is asked for, or it can't stand.
abbrev pub if_same : Bool → Row
if_same true = first []
if_same false = cannot_stand

-- A sign is asked for.
abbrev pub sign_next : t.Sign → t.Kind → Row
sign_next j (t.sign i) = if_same (bytes_eq (sign_text i) (sign_text j))
sign_next j _ = cannot_stand

-- A keyword is asked for.
abbrev pub word_next : t.Word → t.Kind → Row
word_next j (t.word i) = if_same (bytes_eq (word_text i) (word_text j))
word_next j _ = cannot_stand

-- A digit is asked for.
abbrev pub digit_next : ℕ → t.Kind → Row
digit_next n (t.number i digits) = if_same (i == n && digits == 1)
digit_next n _ = cannot_stand

-- A name is asked for.
abbrev pub name_next : t.Kind → Row
name_next (t.name n) = first []
name_next _ = cannot_stand

-- A number is asked for.
abbrev pub number_next : t.Kind → Row
number_next (t.number n digits) = first []
number_next _ = cannot_stand

-- A constant is asked for.
abbrev pub constant_next : t.Kind → Row
constant_next (t.constant width n) = first []
constant_next _ = cannot_stand

-- An operand is asked for.
abbrev pub operand_next : t.Kind → Row
operand_next (t.name n) = first []
operand_next (t.constant width n) = first []
operand_next _ = cannot_stand

-- ports

-- A range is asked for.
abbrev pub range_next : t.Kind → Row
range_next i = push (sign_next t.open_bracket i) (number ∷ sign t.colon ∷ digit 0 ∷ sign t.close_bracket ∷ [])

-- `reg` or `wire` of an output is asked for.
abbrev pub kind_next : t.Kind → Row
kind_next (t.word t.reg_word) = first []
kind_next (t.word t.wire_word) = first []
kind_next _ = cannot_stand

-- A port is asked for.
abbrev pub port_next : t.Kind → Row
port_next (t.word t.input_word) = first (range ∷ name ∷ [])
port_next (t.word t.output_word) = first (output_kind ∷ range ∷ name ∷ [])
port_next _ = cannot_stand

-- Further ports, or the end of the list.
abbrev pub ports_next : t.Kind → Row
ports_next (t.sign t.comma) = first (port ∷ ports ∷ [])
ports_next (t.sign t.close_paren) = first []
ports_next _ = cannot_stand

-- right sides

-- Further parts of a concatenation, or its end.
abbrev pub parts_next : t.Kind → Row
parts_next (t.sign t.comma) = first (operand ∷ parts ∷ [])
parts_next (t.sign t.close_brace) = first []
parts_next _ = cannot_stand

-- Behind a binary operator.
abbrev pub operation : Row
operation = first (operand ∷ sign t.semicolon ∷ [])

-- What follows the first operand of a right side.
abbrev pub after_operand_next : t.Kind → Row
after_operand_next (t.sign t.semicolon) = first []
after_operand_next (t.sign t.question) = first (operand ∷ sign t.colon ∷ operand ∷ sign t.semicolon ∷ [])
after_operand_next (t.sign t.plus) = operation
after_operand_next (t.sign t.minus) = operation
after_operand_next (t.sign t.star) = operation
after_operand_next (t.sign t.ampersand) = operation
after_operand_next (t.sign t.bar) = operation
after_operand_next (t.sign t.caret) = operation
after_operand_next (t.sign t.equal) = operation
after_operand_next (t.sign t.not_equal) = operation
after_operand_next (t.sign t.less) = operation
after_operand_next (t.sign t.less_or_equal) = operation
after_operand_next (t.sign t.shift_left) = operation
after_operand_next (t.sign t.shift_right) = operation
after_operand_next _ = cannot_stand

-- What follows a name that begins a right side.
abbrev pub after_name_next : t.Kind → Row
after_name_next (t.sign t.open_bracket) = first (after_bracket ∷ [])
after_name_next i = after_operand_next i

-- A slice or a cell, behind its bracket.
abbrev pub after_bracket_next : t.Kind → Row
after_bracket_next (t.number n digits) = first (sign t.colon ∷ number ∷ sign t.close_bracket ∷ sign t.semicolon ∷ [])
after_bracket_next i = push (operand_next i) (sign t.close_bracket ∷ sign t.semicolon ∷ [])

-- A right side is asked for.
abbrev pub right_next : t.Kind → Row
right_next (t.sign t.tilde) = operation
right_next (t.sign t.minus) = operation
right_next (t.sign t.ampersand) = operation
right_next (t.sign t.bar) = operation
right_next (t.sign t.caret) = operation
right_next (t.sign t.open_brace) = first (operand ∷ sign t.comma ∷ operand ∷ parts ∷ sign t.semicolon ∷ [])
right_next (t.name n) = first (after_name ∷ [])
right_next (t.constant width n) = first (after_operand ∷ [])
right_next _ = cannot_stand

-- items

-- The end of a register's declaration, or the depth of a memory.
abbrev pub after_register_next : t.Kind → Row
after_register_next (t.sign t.semicolon) = first []
after_register_next (t.sign t.open_bracket) =
    first (digit 0 ∷ sign t.colon ∷ number ∷ sign t.close_bracket ∷ sign t.semicolon ∷ [])
after_register_next _ = cannot_stand

-- The head of the loop over a memory's cells.
abbrev pub loop_next : t.Kind → Row
loop_next i =
    push (word_next t.for_word i)
    (sign t.open_paren ∷ word t.i_word ∷ sign t.is ∷ digit 0 ∷ sign t.semicolon
    ∷ word t.i_word ∷ sign t.less ∷ number ∷ sign t.semicolon
    ∷ word t.i_word ∷ sign t.is ∷ word t.i_word ∷ sign t.plus ∷ digit 1 ∷ sign t.close_paren ∷ [])

-- The loop that starts a memory's cells.
abbrev pub cells_next : t.Kind → Row
cells_next i =
    push (loop_next i) (name ∷ sign t.open_bracket ∷ word t.i_word ∷ sign t.close_bracket ∷ sign t.is
    ∷ constant ∷ sign t.semicolon ∷ [])

-- What follows `initial`.
abbrev pub after_initial_next : t.Kind → Row
after_initial_next (t.name n) = first (sign t.is ∷ constant ∷ sign t.semicolon ∷ [])
after_initial_next i = cells_next i

-- `always @(posedge clk)` is asked for.
abbrev pub clocked_next : t.Kind → Row
clocked_next i = push (word_next t.always_word i) (sign t.at ∷ sign t.open_paren ∷ word t.posedge_word
    ∷ word t.clk_word ∷ sign t.close_paren ∷ [])

-- The clocked write of a memory.
abbrev pub write_next : t.Kind → Row
write_next i =
    push (word_next t.if_word i)
    (sign t.open_paren ∷ operand ∷ sign t.close_paren ∷ name ∷ sign t.open_bracket ∷ operand ∷ sign t.close_bracket
    ∷ sign t.less_or_equal ∷ operand ∷ sign t.semicolon ∷ [])

-- What follows `always @(posedge clk)`.
abbrev pub after_clock_next : t.Kind → Row
after_clock_next (t.name n) = first (sign t.less_or_equal ∷ operand ∷ sign t.semicolon ∷ [])
after_clock_next i = write_next i

-- An item is asked for.
abbrev pub item_next : t.Kind → Row
item_next (t.word t.wire_word) = first (range ∷ name ∷ sign t.semicolon ∷ [])
item_next (t.word t.reg_word) = first (range ∷ name ∷ after_register ∷ [])
item_next (t.word t.integer_word) = first (word t.i_word ∷ sign t.semicolon ∷ [])
item_next (t.word t.assign_word) = first (name ∷ sign t.is ∷ right ∷ [])
item_next (t.word t.initial_word) = first (after_initial ∷ [])
item_next i = push (clocked_next i) (after_clock ∷ [])

-- Further items, or the end of the module.
abbrev pub items_next : t.Kind → Row
items_next (t.word t.endmodule_word) = first (end ∷ [])
items_next i = push (item_next i) (items ∷ [])

-- A module is asked for.
abbrev pub file_next : t.Kind → Row
file_next i =
    push (word_next t.module_word i) (name ∷ sign t.open_paren ∷ word t.input_word ∷ word t.clk_word
    ∷ ports ∷ sign t.semicolon ∷ items ∷ [])

-- The row of a symbol and the next token.
abbrev pub next : Symbol → t.Kind → Row
next (sign j) i = sign_next j i
next (word j) i = word_next j i
next (digit n) i = digit_next n i
next name i = name_next i
next number i = number_next i
next constant i = constant_next i
next operand i = operand_next i
next range i = range_next i
next output_kind i = kind_next i
next port i = port_next i
next ports i = ports_next i
next parts i = parts_next i
next right i = right_next i
next after_operand i = after_operand_next i
next after_name i = after_name_next i
next after_bracket i = after_bracket_next i
next loop i = loop_next i
next clocked i = clocked_next i
next after_register i = after_register_next i
next after_initial i = after_initial_next i
next after_clock i = after_clock_next i
next item i = item_next i
next items i = items_next i
next end i = cannot_stand
next file i = file_next i

-- The text may end here.
abbrev pub may_be_empty : Symbol → Bool
may_be_empty end = true
may_be_empty _ = false

-- The grammar as a table for the walk.
abbrev pub grammar : Table
grammar = record {
  Symbol = Symbol;
  Role = Unit {0};
  Token = t.Token;
  Past = Unit {0};
  Limit = ⊥;
  next = λ s x. next s x.kind;
  may_be_empty = may_be_empty;
  enter = λ role x past. Ok past;
}
