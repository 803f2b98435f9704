-- How a module is laid out: one port a line, one item a line.
use Rattle.std.specs.Prelude.{ℕ, List, [], ◌∷◌, ◌++◌, codes, decimal, flat_map}
use Rattle.sap_bits.specs.declared.Op1.{Op1}
use Rattle.sap_bits.specs.declared.Op2.{Op2}
use Rattle.sap_vtext.specs.Grammar.{unary_sign, binary_sign}
use Rattle.sap_vtext.specs.Items.{Operand, Right, Direction, Port, Item, File}
use Rattle.sap_vtext.specs.Items as item
use Rattle.sap_vtext.specs.Lexing.{word_text, sign_text}
use Rattle.sap_vtext.specs.Tokens.{Word, Sign}
use Rattle.sap_vtext.specs.Tokens as t

-- A piece of the text: a token, a space, the end of a line, or the comment at the head; the numbers 0 and 1 where the
-- grammar asks for them are pieces of their own.
pub data Piece : Type 0 where
  space line comment : Piece
  zero one : Piece
  word : Word → Piece
  sign : Sign → Piece
  name : List ℕ → Piece
  number : ℕ → Piece
  operand : Operand → Piece

-- How an operand is written.
abbrev pub operand_text : Operand → List ℕ
operand_text (item.named x) = x.name
operand_text (item.constant c) = decimal c.width ++ (codes "'d" ++ decimal c.value)

-- How a piece is written.
abbrev pub piece_text : Piece → List ℕ
piece_text space = 32 ∷ []
piece_text line = 10 ∷ []
piece_text comment = codes "// written by sapper"
piece_text zero = codes "0"
piece_text one = codes "1"
piece_text (word w) = word_text w
piece_text (sign s) = sign_text s
piece_text (name n) = n
piece_text (number n) = decimal n
piece_text (operand x) = operand_text x

-- How pieces are written, one behind the other.
abbrev pub text_of : List Piece → List ℕ
text_of ps = flat_map piece_text ps

-- `[n:0] `.
abbrev pub range_pieces : ℕ → List Piece
range_pieces n = sign t.open_bracket ∷ number n ∷ sign t.colon ∷ zero ∷ sign t.close_bracket ∷ space ∷ []

-- How an operator of one operand is written.
abbrev pub unary_text : Op1 → List ℕ
unary_text op = sign_text (unary_sign op)

-- With a space on each side.
abbrev pub binary_text : Op2 → List ℕ
binary_text op = 32 ∷ (sign_text (binary_sign op) ++ (32 ∷ []))

-- A further part of a concatenation.
abbrev pub part_pieces : Operand → List Piece
part_pieces x = sign t.comma ∷ space ∷ operand x ∷ []

-- The parts of a `{}`, with commas between them.
abbrev pub parts_pieces : List Operand → List Piece
parts_pieces [] = []
parts_pieces (x ∷ xs) = operand x ∷ flat_map part_pieces xs

-- The pieces of a right side.
abbrev pub right_pieces : Right → List Piece
right_pieces (item.copy x) = operand x ∷ []
right_pieces (item.one op x) = sign (unary_sign op) ∷ operand x ∷ []
right_pieces (item.two op x y) = operand x ∷ space ∷ sign (binary_sign op) ∷ space ∷ operand y ∷ []
right_pieces (item.choose c x y) = operand c ∷ space ∷ sign t.question ∷ space ∷ operand x ∷ space
    ∷ sign t.colon ∷ space ∷ operand y ∷ []
right_pieces (item.concat xs) = sign t.open_brace ∷ (parts_pieces xs ++ (sign t.close_brace ∷ []))
right_pieces (item.slice x high low) = name x.name ∷ sign t.open_bracket ∷ number high ∷ sign t.colon
    ∷ number low ∷ sign t.close_bracket ∷ []
right_pieces (item.cell m index) = name m.name ∷ sign t.open_bracket ∷ operand index ∷ sign t.close_bracket ∷ []

-- `always @(posedge clk) `.
abbrev pub clocked_pieces : List Piece
clocked_pieces =
    word t.always_word ∷ space ∷ sign t.at ∷ sign t.open_paren ∷ word t.posedge_word ∷ space
    ∷ word t.clk_word ∷ sign t.close_paren ∷ space ∷ []

-- `for (i = 0; i < n; i = i + 1) `.
abbrev pub loop_pieces : ℕ → List Piece
loop_pieces n =
    word t.for_word ∷ space ∷ sign t.open_paren ∷ word t.i_word ∷ space ∷ sign t.is ∷ space ∷ zero ∷ sign t.semicolon
    ∷ space ∷ word t.i_word ∷ space ∷ sign t.less ∷ space ∷ number n ∷ sign t.semicolon
    ∷ space ∷ word t.i_word ∷ space ∷ sign t.is ∷ space ∷ word t.i_word ∷ space ∷ sign t.plus ∷ space
    ∷ one ∷ sign t.close_paren ∷ space ∷ []

-- The end of an item.
abbrev pub end_of_item : List Piece
end_of_item = sign t.semicolon ∷ line ∷ []

-- The pieces of an item.
abbrev pub item_pieces : Item → List Piece
item_pieces (item.wire n x) = word t.wire_word ∷ space ∷ (range_pieces n.value ++ (name x.name ∷ end_of_item))
item_pieces (item.register n x) = word t.reg_word ∷ space ∷ (range_pieces n.value ++ (name x.name ∷ end_of_item))
item_pieces (item.memory n x last) =
    word t.reg_word ∷ space ∷ (range_pieces n.value
    ++ (name x.name ∷ space ∷ sign t.open_bracket ∷ zero ∷ sign t.colon ∷ number last.value
    ∷ sign t.close_bracket ∷ end_of_item))
item_pieces (item.integer place) = word t.integer_word ∷ space ∷ word t.i_word ∷ end_of_item
item_pieces (item.assign x right) = word t.assign_word ∷ space ∷ name x.name ∷ space ∷ sign t.is ∷ space
    ∷ (right_pieces right ++ end_of_item)
item_pieces (item.initial x value) =
    word t.initial_word ∷ space ∷ name x.name ∷ space ∷ sign t.is ∷ space ∷ operand (item.constant value) ∷ end_of_item
item_pieces (item.initial_cells place n x value) =
    word t.initial_word ∷ space ∷ (loop_pieces n.value
    ++ (name x.name ∷ sign t.open_bracket ∷ word t.i_word ∷ sign t.close_bracket ∷ space ∷ sign t.is
    ∷ space ∷ operand (item.constant value) ∷ end_of_item))
item_pieces (item.always x next) = clocked_pieces
    ++ (name x.name ∷ space ∷ sign t.less_or_equal ∷ space ∷ operand next ∷ end_of_item)
item_pieces (item.always_cell condition x index value) =
    clocked_pieces
    ++ (word t.if_word ∷ space ∷ sign t.open_paren ∷ operand condition ∷ sign t.close_paren ∷ space
    ∷ name x.name ∷ sign t.open_bracket ∷ operand index
    ∷ sign t.close_bracket ∷ space ∷ sign t.less_or_equal ∷ space ∷ operand value ∷ end_of_item)

-- How an item is written.
unfoldable pub item_text : Item → List ℕ
item_text x = text_of (item_pieces x)

-- How items are written.
abbrev pub items_text : List Item → List ℕ
items_text xs = text_of (flat_map item_pieces xs)

-- How `always @(posedge clk)` is written.
unfoldable pub clocked_text : List ℕ
clocked_text = text_of clocked_pieces

-- How the loop over a memory's cells is written.
unfoldable pub loop_text : ℕ → List ℕ
loop_text n = text_of (loop_pieces n)

-- Before each port but `input clk`, and where it stands.
abbrev pub new_port : List Piece
new_port = sign t.comma ∷ line ∷ space ∷ space ∷ []

-- The pieces of a direction.
abbrev pub direction_pieces : Direction → List Piece
direction_pieces item.input = word t.input_word ∷ space ∷ []
direction_pieces item.output_register = word t.output_word ∷ space ∷ word t.reg_word ∷ space ∷ []
direction_pieces item.output_wire = word t.output_word ∷ space ∷ word t.wire_word ∷ space ∷ []

-- The pieces of a port.
abbrev pub port_pieces : Port → List Piece
port_pieces p = new_port ++ (direction_pieces p.direction ++ (range_pieces p.range.value ++ (name p.name.name ∷ [])))

-- How a port is written.
unfoldable pub port_text : Port → List ℕ
port_text p = text_of (port_pieces p)

-- The comment on a line of its own, `module NAME(` and `input clk`.
abbrev pub head_pieces : List ℕ → List Piece
head_pieces n =
    comment ∷ line ∷ word t.module_word ∷ space ∷ name n ∷ sign t.open_paren ∷ line ∷ space ∷ space
    ∷ word t.input_word ∷ space ∷ word t.clk_word ∷ []

-- The end of the ports.
abbrev pub end_of_ports : List Piece
end_of_ports = line ∷ sign t.close_paren ∷ sign t.semicolon ∷ line ∷ []

-- The end of the module.
abbrev pub end_of_file : List Piece
end_of_file = word t.endmodule_word ∷ line ∷ []

-- The pieces of a module.
abbrev pub file_pieces : File → List Piece
file_pieces f = head_pieces f.module_name
    ++ (flat_map port_pieces f.ports ++ (end_of_ports ++ (flat_map item_pieces f.items ++ end_of_file)))
