-- The module grammar: each rule relates tokens, what their front reads as, and the tokens behind it. One constructor
-- a production.
use Rattle.std.specs.Prelude.{ℕ, List, [], ◌∷◌}
use Rattle.sap_bits.specs.declared.Op1.{Op1}
use Rattle.sap_bits.specs.declared.Op1.TheVariants as unary
use Rattle.sap_bits.specs.declared.Op2.{Op2}
use Rattle.sap_bits.specs.declared.Op2.TheVariants as binary
use Rattle.sap_vtext.specs.Items.{Mention, Number, Constant, Operand, Right, Port, Item, File}
use Rattle.sap_vtext.specs.Items as item
use Rattle.sap_vtext.specs.Tokens.{Word, Sign, Token, IsToken}
use Rattle.sap_vtext.specs.Tokens as t

-- The tokens begin with a keyword.
pub record IsWord (ts : List Token) (word : Word) (r : List Token) : Type 0 where
  pub place : ℕ
  pub is : IsToken ts place (t.word word) r

-- The tokens begin with a sign.
pub record IsSign (ts : List Token) (sign : Sign) (r : List Token) : Type 0 where
  pub place : ℕ
  pub is : IsToken ts place (t.sign sign) r

-- The tokens begin with a name.
abbrev pub IsName : List Token → Mention → List Token → Type 0
IsName ts n r = IsToken ts n.place (t.name n.name) r

-- The tokens begin with a number.
pub record IsNumber (ts : List Token) (n : Number) (r : List Token) : Type 0 where
  pub digits : ℕ
  pub is : IsToken ts n.place (t.number n.value digits) r

-- The tokens begin with a number that is written with one digit.
pub record IsDigit (ts : List Token) (digit : ℕ) (r : List Token) : Type 0 where
  pub place : ℕ
  pub is : IsToken ts place (t.number digit 1) r

-- The tokens begin with a constant.
abbrev pub IsConstant : List Token → Constant → List Token → Type 0
IsConstant ts c r = IsToken ts c.place (t.constant c.width c.value) r

-- The sign of an operator of one operand.
abbrev pub unary_sign : Op1 → Sign
unary_sign unary.Not = t.tilde
unary_sign unary.Neg = t.minus
unary_sign unary.AllOnes = t.ampersand
unary_sign unary.AnyOne = t.bar
unary_sign unary.Odd = t.caret

-- The sign of an operator of two operands.
abbrev pub binary_sign : Op2 → Sign
binary_sign binary.Add = t.plus
binary_sign binary.Sub = t.minus
binary_sign binary.Mul = t.star
binary_sign binary.And = t.ampersand
binary_sign binary.Or = t.bar
binary_sign binary.Xor = t.caret
binary_sign binary.Eq = t.equal
binary_sign binary.Ne = t.not_equal
binary_sign binary.Lt = t.less
binary_sign binary.Le = t.less_or_equal
binary_sign binary.Shl = t.shift_left
binary_sign binary.Shr = t.shift_right

-- `OPD` is NAME or CONST.
pub data IsOperand : List Token → Operand → List Token → Type 0 where
  name : {ts r : List Token} {n : Mention} → IsName ts n r → IsOperand ts (item.named n) r
  constant : {ts r : List Token} {c : Constant} → IsConstant ts c r → IsOperand ts (item.constant c) r

-- `RANGE` is `"[" NUM ":" "0" "]"`.
pub data IsRange : List Token → Number → List Token → Type 0 where
  range : {ts a b c d r : List Token} {n : Number} → IsSign ts t.open_bracket a → IsNumber a n b
      → IsSign b t.colon c → IsDigit c 0 d
      → IsSign d t.close_bracket r → IsRange ts n r

-- A `port` is `input RANGE NAME`, `output reg RANGE NAME` or `output wire RANGE NAME`.
pub data IsPort : List Token → Port → List Token → Type 0 where
  input : {ts a b r : List Token} {n : Number} {x : Mention} → IsWord ts t.input_word a → IsRange a n b → IsName b x r
      → IsPort ts (record { direction = item.input; range = n; name = x }) r
  output_reg : {ts a b c r : List Token} {n : Number} {x : Mention} → IsWord ts t.output_word a
      → IsWord a t.reg_word b → IsRange b n c → IsName c x r
      → IsPort ts (record { direction = item.output_register; range = n; name = x }) r
  output_wire : {ts a b c r : List Token} {n : Number} {x : Mention} → IsWord ts t.output_word a
      → IsWord a t.wire_word b → IsRange b n c → IsName c x r
      → IsPort ts (record { direction = item.output_wire; range = n; name = x }) r

-- The production is `( "," port )*`.
pub data ArePorts : List Token → List Port → List Token → Type 0 where
  no_port : {r : List Token} → ArePorts r [] r
  next_port : {ts a b r : List Token} {p : Port} {ps : List Port} → IsSign ts t.comma a → IsPort a p b
      → ArePorts b ps r → ArePorts ts (p ∷ ps) r

-- The production is `( "," OPD )*`.
pub data AreParts : List Token → List Operand → List Token → Type 0 where
  no_part : {r : List Token} → AreParts r [] r
  next_part : {ts a b r : List Token} {o : Operand} {os : List Operand} → IsSign ts t.comma a
      → IsOperand a o b → AreParts b os r
      → AreParts ts (o ∷ os) r

-- An `rhs` is an operand, an operator with its operands, a choice, a concatenation, a slice or a cell.
pub data IsRight : List Token → Right → List Token → Type 0 where
  copy : {ts r : List Token} {a : Operand} → IsOperand ts a r → IsRight ts (item.copy a) r
  two : {ts m n r : List Token} {x y : Operand} (op : Op2) → IsOperand ts x m
      → IsSign m (binary_sign op) n → IsOperand n y r
      → IsRight ts (item.two op x y) r
  one : {ts m r : List Token} {x : Operand} (op : Op1) → IsSign ts (unary_sign op) m → IsOperand m x r
      → IsRight ts (item.one op x) r
  choose : {ts a b c d r : List Token} {x y z : Operand} → IsOperand ts x a → IsSign a t.question b
      → IsOperand b y c → IsSign c t.colon d
      → IsOperand d z r → IsRight ts (item.choose x y z) r
  concat : {ts a b c d e r : List Token} {x y : Operand} {zs : List Operand} → IsSign ts t.open_brace a
      → IsOperand a x b → IsSign b t.comma c
      → IsOperand c y d → AreParts d zs e → IsSign e t.close_brace r → IsRight ts (item.concat (x ∷ y ∷ zs)) r
  slice : {ts a b c d e r : List Token} {n : Mention} {high low : Number} → IsName ts n a
      → IsSign a t.open_bracket b → IsNumber b high c
      → IsSign c t.colon d → IsNumber d low e → IsSign e t.close_bracket r
      → IsRight ts (item.slice n high.value low.value) r
  cell : {ts a b c r : List Token} {m : Mention} {i : Operand} → IsName ts m a
      → IsSign a t.open_bracket b → IsOperand b i c
      → IsSign c t.close_bracket r → IsRight ts (item.cell m i) r

-- The production is `"always" "@" "(" "posedge" "clk" ")"`.
pub data IsClocked : List Token → List Token → Type 0 where
  clocked : {ts a b c d e r : List Token} → IsWord ts t.always_word a → IsSign a t.at b
      → IsSign b t.open_paren c → IsWord c t.posedge_word d
      → IsWord d t.clk_word e → IsSign e t.close_paren r → IsClocked ts r

-- The tokens begin with `"for" "(" "i" "=" "0" ";" "i" "<" NUM ";" "i" "=" "i" "+" "1" ")"`. The place is that of the
-- first `i`, the number that of NUM.
pub data IsLoop : List Token → ℕ → Number → List Token → Type 0 where
  loop : {ts a b c d e f g h i j k l m n o r : List Token} {place : ℕ} {bound : Number}
      → IsWord ts t.for_word a → IsSign a t.open_paren b
      → IsToken b place (t.word t.i_word) c → IsSign c t.is d → IsDigit d 0 e → IsSign e t.semicolon f
      → IsWord f t.i_word g → IsSign g t.less h → IsNumber h bound i → IsSign i t.semicolon j
      → IsWord j t.i_word k → IsSign k t.is l → IsWord l t.i_word m → IsSign m t.plus n → IsDigit n 1 o
      → IsSign o t.close_paren r
      → IsLoop ts place bound r

-- An `item` is a declaration, an assignment, a start or a clocked write.
pub data IsItem : List Token → Item → List Token → Type 0 where
  wire : {ts a b c r : List Token} {n : Number} {x : Mention} → IsWord ts t.wire_word a → IsRange a n b
      → IsName b x c → IsSign c t.semicolon r
      → IsItem ts (item.wire n x) r
  register : {ts a b c r : List Token} {n : Number} {x : Mention} → IsWord ts t.reg_word a
      → IsRange a n b → IsName b x c → IsSign c t.semicolon r
      → IsItem ts (item.register n x) r
  memory : {ts a b c d e f g h r : List Token} {n last : Number} {x : Mention} → IsWord ts t.reg_word a
      → IsRange a n b → IsName b x c
      → IsSign c t.open_bracket d → IsDigit d 0 e → IsSign e t.colon f → IsNumber f last g
      → IsSign g t.close_bracket h → IsSign h t.semicolon r
      → IsItem ts (item.memory n x last) r
  integer : {ts a b r : List Token} {place : ℕ} → IsToken ts place (t.word t.integer_word) a
      → IsWord a t.i_word b → IsSign b t.semicolon r
      → IsItem ts (item.integer place) r
  assign : {ts a b c d r : List Token} {x : Mention} {right : Right} → IsWord ts t.assign_word a
      → IsName a x b → IsSign b t.is c → IsRight c right d
      → IsSign d t.semicolon r → IsItem ts (item.assign x right) r
  initial : {ts a b c d r : List Token} {x : Mention} {value : Constant} → IsWord ts t.initial_word a
      → IsName a x b → IsSign b t.is c
      → IsConstant c value d → IsSign d t.semicolon r → IsItem ts (item.initial x value) r
  initial_cells : {ts a b c d e f g h r : List Token} {place : ℕ} {bound : Number} {x : Mention}
      {value : Constant} → IsWord ts t.initial_word a
      → IsLoop a place bound b → IsName b x c → IsSign c t.open_bracket d → IsWord d t.i_word e
      → IsSign e t.close_bracket f → IsSign f t.is g
      → IsConstant g value h → IsSign h t.semicolon r → IsItem ts (item.initial_cells place bound x value) r
  always : {ts a b c d r : List Token} {x : Mention} {next : Operand} → IsClocked ts a → IsName a x b
      → IsSign b t.less_or_equal c
      → IsOperand c next d → IsSign d t.semicolon r → IsItem ts (item.always x next) r
  always_cell : {ts a b c d e f g h i j k r : List Token} {x : Mention} {condition index value : Operand}
      → IsClocked ts a → IsWord a t.if_word b
      → IsSign b t.open_paren c → IsOperand c condition d → IsSign d t.close_paren e → IsName e x f
      → IsSign f t.open_bracket g → IsOperand g index h
      → IsSign h t.close_bracket i → IsSign i t.less_or_equal j → IsOperand j value k → IsSign k t.semicolon r
      → IsItem ts (item.always_cell condition x index value) r

-- Items follow one another.
pub data AreItems : List Token → List Item → List Token → Type 0 where
  no_item : {r : List Token} → AreItems r [] r
  next_item : {ts m r : List Token} {x : Item} {xs : List Item} → IsItem ts x m → AreItems m xs r
      → AreItems ts (x ∷ xs) r

-- A `file` is `module NAME ( input clk`, the ports, `);`, the items and `endmodule`.
pub data IsFile : List Token → File → List Token → Type 0 where
  file : {ts a b c d e f g h r : List Token} {x : Mention} {ps : List Port} {xs : List Item}
      → IsWord ts t.module_word a → IsName a x b
      → IsSign b t.open_paren c → IsWord c t.input_word d → IsWord d t.clk_word e → ArePorts e ps f
      → IsSign f t.close_paren g → IsSign g t.semicolon h
      → AreItems h xs r → {z : List Token} → IsWord r t.endmodule_word z
      → IsFile ts (record { module_name = x.name; ports = ps; items = xs }) z
