-- Parts of productions, as functions of the reader take them.
use Rattle.std.specs.Prelude.{◌≡◌, List, ◌++◌, Option, None, Some}
use Rattle.sap_bits.specs.declared.Op2.{Op2}
use Rattle.sap_vtext.specs.Grammar.{AreItems, AreParts, ArePorts, IsClocked, IsDigit, IsItem, IsName, IsNumber, IsOperand, IsRight, IsSign, IsWord, binary_sign}
use Rattle.sap_vtext.specs.Items as item
use Rattle.sap_vtext.specs.Tokens as t
use Rattle.sap_vtext.specs.Tokens.{Token}
use Rattle.sap_vparse.specs.Views.{mention_of, number_of, operand_of, operands_of}
use Rattle.sap_vparse.specs.declared.items.Direction.{Direction}
use Rattle.sap_vparse.specs.declared.items.Direction.TheVariants as d
use Rattle.sap_vparse.specs.declared.items.Mention.{Mention}
use Rattle.sap_vparse.specs.declared.items.Number.{Number}
use Rattle.sap_vparse.specs.declared.items.Operand.{Operand}
use Rattle.sap_vparse.specs.declared.right.Behind.{Behind}
use Rattle.sap_vparse.specs.declared.right.Behind.TheVariants as b

-- `reg` or `wire`.
pub data IsOutput : List Token → Direction → List Token → Type 0 where
  register : {ts r : List Token} → IsWord ts t.reg_word r → IsOutput ts d.OutputRegister r
  wire : {ts r : List Token} → IsWord ts t.wire_word r → IsOutput ts d.OutputWire r

-- The ports, each behind a comma, and `)`.
pub record PortsEnd (ts : List Token) (ps : List item.Port) (r : List Token) : Type 0 where
  pub last : List Token
  pub ports : ArePorts ts ps last
  pub close : IsSign last t.close_paren r

-- The operands that were added, each behind a comma, and `}`.
pub record PartsEnd (ts : List Token) (before after : List Operand) (r : List Token) : Type 0 where
  pub last : List Token
  pub added : List item.Operand
  pub all : operands_of after ≡ operands_of before ++ added
  pub parts : AreParts ts added last
  pub close : IsSign last t.close_brace r

-- A right side, and `;`.
pub record RightEnds (ts : List Token) (x : item.Right) (r : List Token) : Type 0 where
  pub last : List Token
  pub right : IsRight ts x last
  pub close : IsSign last t.semicolon r

-- What stands behind the first operand of a right side, up to the `;`.
pub data IsBehind : List Token → Behind → List Token → Type 0 where
  nothing : {ts r : List Token} → IsSign ts t.semicolon r → IsBehind ts b.Nothing r
  two : {ts m n r : List Token} {y : Operand} (op : Op2) → IsSign ts (binary_sign op) m
      → IsOperand m (operand_of y) n → IsSign n t.semicolon r
      → IsBehind ts (b.Two op y) r
  choose : {ts k l m n r : List Token} {y z : Operand} → IsSign ts t.question k
      → IsOperand k (operand_of y) l → IsSign l t.colon m → IsOperand m (operand_of z) n
      → IsSign n t.semicolon r → IsBehind ts (b.Choose y z) r

-- The right side of a first operand and what follows it.
abbrev pub right_with : item.Operand → Behind → item.Right
right_with x b.Nothing = item.copy x
right_with x (b.Two op y) = item.two op x (operand_of y)
right_with x (b.Choose y z) = item.choose x (operand_of y) (operand_of z)

-- Behind this name and `[`, the rest of a right side and `;`.
abbrev pub Indexes : Mention → List Token → item.Right → List Token → Type 0
Indexes x old right new = (ts m : List Token) → IsName ts (mention_of x) m → IsSign m t.open_bracket old
    → RightEnds ts right new

-- Behind the name of a register, `;`, or the number of the last cell of a memory and `;`.
pub data RegisterEnds : List Token → Option Number → List Token → Type 0 where
  no_cells : {ts r : List Token} → IsSign ts t.semicolon r → RegisterEnds ts None r
  cells : {ts a b c d e r : List Token} {last : Number} → IsSign ts t.open_bracket a → IsDigit a 0 b
      → IsSign b t.colon c → IsNumber c (number_of last) d
      → IsSign d t.close_bracket e → IsSign e t.semicolon r → RegisterEnds ts (Some last) r

-- The declaration of a register, or of a memory where a last index follows.
abbrev pub register_with : item.Number → item.Mention → Option Number → item.Item
register_with range x None = item.register range x
register_with range x (Some last) = item.memory range x (number_of last)

-- behind `initial`, and behind `always` with its clock, the rest of an item

-- An item, behind its word `initial`.
abbrev pub AfterInitial : List Token → item.Item → List Token → Type 0
AfterInitial old x new = (ts : List Token) → IsWord ts t.initial_word old → IsItem ts x new

-- An item, behind its `always @(posedge clk)`.
abbrev pub AfterClock : List Token → item.Item → List Token → Type 0
AfterClock old x new = (ts : List Token) → IsClocked ts old → IsItem ts x new

-- Items, and `endmodule`.
pub record ItemsEnd (ts : List Token) (xs : List item.Item) (r : List Token) : Type 0 where
  pub last : List Token
  pub items : AreItems ts xs last
  pub close : IsWord last t.endmodule_word r
