-- What the module grammar reads: a module's text without its layout. A place is the number of bytes of the text
-- before it.
use Rattle.std.specs.Prelude.{ℕ, List}
use Rattle.sap_bits.specs.declared.Op1.{Op1}
use Rattle.sap_bits.specs.declared.Op2.{Op2}

-- A mention is a name where it stands.
pub record Mention : Type 0 where
  pub place : ℕ
  pub name : List ℕ

-- A number, with its place in the text.
pub record Number : Type 0 where
  pub place : ℕ
  pub value : ℕ

-- A constant has a width and a value, and its place in the text.
pub record Constant : Type 0 where
  pub place : ℕ
  pub width : ℕ
  pub value : ℕ

-- An operand: a name or a constant.
pub data Operand : Type 0 where
  named : Mention → Operand
  constant : Constant → Operand

-- The right side of an `assign` has one of these forms.
pub data Right : Type 0 where
  copy : Operand → Right
  one : Op1 → Operand → Right
  two : Op2 → Operand → Operand → Right
  choose : (condition first second : Operand) → Right
  concat : List Operand → Right
  slice : (name : Mention) → (high low : ℕ) → Right
  cell : (memory : Mention) → (index : Operand) → Right

-- The kind of a port: an input, a register or a wire that is shown.
pub data Direction : Type 0 where
  input output_register output_wire : Direction

-- A port has a direction, the number in its range, which is its width less 1, and a name.
pub record Port : Type 0 where
  pub direction : Direction
  pub range : Number
  pub name : Mention

-- An item: `wire [range:0] name`, `reg [range:0] name`, `reg [range:0] name [0:last]`, `integer i`, `assign name =
-- right`, `initial name = value`, the `for` of a memory's first contents, `always name <= next`, and `always` of a
-- memory. A place is that of the item's first `i`.
pub data Item : Type 0 where
  wire register : (range : Number) (name : Mention) → Item
  memory : (range : Number) (name : Mention) (last : Number) → Item
  integer : (place : ℕ) → Item
  assign : (name : Mention) (right : Right) → Item
  initial : (name : Mention) (value : Constant) → Item
  initial_cells : (place : ℕ) (bound : Number) (memory : Mention) (value : Constant) → Item
  always : (name : Mention) (next : Operand) → Item
  always_cell : (condition : Operand) (memory : Mention) (index value : Operand) → Item

-- A module: its name, its ports and its items.
pub record File : Type 0 where
  pub module_name : List ℕ
  pub ports : List Port
  pub items : List Item
