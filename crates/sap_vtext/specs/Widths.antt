-- The width rules: which widths have to be equal by what is known where an item stands. A width is there only where
-- what has it has no fault of its own.
use Rattle.std.specs.Prelude.{◌≢◌, ℕ, ◌+◌, ◌-◌, ◌^◌, List, [], ◌∷◌, Bool, true, ◌&&◌, nat_lt, nat_le, if◌then◌else◌, Option, Some, None}
use Rattle.sap_bits.specs.declared.Op1.{Op1}
use Rattle.sap_bits.specs.declared.Op1.TheVariants as unary
use Rattle.sap_bits.specs.declared.Op2.{Op2}
use Rattle.sap_bits.specs.declared.Op2.TheVariants as binary
use Rattle.sap_vtext.specs.Items.{Constant, Operand, Right, Item}
use Rattle.sap_vtext.specs.Items as item
use Rattle.sap_vtext.specs.Names.{Shape, input, wire, register, memory, assign, Known}

-- The constant's width is 1 to 64 and its number fits.
abbrev pub constant_fits : Constant → Bool
constant_fits c = nat_le 1 c.width && (nat_le c.width 64 && nat_lt c.value (2 ^ c.width))

-- The width of a constant that fits.
abbrev pub constant_width : Constant → Option ℕ
constant_width c = if constant_fits c then Some c.width else None

-- The width of an operand of this shape: there is one for an input, a register, and a wire that is assigned before.
abbrev pub value_width : Option Shape → Bool → Option ℕ
value_width (Some (input width)) assigned = Some width
value_width (Some (register width)) assigned = Some width
value_width (Some (wire width)) true = Some width
value_width _ _ = None

-- The width of an operand that has no fault.
abbrev pub operand_width : Known → Operand → Option ℕ
operand_width k (item.named x) = value_width (k.shape x.name) (k.set assign x.name)
operand_width k (item.constant c) = constant_width c

-- The width of a name that is declared as a wire.
abbrev pub wire_width : Option Shape → Option ℕ
wire_width (Some (wire width)) = Some width
wire_width _ = None

-- The width of a name that is declared as a register.
abbrev pub register_width : Option Shape → Option ℕ
register_width (Some (register width)) = Some width
register_width _ = None

-- The width of a name that is declared as a memory.
abbrev pub memory_width : Option Shape → Option ℕ
memory_width (Some (memory width depth)) = Some width
memory_width _ = None

-- The width of a shape.
abbrev pub shape_width : Shape → ℕ
shape_width (input width) = width
shape_width (wire width) = width
shape_width (register width) = width
shape_width (memory width depth) = width

-- The sum of two widths that are known.
abbrev pub add_widths : Option ℕ → Option ℕ → Option ℕ
add_widths (Some u) (Some w) = Some (u + w)
add_widths _ _ = None

-- `parts_width` is the sum of the parts of a `{}`.
abbrev pub parts_width : Known → List Operand → Option ℕ
parts_width k [] = Some 0
parts_width k (x ∷ xs) = add_widths (operand_width k x) (parts_width k xs)

-- The width of a slice that lies within its name's width.
abbrev pub slice_width : Option ℕ → ℕ → ℕ → Option ℕ
slice_width (Some width) high low = if nat_le low high && nat_lt high width then Some (high + 1 - low) else None
slice_width None high low = None

-- Which widths an operator wants equal. `all_equal`: those of its operands and its target. `compared`: those of its
-- operands, and its target's with 1. `first_only`: those of its first operand and its target.
pub data Rule : Type 0 where
  all_equal compared first_only : Rule

-- The width rule of an operator of one operand.
abbrev pub unary_rule : Op1 → Rule
unary_rule unary.Not = all_equal
unary_rule unary.Neg = all_equal
unary_rule _ = compared

-- The width rule of an operator of two operands.
abbrev pub binary_rule : Op2 → Rule
binary_rule binary.Eq = compared
binary_rule binary.Ne = compared
binary_rule binary.Lt = compared
binary_rule binary.Le = compared
binary_rule binary.Shl = first_only
binary_rule binary.Shr = first_only
binary_rule _ = all_equal

-- Pairs of widths that have to be equal where both are known.
abbrev pub Pairs : Type 0
Pairs = List (Option ℕ × Option ℕ)

-- The pairs that the rule of an operator of one operand asks for.
abbrev pub unary_pairs : Rule → Option ℕ → Option ℕ → Pairs
unary_pairs compared target x = (target, Some 1) ∷ []
unary_pairs _ target x = (target, x) ∷ []

-- The pairs that the rule of an operator of two operands asks for.
abbrev pub binary_pairs : Rule → Option ℕ → Option ℕ → Option ℕ → Pairs
binary_pairs all_equal target x y = (target, x) ∷ (target, y) ∷ (x, y) ∷ []
binary_pairs compared target x y = (target, Some 1) ∷ (x, y) ∷ []
binary_pairs first_only target x y = (target, x) ∷ []

-- The pairs of a `?:`: its condition has width 1, and its target and both arms have one width.
abbrev pub arm_pairs : Option ℕ → Option ℕ → Option ℕ → Option ℕ → Pairs
arm_pairs condition target x y = (condition, Some 1) ∷ (target, x) ∷ (target, y) ∷ (x, y) ∷ []

-- The pairs that a right side and its target ask for.
abbrev pub right_pairs : Known → Option ℕ → Right → Pairs
right_pairs k target (item.copy x) = (target, operand_width k x) ∷ []
right_pairs k target (item.one op x) = unary_pairs (unary_rule op) target (operand_width k x)
right_pairs k target (item.two op x y) = binary_pairs (binary_rule op) target (operand_width k x) (operand_width k y)
right_pairs k target (item.choose c x y) = arm_pairs (operand_width k c) target (operand_width k x) (operand_width k y)
right_pairs k target (item.concat xs) = (target, parts_width k xs) ∷ []
right_pairs k target (item.slice x high low) = (target, slice_width (operand_width k (item.named x)) high low) ∷ []
right_pairs k target (item.cell m index) = (target, memory_width (k.shape m.name)) ∷ []

-- `pairs` are the pairs of widths that an item wants equal.
abbrev pub pairs : Known → Item → Pairs
pairs k (item.assign x right) = right_pairs k (wire_width (k.shape x.name)) right
pairs k (item.initial x value) = (register_width (k.shape x.name), constant_width value) ∷ []
pairs k (item.initial_cells place bound x value) = (memory_width (k.shape x.name), constant_width value) ∷ []
pairs k (item.always x next) = (register_width (k.shape x.name), operand_width k next) ∷ []
pairs k (item.always_cell condition x index value) =
    (operand_width k condition, Some 1) ∷ (memory_width (k.shape x.name), operand_width k value) ∷ []
pairs k _ = []

-- Both widths are there, and they differ.
abbrev pub Differ : Option ℕ × Option ℕ → Type 0
Differ (Some u, Some w) = u ≢ w
Differ _ = ⊥
