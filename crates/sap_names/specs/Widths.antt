-- Own widths and asked-for widths of expressions. `Some w` is a width, `None` says that there is none.
use Rattle.std.specs.Prelude.{ℕ, zero, suc, Option, Some, None, Bool, true, false, eqb, leb, ltb, ◌&&◌, ◌^◌, ◌+◌, ◌-◌, if◌then◌else◌, is_some}
use Rattle.sap_tree.specs.declared.syntax.UnaryOperator.{UnaryOperator}
use Rattle.sap_tree.specs.declared.syntax.UnaryOperator.TheVariants.{Not, Neg}
use Rattle.sap_tree.specs.declared.syntax.BinaryOperator.{BinaryOperator}
use Rattle.sap_tree.specs.declared.syntax.BinaryOperator.TheVariants.{Eq, Ne, Lt, Le, Shl, Shr}
use Rattle.sap_tree.specs.Syntax.{Expression, literal, sized_literal, variable, cell_at, unary_of, binary_of, choice, slice, concat, zero_extend, Expressions, no_part, and_part}
use Rattle.sap_names.specs.declared.kind.Declared.{Declared}
use Rattle.sap_names.specs.declared.kind.Declared.TheVariants.{Input, Register, Memory}
use Rattle.sap_names.specs.declared.kind.Family.{Family}
use Rattle.sap_names.specs.declared.kind.Family.TheVariants.{Arithmetic, Shift, Comparison}
use Rattle.sap_names.specs.Entities.{Lookup}

-- A written width, if it is from 1 to 64, else none.
abbrev pub sound_width : ℕ → Option ℕ
sound_width w = if leb 1 w && leb w 64 then Some w else None

-- The number of index bits of a memory whose depth is a power of two, if it is from 1 to the first number.
abbrev pub bits_up_to : ℕ → ℕ → Option ℕ
bits_up_to zero depth = None
bits_up_to (suc b) depth = if eqb depth (2 ^ suc b) then Some (suc b) else bits_up_to b depth

-- The width of the index of a memory: b bits for 2 to the b cells, with b from 1 to 12.
abbrev pub index_bits : ℕ → Option ℕ
index_bits depth = bits_up_to 12 depth

-- `plain_width` is the width of what is read by a plain name: an input or a register.
abbrev pub plain_width : Option Declared → Option ℕ
plain_width (Some (Input width)) = sound_width width
plain_width (Some (Register width)) = sound_width width
plain_width _ = None

-- `register_width` is the width of a register that is assigned.
abbrev pub register_width : Option Declared → Option ℕ
register_width (Some (Register width)) = sound_width width
register_width _ = None

-- The width of a memory's cells, and none of anything else.
abbrev pub cell_width : Option Declared → Option ℕ
cell_width (Some (Memory width depth)) = sound_width width
cell_width _ = None

-- The width of a memory's index, and none of anything else.
abbrev pub index_width : Option Declared → Option ℕ
index_width (Some (Memory width depth)) = index_bits depth
index_width _ = None

-- The first width if there is one, else the second.
abbrev pub else_of : Option ℕ → Option ℕ → Option ℕ
else_of None other = other
else_of (Some w) other = Some w

-- The width of a zero extension: no less than that of its operand, and at most 64.
abbrev pub extended : Option ℕ → ℕ → Option ℕ
extended None width = None
extended (Some w) width = if leb w width && leb width 64 then Some width else None

-- The width of a slice that lies within its operand.
abbrev pub sliced : Option ℕ → ℕ → ℕ → Option ℕ
sliced None high low = None
sliced (Some w) high low = if leb low high && ltb high w then Some (high - low + 1) else None

-- The sum of two widths, if both are there and it is at most 64.
abbrev pub joined : Option ℕ → Option ℕ → Option ℕ
joined (Some w) (Some u) = if leb (w + u) 64 then Some (w + u) else None
joined _ _ = None

-- Which of three rules on widths a binary operator follows.
abbrev pub family : BinaryOperator → Family
family Eq = Comparison
family Ne = Comparison
family Lt = Comparison
family Le = Comparison
family Shl = Shift
family Shr = Shift
family _ = Arithmetic

-- The own width of a binary operator's result, by the own widths of its operands.
abbrev pub own_binary : Family → Option ℕ → Option ℕ → Option ℕ
own_binary Arithmetic left right = else_of left right
own_binary Shift left right = left
own_binary Comparison left right = Some 1

-- A unary operator is a reduction, which gives one bit.
abbrev pub is_reduction : UnaryOperator → Bool
is_reduction Not = false
is_reduction Neg = false
is_reduction _ = true

-- The own width of an expression, which its parts give, if they give one.
abbrev mutual
  pub own : Lookup → Expression → Option ℕ
  own what (literal spot value) = None
  own what (sized_literal spot width value) = sound_width width
  own what (variable spot name) = plain_width (what name)
  own what (cell_at spot name index) = cell_width (what name)
  own what (unary_of spot operator e) = if is_reduction operator then Some 1 else own what e
  own what (binary_of spot operator a b) = own_binary (family operator) (own what a) (own what b)
  own what (choice spot condition a b) = else_of (own what a) (own what b)
  own what (slice spot e high low) = sliced (own what e) high low
  own what (concat spot parts) = own_parts what parts
  own what (zero_extend spot e width) = extended (own what e) width

  -- The sum of the own widths of the parts, if each has one and the sum is at most 64.
  pub own_parts : Lookup → Expressions → Option ℕ
  own_parts what no_part = Some 0
  own_parts what (and_part e parts) = joined (own what e) (own_parts what parts)

-- `width_of` is the width of an expression where a place asks for a width, or for none.
abbrev pub width_of : Lookup → Expression → (asked : Option ℕ) → Option ℕ
width_of what e asked = else_of (own what e) asked

-- The width that is asked from the left operand of a binary operator.
abbrev pub asked_left : Family → (whole left right : Option ℕ) → Option ℕ
asked_left Arithmetic whole left right = whole
asked_left Shift whole left right = whole
asked_left Comparison whole left right = else_of left right

-- The width that is asked from a shift count: 64 if it has no own width, else none.
abbrev pub asked_count : Option ℕ → Option ℕ
asked_count None = Some 64
asked_count (Some w) = None

-- The width that is asked from the right operand of a binary operator.
abbrev pub asked_right : Family → (whole left right : Option ℕ) → Option ℕ
asked_right Arithmetic whole left right = whole
asked_right Shift whole left right = asked_count right
asked_right Comparison whole left right = else_of left right

-- The width that is asked from the operand of a unary operator.
abbrev pub asked_one : UnaryOperator → Option ℕ → Option ℕ
asked_one operator whole = if is_reduction operator then None else whole

-- There is a width.
abbrev pub is_sound : Option ℕ → Bool
is_sound w = is_some w

-- All parts have a width of their own.
abbrev pub all_sound : Lookup → Expressions → Bool
all_sound what no_part = true
all_sound what (and_part e parts) = is_sound (own what e) && all_sound what parts
