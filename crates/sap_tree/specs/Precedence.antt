-- How tightly an expression binds. An operand stands in parentheses exactly where it binds looser than its place asks
-- for.
use Rattle.std.specs.Prelude.{ℕ}
use Rattle.sap_tree.specs.Syntax.{Expression, literal, sized_literal, variable, cell_at, unary_of, binary_of, choice, slice, concat, zero_extend}
use Rattle.sap_tree.specs.declared.syntax.BinaryOperator.TheVariants as b
use Rattle.sap_tree.specs.declared.syntax.BinaryOperator.{BinaryOperator}

-- How tightly a binary operator binds: from 1, the loosest, to 8, the tightest.
abbrev pub precedence : BinaryOperator → ℕ
precedence b.Or = 1
precedence b.Xor = 2
precedence b.And = 3
precedence b.Eq = 4
precedence b.Ne = 4
precedence b.Lt = 5
precedence b.Le = 5
precedence b.Shl = 6
precedence b.Shr = 6
precedence b.Add = 7
precedence b.Sub = 7
precedence b.Mul = 8

-- A unary operator binds tighter than each binary operator.
abbrev pub unary_precedence : ℕ
unary_precedence = 9

-- A slice binds tighter than a unary operator.
abbrev pub slice_precedence : ℕ
slice_precedence = 10

-- A number, a name, a cell, and what is in brackets bind tightest.
abbrev pub primary_precedence : ℕ
primary_precedence = 11

-- How tightly an expression binds: the precedence of its outermost operator.
unfoldable pub precedence_of : Expression → ℕ
precedence_of (literal spot n) = primary_precedence
precedence_of (sized_literal spot w n) = primary_precedence
precedence_of (variable spot name) = primary_precedence
precedence_of (cell_at spot name index) = primary_precedence
precedence_of (unary_of spot o x) = unary_precedence
precedence_of (binary_of spot o x y) = precedence o
precedence_of (choice spot x y z) = 0
precedence_of (slice spot x high low) = slice_precedence
precedence_of (concat spot parts) = primary_precedence
precedence_of (zero_extend spot x w) = primary_precedence
