-- Expressions with numbers for names and a width for each number.
use Rattle.std.specs.Prelude.{ℕ, ◌-◌, List, Option, Some, None, eqb, if◌then◌else◌, unwrap_or}
use Rattle.sap_bits.specs.declared.Op1.{Op1}
use Rattle.sap_bits.specs.declared.Op1.TheVariants as one
use Rattle.sap_bits.specs.declared.Op2.{Op2}
use Rattle.sap_bits.specs.declared.Op2.TheVariants as two
use Rattle.sap_tree.specs.declared.syntax.UnaryOperator.{UnaryOperator}
use Rattle.sap_tree.specs.declared.syntax.UnaryOperator.TheVariants as unary
use Rattle.sap_tree.specs.declared.syntax.BinaryOperator.{BinaryOperator}
use Rattle.sap_tree.specs.declared.syntax.BinaryOperator.TheVariants as binary
use Rattle.sap_tree.specs.Syntax.{Expression, literal, sized_literal, variable, cell_at, unary_of, binary_of, choice, slice, concat, zero_extend, Expressions, no_part, and_part, TagExpression, level_of, tag_at, level_at, join_of, TagExpressions, no_tag, and_tag}
use Rattle.sap_names.specs.Entities.{what_is}
pub use Rattle.sap_names.specs.Entities.{entity_number}
use Rattle.sap_names.specs.declared.entity.Entity.{Entity}
use Rattle.sap_names.specs.Widths.{own, width_of, family, asked_left, asked_right, asked_one, index_width}
use Rattle.sap_maps.specs.Term.{Term}
use Rattle.sap_maps.specs.Term as term
use Rattle.sap_meaning.specs.Program.{LevelTerm, fixed, of, at_place, both}
use Rattle.sap_lattice.specs.Levels.{Levels, order_of}
use Rattle.sap_resolved.specs.Worlds.{level_number}

-- The operator on one number that a unary operator is.
abbrev pub one_of : UnaryOperator → Op1
one_of unary.Not = one.Not
one_of unary.Neg = one.Neg
one_of unary.AllOnes = one.AllOnes
one_of unary.AnyOne = one.AnyOne
one_of unary.Odd = one.Odd

-- The operator on two numbers that a binary operator is.
abbrev pub two_of : BinaryOperator → Op2
two_of binary.Or = two.Or
two_of binary.Xor = two.Xor
two_of binary.And = two.And
two_of binary.Eq = two.Eq
two_of binary.Ne = two.Ne
two_of binary.Lt = two.Lt
two_of binary.Le = two.Le
two_of binary.Shl = two.Shl
two_of binary.Shr = two.Shr
two_of binary.Add = two.Add
two_of binary.Sub = two.Sub
two_of binary.Mul = two.Mul

-- The number, which is there in every well-formed design, and 0 if there is none.
abbrev pub known : Option ℕ → ℕ
known n = unwrap_or n 0

-- A term with as many zeros in front as it lacks to a width; itself if it lacks none.
abbrev pub widened : (from width : ℕ) → Term ℕ → Term ℕ
widened from width t = if eqb from width then t else term.join (term.constant (width - from) 0) t

-- An expression over entities' numbers, in which each number without a width has the width that is asked of it.
abbrev mutual
  pub term_of : List Entity → Expression → (asked : Option ℕ) → Term ℕ
  term_of es (literal spot value) asked = term.constant (known asked) value
  term_of es (sized_literal spot width value) asked = term.constant width value
  term_of es (variable spot name) asked = term.read (entity_number es name)
  term_of es (cell_at spot name index) asked =
      term.cell (entity_number es name) (term_of es index (index_width (what_is es name)))
  term_of es (unary_of spot operator e) asked =
      term.one (one_of operator) (term_of es e
      (asked_one operator (width_of (what_is es) (unary_of spot operator e) asked)))
  term_of es (binary_of spot operator a b) asked =
      let whole = width_of (what_is es) (binary_of spot operator a b) asked in
      term.two (two_of operator) (term_of es a
      (asked_left (family operator) whole (own (what_is es) a) (own (what_is es) b)))
      (term_of es b (asked_right (family operator) whole (own (what_is es) a) (own (what_is es) b)))
  term_of es (choice spot condition a b) asked =
      let whole = width_of (what_is es) (choice spot condition a b) asked in
      term.choose (term_of es condition (Some 1)) (term_of es a whole) (term_of es b whole)
  term_of es (slice spot e high low) asked = term.part (term_of es e None) high low
  term_of es (concat spot parts) asked = parts_of es parts
  term_of es (zero_extend spot e width) asked = widened (known (own (what_is es) e)) width (term_of es e None)

  -- Two parts or more stand one in front of the others.
  pub parts_of : List Entity → Expressions → Term ℕ
  parts_of es no_part = term.constant 0 0
  parts_of es (and_part e no_part) = term_of es e None
  parts_of es (and_part e (and_part f parts)) = term.join (term_of es e None) (parts_of es (and_part f parts))

-- A tag expression over numbers of levels and entities.
abbrev mutual
  pub level_term : Levels → List Entity → TagExpression → LevelTerm
  level_term ls es (level_of m) = fixed (level_number ls m)
  level_term ls es (tag_at place e) = of (term_of es e None)
  level_term ls es (level_at place e) = at_place (term_of es e None)
  level_term ls es (join_of place parts) = level_terms ls es parts

  pub level_terms : Levels → List Entity → TagExpressions → LevelTerm
  level_terms ls es no_tag = fixed (order_of ls).bottom
  level_terms ls es (and_tag t no_tag) = level_term ls es t
  level_terms ls es (and_tag t (and_tag u parts)) = both (level_term ls es t) (level_terms ls es (and_tag u parts))
